use Rattle.std.proofs.Common.{◌<◌, None, refl, sym, ap, ◌∙◌, subst, arith}
use Rattle.source_defs.specs.Lines.{LinesLieInside, line_texts}
use Rattle.expression_defs.proofs.LayoutLaws.{texts_of}
use Rattle.shelf_defs.specs.CopyLines.{File, Bad}
use Rattle.shelf_defs.specs.Copied as spec
use Rattle.shelf_defs.specs.Copied.{most_bytes}
use Rattle.bench_shelf.specs.declared.copy_error.CopyCause.TheVariants as cause
use Rattle.bench_shelf.specs.CopyAnswers.{model_of_place}
use Rattle.bench_shelf.proofs.CountLaws.{file_room}
use Rattle.bench_shelf.proofs.FileLaws.{refuses_none, deep_copies, many_copies, copies_unread, copies_read}
use Rattle.bench_shelf.proofs.SinceLaws.{causes_unread, causes_since, each_since}
use Rattle.bench_shelf.proofs.UnchangedParts.{within_then}
use Rattle.bench_shelf.proofs.LoopLaws.{first_text, own_copies, own_refuses, asked_copies, all_taken, follows_first, follows_more, follows_end}
use Rattle.bench_shelf.proofs.LoopLaws.{follows_refused, later_first, later_then, counts_first, counts_more, counts_grow}
use Rattle.bench_shelf.proofs.copying.Copying.+copying.Goals as goal

pub copy_asked-returns-in-Ok-clause-copies : goal.copy_asked-returns-in-Ok-clause-copies
copy_asked-returns-in-Ok-clause-copies g t c =
    own_copies c.args.levels _ c.args.self.now c.take.new.self (model_of_place c.args.place) c.args.line.now.text.now None (sym c.in-Itself.ensures) c.take.ensures.copies tt
    c.in-Ok.ensures.leads

pub copy_asked-returns-in-Err-clause-copies : goal.copy_asked-returns-in-Err-clause-copies
copy_asked-returns-in-Err-clause-copies g t c =
    own_refuses c.args.levels _ c.args.self.now c.take.new.self (model_of_place c.args.place) c.args.line.now.text.now c.args.place c.in-Err.failure c.failed.result
    (sym c.failed.ensures) (sym c.in-Itself.ensures) c.take.ensures.copies c.in-Err.ensures.leads

pub copy_asked-returns-in-File-clause-copies : goal.copy_asked-returns-in-File-clause-copies
copy_asked-returns-in-File-clause-copies g t c =
    asked_copies c.args.levels _ _ c.args.self.now c.copy_file.new.self (model_of_place c.args.place) c.args.line.now.text.now (File c.in-File.name) _ c.in-File.ensures
    c.copy_file.ensures.copies

pub copy_asked-returns-in-Bad-clause-copies : goal.copy_asked-returns-in-Bad-clause-copies
copy_asked-returns-in-Bad-clause-copies g t c =
    asked_copies c.args.levels _ _ c.args.self.now c.args.self.now (model_of_place c.args.place) c.args.line.now.text.now Bad _ c.in-Bad.ensures
    (refuses_none c.args.self.now _ c.args.place spec.BadCopy cause.BadCopy c.refused.result _ refl tt c.refused.ensures (λ contents. refl))

pub copy_file-returns-then-levels-eq0-clause-copies : goal.copy_file-returns-then-levels-eq0-clause-copies
copy_file-returns-then-levels-eq0-clause-copies g t c =
    deep_copies c.args.self.now c.args.levels c.args.place c.args.name _ _ c.if-levels-eq0.true c.refused.ensures

pub copy_file-returns-then-self-ge-MOST_COPIES-clause-copies : goal.copy_file-returns-then-self-ge-MOST_COPIES-clause-copies
copy_file-returns-then-self-ge-MOST_COPIES-clause-copies g t c =
    let some : 0 < c.args.levels = omega (arith, c.if-levels-eq0.false) in
    many_copies c.args.self.now c.args.levels c.args.place c.args.name some _ _ c.if-self-ge-MOST_COPIES.true c.refused-then-self-ge-MOST_COPIES.ensures

pub copy_file-returns-in-Err-clause-copies : goal.copy_file-returns-in-Err-clause-copies
copy_file-returns-in-Err-clause-copies g t c =
    let some : 0 < c.args.levels = omega (arith, c.if-levels-eq0.false) in
    copies_unread c.args.self.now c.args.levels c.args.place c.args.name some _ c.if-self-ge-MOST_COPIES.false _ _ c.in-Err.error c.unread.result
    c.unread.ensures refl c.in-Err.ensures.refused c.in-Err.ensures.missed (λ done holds. record { taken = holds.taken; places = holds.places; kept = holds.kept })

pub copy_file-returns-clause-copies : goal.copy_file-returns-clause-copies
copy_file-returns-clause-copies g t c =
    let some : 0 < c.args.levels = omega (arith, c.if-levels-eq0.false) in
    copies_read c.args.self.now c.args.levels c.args.place c.args.name some _ c.if-self-ge-MOST_COPIES.false _ c.copy_lines.new.self _ _ c.in-Ok.bytes.items refl
    c.in-Ok.ensures.given c.in-Ok.ensures.size (λ done holds. record { taken = holds.taken; places = holds.places; kept = holds.kept }) _ _
    c.as_slice.ensures.value c.copy_lines.ensures.copies

pub copy_file-returns-in-Err-clause-causes : goal.copy_file-returns-in-Err-clause-causes
copy_file-returns-in-Err-clause-causes g t c =
    causes_unread _ _ c.args.place c.in-Err.error c.unread.result c.unread.ensures c.in-Err.ensures.causes

pub copy_file-returns-clause-causes : goal.copy_file-returns-clause-causes
copy_file-returns-clause-causes g t c =
    each_since _ _ _ c.read_named.ensures.later c.in-Ok.ensures.within _ c.copy_lines.ensures.causes

pub copy_lines-loop-line-init : goal.copy_lines-loop-line-init
copy_lines-loop-line-init g t c =
    let text = c.args.text.now in
    let old = c.args.self.now in
    let gives = c.into_iter-line-iterator.ensures.into_iter_gives in
    let all = gives ∙ c.lines-line-items.ensures.all in
    record {
      next = tt;
      finite = tt;
      going = c.requires.going;
      later = later_first _;
      most = c.requires.room.copies;
      same = refl;
      counts = counts_first text old _ c.requires.room all;
      inside = subst (LinesLieInside text) (sym gives) c.lines-line-items.ensures.inside;
      follows = follows_first c.args.levels c.args.file.now _ _ old (line_texts text) _ (ap (texts_of text) all) refl;
      within = omega arith;
    }

pub copy_lines-returns-clause-copies : goal.copy_lines-returns-clause-copies
copy_lines-returns-clause-copies g t c =
    let i = c.loop-line.invariant in
    all_taken i.follows (ap (texts_of c.args.text.now) c.in-None.ensures.steps.0) i.going

pub copy_lines-returns-clause-grows : goal.copy_lines-returns-clause-grows
copy_lines-returns-clause-grows g t c = counts_grow _ _ _ _ c.loop-line.invariant.counts

-- a line of a file is refused
pub copy_lines-returns-in-Err-clause-copies : goal.copy_lines-returns-in-Err-clause-copies
copy_lines-returns-in-Err-clause-copies g t c =
    follows_refused c.loop-line.invariant.follows (first_text c.args.text.now c.in-Some.ensures.steps (c.split_line-own.ensures ∙ c.part.ensures)) c.in-Err.error
    (rw c.place_in.ensures at c.in-Err.ensures.copies)

pub copy_lines-returns-in-Err-clause-causes : goal.copy_lines-returns-in-Err-clause-causes
copy_lines-returns-in-Err-clause-causes g t c =
    causes_since _ _ _ c.loop-line.invariant.later c.loop-line.invariant.within c.in-Err.error c.in-Err.ensures.causes

-- or it was taken
pub copy_lines-returns-then-is_ended-clause-copies : goal.copy_lines-returns-then-is_ended-clause-copies
copy_lines-returns-then-is_ended-clause-copies g t c =
    follows_end c.loop-line.invariant.follows (first_text c.args.text.now c.in-Some.ensures.steps (c.split_line-own.ensures ∙ c.part.ensures))
    (λ going. (cc (c.is_ended.ensures.open.1 going, c.if-is_ended.true))) (rw c.place_in.ensures at c.in-Ok.ensures.copies)

pub copy_lines-returns-then-is_ended-clause-grows : goal.copy_lines-returns-then-is_ended-clause-grows
copy_lines-returns-then-is_ended-clause-grows g t c =
    counts_grow _ _ _ _ (counts_more _ _ _ _ _ _ _ c.loop-line.invariant.counts c.in-Some.ensures.steps c.in-Ok.ensures.grows)

pub copy_lines-loop-line-preserved : goal.copy_lines-loop-line-preserved
copy_lines-loop-line-preserved g t c =
    let i = c.loop-line.invariant in
    let state = g.F.Shelf.shelf in
    let text = c.args.text.now in
    let inside = subst (LinesLieInside text) c.in-Some.ensures.steps i.inside in
    let going = c.is_ended.ensures.open.0 c.if-is_ended.false in
    record {
      next = tt;
      finite = tt;
      going = going;
      later = later_then _ _ _ i.later c.copy_asked.ensures.later;
      most = c.copy_asked.ensures.most;
      same = c.copy_asked.ensures.same ∙ i.same;
      counts = counts_more _ _ _ _ _ _ _ i.counts c.in-Some.ensures.steps c.in-Ok.ensures.grows;
      inside = inside.1;
      follows = follows_more i.follows (first_text text c.in-Some.ensures.steps (c.split_line-own.ensures ∙ c.part.ensures)) going (rw c.place_in.ensures at c.in-Ok.ensures.copies);
      within = within_then most_bytes (state c.args.shelf.now) (state c.loop-line.shelf) (state c.copy_asked.new.shelf) i.within c.in-Ok.ensures.within;
    }

pub copy_file-copy_lines-requires : goal.copy_file-copy_lines-requires
copy_file-copy_lines-requires g t c κs lives =
    let old = c.args.self.now in (
      omega (arith, c.if-levels-eq0.false),
      (
        λ a found. lives a found,
        (
          c.requires.going,
          file_room old.alloc old.builder old.runs old.kept old.copies c.in-Ok.bytes.items c.as_slice.result.now c.requires.room
              c.if-self-ge-MOST_COPIES.false c.as_slice.ensures.value c.in-Ok.ensures.size,
        ),
      ),
    )
