use Rattle.std.proofs.Common.{◌≡◌, ◌+◌, ◌-◌, ◌<◌, length, refl, sym, subst, ◌∙◌, arith}
use Rattle.std.proofs.lemmas.List.{get_or_read}
use Rattle.bench_shelf.specs.Runs.{ComesNext}
use Rattle.bench_shelf.specs.CopyAnswers.{place_in}
use Rattle.bench_shelf.specs.declared.run.Run.{Run}
use Rattle.bench_shelf.proofs.RunLaws.{places_grown}
use Rattle.bench_shelf.proofs.runs.note_place.Goals as goal

pub returns-then-is_next : goal.returns-then-is_next
returns-then-is_next c =
    let runs = c.args.runs.now.items in
    let last = c.index_mut.result.now in
    let within : c.len-count.result - 1 < length runs = omega arith in
    let size : c.len-count.result - 1 + 1 ≡ length runs = omega arith in
    let same : c.index.result.now ≡ last =
    get_or_read runs _ _ within c.index.ensures last ∙ sym c.index_mut.ensures.value in
    let next : ComesNext last (place_in c.args.file.now c.args.line) =
    subst (λ (run : Run). ComesNext run (place_in c.args.file.now c.args.line)) same (c.is_next.ensures c.if-is_next.true) in
    places_grown runs (c.len-count.result - 1) last _ (place_in c.args.file.now c.args.line) size c.index_mut.ensures.value next refl refl refl
