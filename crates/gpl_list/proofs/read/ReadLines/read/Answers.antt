use Rattle.std.proofs.Common.{◌≡◌, suc, ◌+◌, arith, false, [], ◌∷◌, length, sym, subst, ◌∙◌}
use Rattle.std.proofs.lemmas.Result.{err_from_is_err_and}
use Rattle.source_defs.specs.Lines.{LinesLieInside, line_texts}
use Rattle.expression_defs.specs.Layout.{has_ended}
use Rattle.expression_defs.proofs.LayoutLaws.{IsNumbered, lines_numbered}
use Rattle.gpl_asm.specs.Building.{IsAfter}
use Rattle.gpl_list.proofs.ReadLaws.{keeps_none}
use Rattle.gpl_list.proofs.PassLaws.{Passed, passed_none, text_is, has_taken, passed_more, passed_end, read_refused}
use Rattle.gpl_list.proofs.read.ReadLines.read.Goals as goal

pub loop-line-init : goal.loop-line-init
loop-line-init c =
    let none = c.requires.none in
    let empty : [] ≡ none.taken.lines = cc none.taken.line_layout in
    let text = c.args.text.now in
    let all = c.into_iter-line-iterator.ensures.into_iter_gives ∙ c.lines-line-items.ensures.all in
    let after_lines = subst (λ lines. IsAfter lines c.args.self.now.builder) (sym empty) none.taken.after_lines in (
      [],
      after_lines,
      none.going,
      subst (LinesLieInside text) (sym c.into_iter-line-iterator.ensures.into_iter_gives) c.lines-line-items.ensures.inside,
      subst (IsNumbered 1) (sym all) (lines_numbered text),
      keeps_none (line_texts text) c.args.self.now after_lines none.rows none.names,
      subst (Passed text []) (sym all) (passed_none text),
    )

pub returns-in_err-take : goal.returns-in_err-take
returns-in_err-take c =
    let i = c.loop-line.invariant in
    let text = c.args.text.now in
    let before = i.0 in
    let line = c.in-Some.line in
    let next = c.next.new.self in
    let steps = c.in-Some.ensures.steps in
    let numbered : IsNumbered (length before + 1) (line ∷ next) = subst (IsNumbered (length before + 1)) steps i.4 in
    let passed : Passed text before (line ∷ next) = subst (Passed text before) steps i.6 in
    let p = err_from_is_err_and c.from_residual.result c.from_residual.ensures.1 in
    let there = text_is text before line next numbered.0 passed in
    rw (p.1, p.2) (read_refused text before line next numbered.0 passed (Unit {0}) (Unit {0}) c.in_err-take.field-0.0 c.take.new.self
    (c.in_err-take.ensures {u = tt} (line_texts text) before i.5 numbered.0 there))

pub loop-line-preserved : goal.loop-line-preserved
loop-line-preserved c =
    let i = c.loop-line.invariant in
    let text = c.args.text.now in
    let before = i.0 in
    let line = c.in-Some.line in
    let next = c.next.new.self in
    let steps = c.in-Some.ensures.steps in
    let numbered : IsNumbered (length before + 1) (line ∷ next) = subst (IsNumbered (length before + 1)) steps i.4 in
    let inside : LinesLieInside text (line ∷ next) = subst (LinesLieInside text) steps i.3 in
    let passed : Passed text before (line ∷ next) = subst (Passed text before) steps i.6 in
    let there = text_is text before line next numbered.0 passed in
    let t = c.in_ok-take.ensures {u = tt} (line_texts text) before i.5 numbered.0 there in
    let going : has_ended before ≡ false = sym i.1.ended ∙ i.2 in
    let taken = has_taken text before line next numbered.0 passed t.0 c.take.new.self.builder t.1 going t.2.after_lines in
    let count : length before + 1 + 1 ≡ suc (length before) + 1 = omega arith in
    let ended : has_ended (t.0 ∷ before) ≡ false = sym (c.is_ended.ensures.ended _ taken) ∙ c.if-is_ended.false in (
      t.0 ∷ before,
      t.2.after_lines,
      t.2.after_lines.ended ∙ ended,
      inside.1,
      subst (λ number. IsNumbered number next) count numbered.1,
      t.2,
      passed_more text before line next numbered.0 passed t.0 t.1 going ended,
    )

pub returns-then-is_ended : goal.returns-then-is_ended
returns-then-is_ended c =
    let i = c.loop-line.invariant in
    let text = c.args.text.now in
    let before = i.0 in
    let line = c.in-Some.line in
    let next = c.next.new.self in
    let steps = c.in-Some.ensures.steps in
    let numbered : IsNumbered (length before + 1) (line ∷ next) = subst (IsNumbered (length before + 1)) steps i.4 in
    let passed : Passed text before (line ∷ next) = subst (Passed text before) steps i.6 in
    let there = text_is text before line next numbered.0 passed in
    let t = c.in_ok-take.ensures {u = tt} (line_texts text) before i.5 numbered.0 there in
    let going : has_ended before ≡ false = sym i.1.ended ∙ i.2 in
    let taken = has_taken text before line next numbered.0 passed t.0 c.take.new.self.builder t.1 going t.2.after_lines in
    let ended = sym (c.is_ended.ensures.ended _ taken) ∙ c.if-is_ended.true in
    (t.0 ∷ before, passed_end text before line next numbered.0 passed t.0 t.1 going ended, t.2)
