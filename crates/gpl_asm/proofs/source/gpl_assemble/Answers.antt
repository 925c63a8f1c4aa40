use Rattle.std.proofs.Common.{◌≡◌, ◌+◌, [], ◌∷◌, Ok, ℕ, List, length, sym, ap, subst, ◌∙◌}
use Rattle.std.specs.Prelude.{Result}
use Rattle.source_defs.specs.declared.text.Line.{Line as TextLine}
use Rattle.source_defs.specs.Refusals.{Refusal, ◌>>=◌}
use Rattle.source_defs.specs.Lines.{LinesLieInside, line_texts}
use Rattle.expression_defs.specs.Layout.{line_layout, layout_after, has_ended}
use Rattle.expression_defs.proofs.LayoutLaws.{IsNumbered, lines_numbered, texts_of, ends_there, first_of_two}
use Rattle.gpl_source_defs.specs.declared.causes.GplCause.{GplCause}
use Rattle.gpl_source_defs.specs.Locations.{Line}
use Rattle.gpl_source_defs.specs.FirstChecks.{check}
use Rattle.gpl_source_defs.specs.Programs.{program_after}
use Rattle.gpl_asm.specs.Building.{IsAfter}
use Rattle.gpl_asm.specs.Finishing.{GivesProgram}
use Rattle.gpl_asm.proofs.source.gpl_assemble.Goals as goal
use Rattle.gpl_asm.proofs.source.gpl_assemble.Goals.{in-None, in-Some+in_ok-take+then-builder}

pub loop-line-init : goal.loop-line-init
loop-line-init c =
    let none = c.in_ok-builder.ensures.none in
    let empty : [] ≡ none.lines = cc none.line_layout in
    let text = c.args.text.now in
    let all = c.into_iter-line-iterator.ensures.into_iter_gives ∙ c.lines-line-items.ensures.all in (
      [],
      subst (λ lines. IsAfter lines c.in_ok-builder.builder) (sym empty) none.after_lines,
      c.in_ok-builder.ensures.open,
      subst (LinesLieInside text) (sym c.into_iter-line-iterator.ensures.into_iter_gives) c.lines-line-items.ensures.inside,
      subst (IsNumbered 1) (sym all) (lines_numbered text),
      ap (λ lines. layout_after check [] (texts_of text lines)) all,
    )

-- the lines that are left, from their first on
abbrev left_from : List ℕ → List Line → List TextLine → Result (List Line) (Refusal GplCause)
left_from text before lines = layout_after check before (texts_of text lines)

pub returns : goal.returns
returns c =
    let i = c.loop-line.invariant in
    let text = c.args.text.now in
    let before = i.0 in
    elim c.match-next.branch [
      | in-None w ↦
          let whole : Ok before ≡ line_layout check (line_texts text) = ap (left_from text before) (sym w.in-None.ensures.steps.0) ∙ i.5 in
          subst (GivesProgram c.program.result) (ap (λ answer. answer >>= program_after) whole)
          (c.program.ensures before (subst (IsAfter before) (sym w.builder-is) i.1))
      | in-Some+in_ok-take+then-builder w ↦
          let line = w.in-Some.line in
          let next = c.next.new.self in
          let steps = w.in-Some.ensures.steps in
          let numbered : IsNumbered (length before + 1) (line ∷ next) = subst (IsNumbered (length before + 1)) steps i.4 in
          let taken = (rw w.split_line.ensures at (w.in_ok-take.ensures.takes before i.1)) in
          let last = first_of_two taken.0.last (has_ended before) (sym taken.2.ended ∙ w.if-builder.true) (sym i.1.ended ∙ i.2) in
          let whole : Ok (taken.0 ∷ before) ≡ line_layout check (line_texts text) =
          sym (ends_there check text before line next numbered.0 taken.0 taken.1 last) ∙ (ap (left_from text before) (sym steps) ∙ i.5) in
          subst (GivesProgram c.program.result) (ap (λ answer. answer >>= program_after) whole)
          (c.program.ensures (taken.0 ∷ before) (subst (IsAfter (taken.0 ∷ before)) (sym w.builder-is) taken.2))
    ]
