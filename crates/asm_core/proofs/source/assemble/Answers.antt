use Rattle.std.proofs.Common.{◌≡◌, ◌+◌, ℕ, List, [], ◌∷◌, Ok, Err, length, sym, ap, subst, ◌∙◌, arith}
use Rattle.source_defs.specs.declared.text.Line.{Line as TextLine}
use Rattle.source_defs.specs.Refusals.{◌>>=◌}
use Rattle.source_defs.specs.Lines.{LinesLieInside, line_texts}
use Rattle.expression_defs.specs.Layout.{line_layout, layout_after}
use Rattle.asm_defs.specs.Locations.{Line}
use Rattle.asm_defs.specs.FirstChecks.{check}
use Rattle.asm_defs.specs.Modules.{module_after}
use Rattle.std.specs.Prelude.{Result}
use Rattle.std.proofs.lemmas.Result.{err_from_is_err_and}
use Rattle.source_defs.specs.Refusals.{Refusal}
use Rattle.asm_defs.specs.declared.causes.AsmCause.{AsmCause}
use Rattle.expression_defs.specs.Layout.{has_ended}
use Rattle.asm_core.specs.Building.{IsAfter, Takes}
use Rattle.asm_core.specs.Finishing.{GivesModule}
use Rattle.asm_core.proofs.ResolveLaws.{refuses_on}
use Rattle.asm_core.proofs.SourceLaws.{IsNumbered, lines_numbered, texts_of, refused_there, ends_there, goes_on, first_of_two, none_of_two}
use Rattle.asm_core.proofs.source.assemble.Goals as goal
use Rattle.asm_core.proofs.source.assemble.Goals.{in-None, in-Some+in_ok-take+then-builder}

pub loop-line-init : goal.loop-line-init
loop-line-init c =
    let none = c.new-builder.ensures.none in
    let empty : [] ≡ none.lines = cc none.line_layout in
    let text = c.args.text.now in
    let all = c.into_iter-line-iterator.ensures.into_iter_gives ∙ c.lines-line-items.ensures.all in (
      [],
      subst (λ lines. IsAfter lines c.new-builder.result) (sym empty) none.after_lines,
      c.new-builder.ensures.open,
      subst (LinesLieInside text) (sym c.into_iter-line-iterator.ensures.into_iter_gives) c.lines-line-items.ensures.inside,
      subst (IsNumbered 1) (sym all) (lines_numbered text),
      ap (λ lines. layout_after check [] (texts_of text lines)) all,
    )

-- the lines that are left, from their first on
abbrev left_from : List ℕ → List Line → List TextLine → Result (List Line) (Refusal AsmCause)
left_from text before lines = layout_after check before (texts_of text lines)

pub loop-line-preserved : goal.loop-line-preserved
loop-line-preserved c =
    let i = c.loop-line.invariant in
    let text = c.args.text.now in
    let before = i.0 in
    let line = c.in-Some.line in
    let next = c.next.new.self in
    let steps = c.in-Some.ensures.steps in
    let inside : LinesLieInside text (line ∷ next) = subst (LinesLieInside text) steps i.3 in
    let numbered : IsNumbered (length before + 1) (line ∷ next) = subst (IsNumbered (length before + 1)) steps i.4 in
    let taken = (rw c.split_line.ensures at (c.in_ok-take.ensures before i.1)) in
    let last = none_of_two taken.0.last (has_ended before) (sym taken.2.ended ∙ c.if-builder.false) in
    let count : length before + 1 + 1 ≡ length (taken.0 ∷ before) + 1 = omega arith in (
      taken.0 ∷ before,
      taken.2,
      c.if-builder.false,
      inside.1,
      subst (λ number. IsNumbered number next) count numbered.1,
      sym (goes_on text before line next numbered.0 taken.0 taken.1 last) ∙ (ap (left_from text before) (sym steps) ∙ i.5),
    )

pub returns-in_err-take : goal.returns-in_err-take
returns-in_err-take c =
    let i = c.loop-line.invariant in
    let text = c.args.text.now in
    let before = i.0 in
    let line = c.in-Some.line in
    let next = c.next.new.self in
    let steps = c.in-Some.ensures.steps in
    let numbered : IsNumbered (length before + 1) (line ∷ next) = subst (IsNumbered (length before + 1)) steps i.4 in
    let error = c.in_err-take.field-0.0 in
    let p = err_from_is_err_and c.from_residual.result c.from_residual.ensures.1 in
    let refused = refused_there text before line next numbered.0 error c.take.new.self
    (subst (λ (own : List ℕ). Takes before own (Err error) c.take.new.self) c.split_line.ensures (c.in_err-take.ensures before i.1)) in
    rw (p.1, p.2) (refuses_on error (left_from text before (line ∷ next)) _
    (λ refusal e. ap (λ answer. answer >>= module_after) (sym i.5 ∙ (ap (left_from text before) steps ∙ e)))
    refused)

pub returns : goal.returns
returns c =
    let i = c.loop-line.invariant in
    let text = c.args.text.now in
    let before = i.0 in
    elim c.match-next.branch [
      | in-None w ↦
          let whole : Ok before ≡ line_layout check (line_texts text) = ap (left_from text before) (sym w.in-None.ensures.steps.0) ∙ i.5 in
          subst (GivesModule c.module.result) (ap (λ answer. answer >>= module_after) whole)
          (c.module.ensures.gives before (subst (IsAfter before) (sym w.builder-is) i.1))
      | in-Some+in_ok-take+then-builder w ↦
          let line = w.in-Some.line in
          let next = c.next.new.self in
          let steps = w.in-Some.ensures.steps in
          let numbered : IsNumbered (length before + 1) (line ∷ next) = subst (IsNumbered (length before + 1)) steps i.4 in
          let taken = (rw w.split_line.ensures at (w.in_ok-take.ensures before i.1)) in
          let last =
          first_of_two taken.0.last (has_ended before) (sym taken.2.ended ∙ w.if-builder.true) (sym i.1.ended ∙ i.2) in
          let whole : Ok (taken.0 ∷ before) ≡ line_layout check (line_texts text) =
          sym (ends_there text before line next numbered.0 taken.0 taken.1 last) ∙ (ap (left_from text before) (sym steps) ∙ i.5) in
          subst (GivesModule c.module.result) (ap (λ answer. answer >>= module_after) whole)
          (c.module.ensures.gives (taken.0 ∷ before) (subst (IsAfter (taken.0 ∷ before)) (sym w.builder-is) taken.2))
    ]
