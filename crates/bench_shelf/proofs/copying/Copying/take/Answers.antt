use Rattle.std.proofs.Common.{[], ◌∷◌, ◌++◌, length, refl, sym, ap, subst, arith, length-append}
use Rattle.shelf_defs.specs.Assembly.{texts, layout_copied}
use Rattle.shelf_defs.specs.Copied.{own_line, prepend}
use Rattle.source_defs.specs.Lines.{numbered}
use Rattle.expression_defs.specs.Layout.{line_layout}
use Rattle.asm_defs.specs.declared.causes.AsmCause.{AsmCause}
use Rattle.asm_defs.specs.FirstChecks.{check}
use Rattle.asm_core.specs.Finishing.{RefusesAt}
use Rattle.bench_shelf.specs.declared.copy_error.CopyCause.TheVariants.{Asm}
use Rattle.bench_shelf.specs.Runs.{places_of}
use Rattle.bench_shelf.specs.CopyAnswers.{model_of_place, place_in, refused_at, CopyRefuses, IsOwnCause}
use Rattle.bench_shelf.proofs.TakingLaws.{refusal_is, own_taken, own_refused}
use Rattle.bench_shelf.proofs.copying.Copying.take.Goals as goal

pub returns-in-Err-At-clause-leads : goal.returns-in-Err-At-clause-leads
returns-in-Err-At-clause-leads c done holds =
    let old = c.args.self.now in
    let place = place_in c.args.file.now c.args.line in
    let text = c.args.own.now.text.now in
    let refuses = c.in-Err-At.ensures.texts (texts done) holds.taken in
    let refused = own_refused old _ place text done _ c.in-Err-At.cause c.requires.going holds
    (subst (λ error. RefusesAt error (line_layout check (numbered 1 (texts done ++ text ∷ [])))) c.in-Err-At.field-0-is refuses.0) refuses.1 refl refl in (
      subst (λ (cause : AsmCause). CopyRefuses (refused_at place (Asm cause)) (layout_copied (prepend done (own_line (model_of_place place) old.copies text))))
          (sym c.in-Err-At.cause-is) refused.0,
      refused.1,
    )

pub returns-clause-leads : goal.returns-clause-leads
returns-clause-leads c done holds =
    let old = c.args.self.now in
    let place = place_in c.args.file.now c.args.line in
    own_taken old _ place c.args.own.now.text.now done c.requires.going holds (c.in-Ok.ensures.texts (texts done) holds.taken) c.in_ok-note_place.ensures refl
    c.in-Ok.taken c.in-Ok.ensures.lines c.in_ok-keep_line.ensures.kept

pub returns-clause-grows : goal.returns-clause-grows
returns-clause-grows c =
    let held = c.requires.room.held in
    let old = c.args.self.now in
    let at = place_in c.args.file.now c.args.line in
    let goes = own_taken old _ at c.args.own.now.text.now held.0 c.requires.going held.1 (c.in-Ok.ensures.texts (texts held.0) held.1.taken) c.in_ok-note_place.ensures refl
    c.in-Ok.taken c.in-Ok.ensures.lines c.in_ok-keep_line.ensures.kept in
    record {
      held = (_, goes.holds);
      copies = omega arith;
      few = omega (arith, ap length c.in_ok-note_place.ensures, length-append (places_of old.runs.items) (model_of_place at ∷ []));
    }

pub returns-in-Err-At-clause-causes : goal.returns-in-Err-At-clause-causes
returns-in-Err-At-clause-causes c =
    let held = c.requires.room.held in
    let refuses = (c.in-Err-At.ensures.texts (texts held.0) held.1.taken).0 in
    let own = refusal_is _ c.in-Err-At.cause _
    (subst (λ error. RefusesAt error (line_layout check (numbered 1 (texts held.0 ++ c.args.own.now.text.now ∷ [])))) c.in-Err-At.field-0-is refuses) in
    subst IsOwnCause (sym c.in-Err-At.cause-is) own.0
