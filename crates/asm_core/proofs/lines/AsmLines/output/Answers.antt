use Rattle.std.proofs.Common.{[], Some, None, refl, sym, ap, subst, ◌∙◌}
use Rattle.std.specs.Prelude.{Option, map}
use Rattle.source_defs.specs.Orders.{onto}
use Rattle.asm_defs.specs.Modules.{unused}
use Rattle.module_image.specs.declared.image.Image.{Image}
use Rattle.asm_core.specs.Building.{ImageOf}
use Rattle.asm_core.proofs.OutputLaws.{first_image}
use Rattle.asm_core.proofs.lines.AsmLines.output.Goals as goal
use Rattle.asm_core.proofs.lines.AsmLines.output.Goals.{in-Some, in-None+in_ok-image-in-None}

pub returns-clause-output : goal.returns-clause-output
returns-clause-output c = λ founds is.
    let lines = onto [] founds in
    let image : ImageOf lines (Some c.match-take.image) =
    elim c.match-take.branch [
      | in-Some w ↦
          let there : ImageOf lines (Some w.in-Some.image) = subst (λ (image : Option Image). ImageOf lines image) (sym c.take.ensures.value
          ∙ w.in-Some.is) is in
          subst (λ (image : Image). ImageOf lines (Some image)) (sym w.image-is) there
      | in-None+in_ok-image-in-None w ↦
          let none : ImageOf lines None = subst (λ (image : Option Image). ImageOf lines image) (sym c.take.ensures.value ∙ w.in-None.is) is in
          subst (λ (image : Image). ImageOf lines (Some image)) (sym w.image-is) (first_image lines _ w.in_ok-image-in-None.ensures none)
    ] in
    record {
      bytes = record {
        image = image (map unused c.args.self.now.refs.items);
        references = c.in_ok-references.ensures ∙ ap (map unused) c.as_slice.ensures.value;
      };
      entry = refl;
    }
