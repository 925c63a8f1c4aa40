use Rattle.std.proofs.Common.{[], subst}
use Rattle.std.specs.Prelude.{Option}
use Rattle.module_image.specs.declared.image.Image.{Image}
use Rattle.asm_core.specs.Building.{ImageOf}
use Rattle.asm_core.proofs.lines.AsmLines.place.Goals as goal

pub returns-clause-placed : goal.returns-clause-placed
returns-clause-placed c = λ earlier line is contents.
    let image = subst (λ (image : Option Image). ImageOf earlier image) c.in-Some.is is in
    let first = c.place.ensures [] earlier line (image []) contents.0 (contents.1 []) in
    record {
      room = first.room;
      placed = λ references. (c.place.ensures references earlier line (image references) contents.0 (contents.1 references)).image;
    }
