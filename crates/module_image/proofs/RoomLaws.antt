-- Whether a line has room.
use Rattle.std.proofs.Common.{◌≡◌, ◌+◌, ◌<◌, ◌≤◌, true, false, List, ◌∷◌, Ok, Err, length, refl, arith}
use Rattle.std.specs.Prelude.{nat_lt}
use Rattle.std.proofs.lemmas.Bool.Decides.{nat_tests}
use Rattle.object_defs.specs.Modules.{Reference}
use Rattle.asm_defs.specs.declared.causes.AsmCause.TheVariants.{Overflow, Overlap}
use Rattle.asm_defs.specs.declared.content.Content.{Content}
use Rattle.asm_defs.specs.declared.location.Location.{Location}
use Rattle.asm_defs.specs.declared.location.Part.{Part}
use Rattle.asm_defs.specs.declared.location.Part.TheVariants as part
use Rattle.asm_defs.specs.Memory.{AssembledLine, contents, same_part, is_placed_in, word_count, overlaps}
use Rattle.asm_defs.specs.Modules.{with_room}
use Rattle.module_image.specs.Images.{IsImage, IsPut, any_in, any_put}
use Rattle.module_image.specs.declared.image.Image.{Image}
use Rattle.module_image.proofs.HoldingLaws.{part_holds, any_there, any_nowhere, words_are}

module _ (earlier : List AssembledLine) (line : AssembledLine) where
  pub is_full : 32768 < word_count (line ∷ earlier) → with_room earlier line ≡ Err Overflow
  is_full lt =
      let full : nat_lt 32768 (word_count (line ∷ earlier)) ≡ true = grind (arith, nat_tests, lt) in
      rw full refl

  fits : word_count (line ∷ earlier) ≤ 32768 → nat_lt 32768 (word_count (line ∷ earlier)) ≡ false
  fits le = grind (arith, nat_tests, le)

  pub is_over : word_count (line ∷ earlier) ≤ 32768 → overlaps earlier line ≡ true → with_room earlier line ≡ Err Overlap
  is_over le over = rw (fits le, over) refl

  pub has_room : word_count (line ∷ earlier) ≤ 32768 → overlaps earlier line ≡ false → with_room earlier line ≡ Ok line
  has_room le over = rw (fits le, over) refl

-- the words of both tables are those of the lines
pub words_counted : (references : List Reference) (lines : List AssembledLine) (image : Image) → IsImage references lines image
    → word_count lines ≡ image.relocatable.words + image.absolute.words
words_counted references lines image is =
    omega (
      arith,
      words_are references lines part.Relocatable image.relocatable.cells.items is.relocatable,
      words_are references lines part.Absolute image.absolute.cells.items is.absolute,
      image.relocatable.counted,
      image.absolute.counted,
    )

module _ (references : List Reference) (earlier : List AssembledLine) (line : AssembledLine) (at : Location) (given : List Content) (old : Image) (is : IsImage references earlier old) (is_at : line.at ≡ at) (is_given : is_placed_in at.part ≡ true → given ≡ contents references earlier line) (within : at.number + length given ≤ 65536) where
  pub image_after : (new : Image) → IsPut at given old new → IsImage references (line ∷ earlier) new
  image_after new put_there = record {
    relocatable = part_holds references earlier line at given is_at is_given within part.Relocatable (same_part at.part part.Relocatable)
        old.relocatable.cells.items new.relocatable.cells.items refl old.relocatable.size is.relocatable put_there.relocatable;
    absolute = part_holds references earlier line at given is_at is_given within part.Absolute (same_part at.part part.Absolute)
        old.absolute.cells.items new.absolute.cells.items refl old.absolute.size is.absolute put_there.absolute;
  }

  any_by : (found : Part) → at.part ≡ found → any_in found old at.number (length given) ≡ overlaps earlier line
  any_by part.Relocatable there =
      any_there references earlier line at given is_at is_given within part.Relocatable old.relocatable.cells.items is.relocatable there refl
  any_by part.Absolute there =
      any_there references earlier line at given is_at is_given within part.Absolute old.absolute.cells.items is.absolute there refl
  any_by part.Dummy there = any_nowhere references earlier line at given is_at is_given within there

  pub overlaps_are : any_put old at (length given) ≡ overlaps earlier line
  overlaps_are = any_by at.part refl
