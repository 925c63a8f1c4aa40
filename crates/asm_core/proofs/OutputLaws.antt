-- A line that is put into the place that was held for it.
use Rattle.std.proofs.Common.{◌≡◌, ◌+◌, ◌≤◌, Bool, true, false, List, [], Some, None, Ok, Err, length, refl, sym, ap, subst, ◌∙◌, arith}
use Rattle.std.specs.Prelude.{Option, Result, map, OnErr, if◌then◌else◌}
use Rattle.object_defs.specs.Modules.{Reference}
use Rattle.object_tags.specs.Seen.{model_of_ref}
use Rattle.asm_defs.specs.declared.content.Content.{Content}
use Rattle.asm_defs.specs.declared.location.Part.TheVariants as part
use Rattle.asm_defs.specs.declared.location.Location.{Location}
use Rattle.asm_defs.specs.SecondChecks.{Outcome, Nothing, Words, Bytes, Entry}
use Rattle.asm_defs.specs.Memory.{AssembledLine, bytes_in, same_part, is_placed_in, contents_by, references_of, after_by}
use Rattle.asm_defs.proofs.PlacedWords.{after_words}
use Rattle.module_image.specs.Images.{IsEmpty, IsImage, IsPut}
use Rattle.module_image.specs.declared.image.Image.{Image}
use Rattle.module_image.proofs.HoldingLaws.{contents_length}
use Rattle.module_image.proofs.SwapLaws.{image_filled}
use Rattle.asm_core.specs.Building.{ImageOf}
use Rattle.asm_core.specs.Resolving.{FillsBytes}
use Rattle.asm_core.specs.declared.second_pass.Output.{Output}

-- no word is a use in the part of dummy lines
dummy_uses : (at : Location) (references : List Reference) (outcome : Outcome) → is_placed_in at.part ≡ false → after_by at references outcome ≡ references
dummy_uses at references Nothing e = refl
dummy_uses at references (Words words) e = ap (λ b. if b then after_words at.part references at.number words else references) e
dummy_uses at references (Bytes bytes) e = refl
dummy_uses at references (Entry entry) e = refl

either_way : (b : Bool) (cells : List (Option Content)) → cells ≡ (if b then cells else cells)
either_way true cells = refl
either_way false cells = refl

nothing_put : (at : Location) (image : Image) → IsPut at [] image image
nothing_put at image = record {
  relocatable = either_way (same_part at.part part.Relocatable) image.relocatable.cells.items;
  absolute = either_way (same_part at.part part.Absolute) image.absolute.cells.items;
}

module _ (unused : List Reference) (at : Location) (found : Outcome) (within : at.number + bytes_in found ≤ 65536) where
  pub dummy_filled : (output : Output) → is_placed_in at.part ≡ false → FillsBytes unused at found output output
  dummy_filled output dummy = λ done others held resolved fills holds.
      let line : AssembledLine = record { at = at; outcome = found } in
      record {
        image = image_filled unused done held line fills others resolved [] (λ placed. cc (placed, dummy))
            (omega (arith, within)) output.image output.image holds.image (nothing_put at output.image);
        references = holds.references ∙ sym (dummy_uses at (references_of unused done) found dummy);
      }

  pub bytes_filled : (old new : Output) (given : List Content) → given ≡ contents_by at (map model_of_ref old.references.items) found
      → map model_of_ref new.references.items ≡ after_by at (map model_of_ref old.references.items) found → IsPut at given old.image new.image
      → FillsBytes unused at found old new
  bytes_filled old new given contents uses line_layout = λ done others held resolved fills holds.
      let line : AssembledLine = record { at = at; outcome = found } in
      let size : length given ≡ bytes_in found = ap length contents ∙ contents_length at (map model_of_ref old.references.items) found in
      record {
        image = image_filled unused done held line fills others resolved given
            (λ placed. contents ∙ ap (λ references. contents_by at references found) holds.references)
            (omega (arith, within, size)) old.image new.image holds.image line_layout;
        references = uses ∙ ap (λ references. after_by at references found) holds.references;
      }

-- the image of no lines
pub empty_image : (references : List Reference) (image : Image) → IsEmpty image → IsImage references [] image
empty_image references image empty = record { relocatable = empty.relocatable; absolute = empty.absolute }

pub first_image : (founds : List AssembledLine) (image : Image) → IsEmpty image → ImageOf founds None → ImageOf founds (Some image)
first_image founds image empty none = λ references. subst (λ lines. IsImage references lines image) (sym none) (empty_image references image empty)

pub on_err : {A E P : Type 0} (result : Result A E) → P → OnErr result P
on_err (Ok value) holds = tt
on_err (Err error) holds = holds
