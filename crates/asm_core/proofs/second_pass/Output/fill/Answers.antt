use Rattle.std.proofs.Common.{◌∷◌, Vec, Global, sym, ap, subst, ◌∙◌}
use Rattle.std.specs.Prelude.{map}
use Rattle.source_defs.specs.Orders.{onto}
use Rattle.object_tags.specs.Seen.{model_of_ref}
use Rattle.object_tags.specs.declared.parts.Ref.{Ref}
use Rattle.asm_defs.specs.Memory.{AssembledLine}
use Rattle.asm_defs.specs.Modules.{entry_by}
use Rattle.asm_checks.specs.Outcomes.{model_of_outcome}
use Rattle.module_image.specs.Images.{IsImage}
use Rattle.module_image.specs.declared.image.Image.{Image}
use Rattle.asm_core.proofs.second_pass.Output.fill.Goals as goal

pub returns : goal.returns
returns c = λ unused done others held resolved fills output.
    let found = model_of_outcome c.args.outcome.now in
    let line : AssembledLine = record { at = c.args.at; outcome = found } in
    let holds = c.in_ok-fill_bytes.ensures.filled unused done others held resolved fills output.bytes in
    record {
      bytes = record {
        image = subst (λ (image : Image). IsImage unused (onto (line ∷ done) others) image) (sym c.note_entry.ensures.image) holds.image;
        references = ap (λ (references : Vec Ref Global). map model_of_ref references.items) c.note_entry.ensures.references ∙ holds.references;
      };
      entry = c.note_entry.ensures.entry ∙ ap (λ entry. entry_by entry found) (c.fill_bytes.ensures.entry ∙ output.entry);
    }
