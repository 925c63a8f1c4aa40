use Rattle.std.proofs.Common.{length, ap, ◌∙◌, arith}
use Rattle.std.proofs.lemmas.List.Edits.{length-between}
use Rattle.source_defs.proofs.FieldLaws.{fields_are_apart}
use Rattle.source_defs.proofs.FieldPlaces.{fields_lie_inside}
use Rattle.asm_forms.proofs.parse.operand_field.Goals as goal

pub part-requires : goal.part-requires
part-requires c = (fields_lie_inside _ _ c.requires).operands

pub returns-clause-short : goal.returns-clause-short
returns-clause-short c =
    let inside = (fields_lie_inside _ _ c.requires).operands in
    let span = c.args.fields.now.operands in
    omega (arith, ap length c.part.ensures ∙ length-between c.args.line.now span.start span.end inside.in_text, inside.in_text, (fields_are_apart _ _ c.requires).short)
