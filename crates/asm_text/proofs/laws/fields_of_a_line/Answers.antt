use Rattle.source_defs.proofs.FieldLaws.{fields_are_apart}
use Rattle.asm_text.proofs.laws.fields_of_a_line.Goals as goal

pub returns : goal.returns
returns c = fields_are_apart
