-- What the code finds in a line, as the definitions have it.
use Rattle.std.specs.Option.{option_map}
use Rattle.source_defs.specs.Operands.{operand_texts}
use Rattle.gpl_source_defs.specs.Forms as forms
use Rattle.gpl_source_defs.specs.Skeletons as skeletons
use Rattle.gpl_source_defs.specs.Statements as statements
use Rattle.gpl_source_defs.specs.FirstChecks as first
use Rattle.gpl_source_defs.specs.SecondChecks as second
use Rattle.gpl_lines.specs.declared.forms.Memory.{Memory}
use Rattle.gpl_lines.specs.declared.forms.Form.{Form}
use Rattle.gpl_lines.specs.declared.forms.Form.TheVariants.{InMemory, InGrom, Register, Alone}
use Rattle.gpl_lines.specs.declared.skeleton.Source.{Source}
use Rattle.gpl_lines.specs.declared.skeleton.Source.TheVariants.{At, Immediate}
use Rattle.gpl_lines.specs.declared.skeleton.Route.{Route}
use Rattle.gpl_lines.specs.declared.skeleton.Route.TheVariants.{Within, ToMemory, ToRegisters}
use Rattle.gpl_lines.specs.declared.skeleton.Skeleton.{Skeleton}
use Rattle.gpl_lines.specs.declared.skeleton.Skeleton.TheVariants as code
use Rattle.gpl_lines.specs.declared.statement.Statement.{Statement}
use Rattle.gpl_lines.specs.declared.statement.Statement.TheVariants.{
  Nothing,
  Instruction,
  Grom,
  Aorg,
  Equ,
  Bss,
  Data,
  Byte,
  Text,
  End,
}
use Rattle.gpl_lines.specs.declared.first_checks.Checked.{Checked}
use Rattle.gpl_lines.specs.declared.second_checks.Outcome.{Outcome}
use Rattle.gpl_lines.specs.declared.second_checks.Outcome.TheVariants.{Bytes, Entry}

abbrev pub model_of_memory : Memory → forms.Memory
model_of_memory memory =
    record {
      space = memory.space;
      indirect = memory.indirect;
      address = memory.address.now;
      index = option_map (λ index. index.now) memory.index;
    }

abbrev pub model_of_form : Form → forms.Form
model_of_form (InMemory memory) = forms.InMemory (model_of_memory memory)
model_of_form (InGrom address index) = forms.InGrom address.now (option_map (λ index. index.now) index)
model_of_form (Register number) = forms.Register number.now
model_of_form (Alone text) = forms.Alone text.now

abbrev pub model_of_two : Form × Form → forms.Form × forms.Form
model_of_two found = (model_of_form found.0, model_of_form found.1)

abbrev pub model_of_move : Form × Form × Form → skeletons.MoveForms
model_of_move found =
    record { length = model_of_form found.0; to = model_of_form found.1; from = model_of_form found.2 }

abbrev pub model_of_source : Source → skeletons.Source
model_of_source (At operand) = skeletons.At operand
model_of_source (Immediate text) = skeletons.Immediate text.now

abbrev pub model_of_route : Route → skeletons.Route
model_of_route (Within to from) = skeletons.Within to from
model_of_route (ToMemory to address index) =
    skeletons.ToMemory to address.now (option_map (λ index. index.now) index)
model_of_route (ToRegisters number address) = skeletons.ToRegisters number.now address.now

abbrev pub model_of_skeleton : Skeleton → skeletons.Skeleton
model_of_skeleton (code.Plain op) = skeletons.Plain op
model_of_skeleton (code.Byte op text) = skeletons.Byte op text.now
model_of_skeleton (code.Jump op text) = skeletons.Jump op text.now
model_of_skeleton (code.Branch on text) = skeletons.Branch on text.now
model_of_skeleton (code.One op word operand) = skeletons.One op word operand
model_of_skeleton (code.Two op word destination source) =
    skeletons.Two op word destination (model_of_source source)
model_of_skeleton (code.Move length route) = skeletons.Move (model_of_source length) (model_of_route route)

abbrev pub model_of_statement : Statement → statements.Statement
model_of_statement Nothing = statements.Nothing
model_of_statement (Instruction skeleton) = statements.Instruction (model_of_skeleton skeleton)
model_of_statement (Grom address) = statements.Grom address
model_of_statement (Aorg offset) = statements.Aorg offset
model_of_statement (Equ number) = statements.Equ number
model_of_statement (Bss size) = statements.Bss size
model_of_statement (Data field) = statements.Data (operand_texts field.now)
model_of_statement (Byte field) = statements.Byte (operand_texts field.now)
model_of_statement (Text quoted) = statements.Text quoted.now
model_of_statement (End text) = statements.End (option_map (λ found. found.now) text)

abbrev pub model_of_checked : Checked → first.Checked
model_of_checked checked = record { label = checked.label; statement = model_of_statement checked.statement }

abbrev pub model_of_outcome : Outcome → second.Outcome
model_of_outcome (Bytes bytes) = second.Bytes bytes.items
model_of_outcome (Entry address) = second.Entry address
