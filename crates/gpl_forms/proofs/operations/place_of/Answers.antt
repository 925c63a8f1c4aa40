use Rattle.std.proofs.Common.{◌+◌, rules}
use denote.Enum.Declared.{tag_of}
use Rattle.gpl_defs.specs.contracts.instruction.OneName as one
use Rattle.gpl_defs.specs.contracts.instruction.TwoName as two
use Rattle.gpl_defs.specs.contracts.instruction.MoveKind as move
use Rattle.gpl_defs.specs.declared.instruction.OneName.{OneName}
use Rattle.gpl_defs.specs.declared.instruction.OneName.TheVariants.{ABS}
use Rattle.gpl_defs.specs.declared.instruction.TwoName.{TwoName}
use Rattle.gpl_defs.specs.declared.instruction.TwoName.TheVariants.{ADD}
use Rattle.gpl_defs.specs.declared.instruction.MoveKind.{MoveKind}
use Rattle.gpl_defs.specs.declared.instruction.MoveKind.TheVariants.{GromToMemory}
use Rattle.gpl_defs.specs.declared.instruction.GplOperation.TheVariants.{One, Two, Move}
use Rattle.gpl_forms.specs.Operations.{IsRowAt}
use Rattle.gpl_forms.proofs.operations.place_of.Goals as goal

row_of_one : (op : OneName) → IsRowAt (14 + tag_of one.the_type op) (One op)
row_of_one ABS = search rules
row_of_one _ = search rules

row_of_two : (op : TwoName) → IsRowAt (26 + tag_of two.the_type op) (Two op)
row_of_two ADD = search rules
row_of_two _ = search rules

row_of_move : (kind : MoveKind) → IsRowAt (45 + tag_of move.the_type kind) (Move kind)
row_of_move GromToMemory = search rules
row_of_move _ = search rules

pub returns-in-One : goal.returns-in-One
returns-in-One c = rw c.in-One.is (row_of_one c.in-One.op)

pub returns-in-Two : goal.returns-in-Two
returns-in-Two c = rw c.in-Two.is (row_of_two c.in-Two.op)

pub returns-in-Move : goal.returns-in-Move
returns-in-Move c = rw c.in-Move.is (row_of_move c.in-Move.kind)
