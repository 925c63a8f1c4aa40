-- The families of the instructions, each of which a function runs.
use Rattle.std.specs.Prelude.{Bool, false, if◌then◌else◌, None, Option, Some, true}
use Rattle.sim_rows.specs.Prelude.{GplOperation}
use Rattle.sim_alu.specs.Family.{is_alu}
use Rattle.sim_shift.specs.Family.{is_shift}
use Rattle.sim_muldiv.specs.Family.{is_muldiv}
use Rattle.sim_compare.specs.Family.{is_compare}
use Rattle.sim_flow.specs.Family.{is_flow}
use Rattle.sim_stack.specs.Family.{is_stack}
use Rattle.sim_move.specs.Family.{is_move}
use Rattle.sim_misc.specs.Family.{is_misc}
use Rattle.sim_steps.specs.declared.family.Family.{Family}
use Rattle.sim_steps.specs.declared.family.Family.TheVariants.{Alu, Compare, Flow, Misc, Move, MulDiv, Refused, Shift}
use Rattle.sim_steps.specs.declared.family.Family.TheVariants.{Stack}

-- The family of an operation is the one that it belongs to. A code byte that is no instruction's is refused.
abbrev pub family_of : Option GplOperation → Family
family_of operation =
    if is_alu operation then Alu
    else if is_shift operation then Shift
    else if is_muldiv operation then MulDiv
    else if is_compare operation then Compare
    else if is_flow operation then Flow
    else if is_stack operation then Stack
    else if is_move operation then Move
    else if is_misc operation then Misc
    else Refused

-- what is true of the operations of each family
abbrev pub belongs : Family → Option GplOperation → Bool
belongs Alu operation = is_alu operation
belongs Shift operation = is_shift operation
belongs MulDiv operation = is_muldiv operation
belongs Compare operation = is_compare operation
belongs Flow operation = is_flow operation
belongs Stack operation = is_stack operation
belongs Move operation = is_move operation
belongs Misc operation = is_misc operation
belongs Refused None = true
belongs Refused (Some operation) = false
