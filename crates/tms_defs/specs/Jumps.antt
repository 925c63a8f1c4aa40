-- Jumps: where they go, and their conditions.
use Rattle.std.specs.Prelude.{ℕ, ℤ, pos, ◌*ℤ◌, Bool, true, not, ◌&&◌, ◌||◌, Option, Some, None}
use Rattle.std.specs.Int.{w16, cast_unsigned}
use Rattle.tms_defs.specs.Words.{plus}
use Rattle.tms_defs.specs.declared.status.Status.{Status}
use Rattle.tms_defs.specs.declared.instruction.JumpOp.{JumpOp}
use Rattle.tms_defs.specs.declared.instruction.JumpOp.TheVariants.{JMP, JLT, JLE, JEQ, JHE, JGT, JNE, JNC, JOC, JNO}
use Rattle.tms_defs.specs.declared.instruction.JumpOp.TheVariants.{JL, JH, JOP}

-- Jumps count words from the next instruction. TMS9900 data manual, "Jump instructions".
abbrev pub jump_target : ℕ → ℤ → ℕ
jump_target pc disp = plus pc (cast_unsigned w16 (pos 2 *ℤ disp))

-- The condition of a jump. Those that are none are operations on a bit of the communication register unit.
-- TMS9900 data manual, "Jump instructions", the status bits that each tests.
abbrev pub condition : JumpOp → Status → Option Bool
condition JMP status = Some true
condition JLT status = Some (not status.flags.agt && not status.flags.eq)
condition JLE status = Some (not status.flags.lgt || status.flags.eq)
condition JEQ status = Some status.flags.eq
condition JHE status = Some (status.flags.lgt || status.flags.eq)
condition JGT status = Some status.flags.agt
condition JNE status = Some (not status.flags.eq)
condition JNC status = Some (not status.flags.c)
condition JOC status = Some status.flags.c
condition JNO status = Some (not status.flags.ov)
condition JL status = Some (not status.flags.lgt && not status.flags.eq)
condition JH status = Some (status.flags.lgt && not status.flags.eq)
condition JOP status = Some status.op
condition _ status = None
