use Rattle.std.proofs.Common.{sym, ◌∙◌, arith}
use Rattle.tms_defs.specs.declared.instruction.Operation.TheVariants.{Imm}
use Rattle.tms_defs.proofs.InstructionLaws.{operation_at-has_code, operation_at-control}
use Rattle.tms_words.proofs.decoding.control_at.Goals as goal

pub returns-in-Some : goal.returns-in-Some
returns-in-Some c = sym (operation_at-has_code (Imm c.in-Some.op) c.args.word (omega arith) c.in-Some.ensures.found)

pub returns-in_err-bare_at : goal.returns-in_err-bare_at
returns-in_err-bare_at c =
    c.from_residual.ensures
    ∙ sym (operation_at-control c.args.word (omega arith) (omega arith) c.in_default.ensures.none c.in_err-bare_at.ensures.none)
