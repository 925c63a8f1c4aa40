use Rattle.std.proofs.Common.{sym, ◌∙◌, arith}
use Rattle.tms_defs.proofs.InstructionLaws.{word_of-found}
use Rattle.tms_words.proofs.decoding.decode.Goals as goal

pub returns-clause-encoded : goal.returns-clause-encoded
returns-clause-encoded c =
    let found = sym c.operation_at.ensures ∙ c.in_ok-operation_at.was in
    rw c.operands_at.ensures (word_of-found c.in_ok-operation_at.field-0 c.args.word (omega arith) found)
