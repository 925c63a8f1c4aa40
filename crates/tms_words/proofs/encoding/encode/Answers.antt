use Rattle.std.proofs.Common.{◌≡◌, ◌+◌, ap, ◌∙◌}
use Rattle.tms_defs.specs.Instructions.{instr_at, word_of}
use Rattle.tms_defs.proofs.InstructionLaws.{instr_at-word_of}
use Rattle.tms_words.proofs.encoding.encode.Goals as goal

pub returns-clause-decoded : goal.returns-clause-decoded
returns-clause-decoded c =
    let word : c.code_of.result + c.operands_word-operands.result ≡ word_of c.args.instr.now = cc (c.code_of.ensures.value, c.operands_word-operands.ensures.value) in
    ap instr_at word ∙ instr_at-word_of c.args.instr.now c.requires c.operands_word-operands.ensures.signed
