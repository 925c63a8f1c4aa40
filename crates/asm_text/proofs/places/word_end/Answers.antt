use Rattle.std.proofs.Common.{sym, ◌∙◌, arith}
use Rattle.asm_text.proofs.Blanks.{word_goes_on}
use Rattle.asm_text.proofs.places.word_end.Goals as goal

pub loop-at-preserved-then-byte-gt32 : goal.loop-at-preserved-then-byte-gt32
loop-at-preserved-then-byte-gt32 c = sym (word_goes_on c.args.line.now c.loop-at.at (omega arith) c.if-byte-gt32.true) ∙ c.loop-at.invariant
