use Rattle.std.proofs.Common.{◌≡◌, false, drop}
use Rattle.source_defs.specs.QuotedTexts.{closes}
use Rattle.asm_text.proofs.operand_fields.quoted_texts.closes.Given as goal

abbrev pub invariant-loop-byte : goal.invariant-loop-byte
invariant-loop-byte l = closes l.quote (drop l.byte-index l.text) ≡ closes false l.text
