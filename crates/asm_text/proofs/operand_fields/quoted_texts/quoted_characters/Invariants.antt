use Rattle.std.proofs.Common.{◌≡◌, ◌++◌, drop}
use Rattle.expression_defs.specs.Expression.{characters, characters_after, between_quotes}
use Rattle.asm_text.proofs.operand_fields.quoted_texts.quoted_characters.Given as goal

-- the characters so far, and of the bytes that are left
abbrev pub invariant-loop-byte : goal.invariant-loop-byte
invariant-loop-byte l =
    l.characters.items ++ characters_after l.quote (drop l.byte-index (between_quotes l.quoted)) ≡ characters l.quoted
