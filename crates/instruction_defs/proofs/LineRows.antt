-- Worked rows of instruction lines and of their text.
use Rattle.std.proofs.Common.{◌≡◌, ℕ, List, [], ◌∷◌, refl}
use Rattle.std.specs.Prelude.{codes, nat_eq, if◌then◌else◌, Option, Some, None, Result, Ok, Err}
use Rattle.std.specs.Cmp.Lexicographic.{pointwise}
use Rattle.std.specs.Fmt.{digits}
use Rattle.source_defs.specs.Refusals.{◌>>=◌}
use Rattle.expression_defs.specs.declared.causes.ExprError.TheVariants.{UnknownName, BadRelocation, BadToken}
use Rattle.expression_defs.specs.Tokens.{token_at, tokens_from}
use Rattle.source_defs.specs.Fields.{in_quotes}
use Rattle.source_defs.specs.Operands.{operands_from}
use Rattle.source_defs.specs.Digits.{word_digits}
use Rattle.expression_defs.specs.Expression.{Value, Absolute, Relocatable, External}
use Rattle.instruction_defs.specs.declared.causes.FormError.{FormError}
use Rattle.instruction_defs.specs.declared.causes.FormError.TheVariants.{BadOperand, OperandCount, UnknownOperation, JumpTooFar, Expr}
use Rattle.instruction_defs.specs.Operations.{mnemonic}
use Rattle.instruction_defs.specs.Forms.{form_of}
use Rattle.instruction_defs.specs.FirstChecks.{first_checks}
use Rattle.instruction_defs.specs.SecondChecks.{second_checks}
use Rattle.instruction_defs.specs.Printed.{printed, operand_text}

-- what the names of the rows stand for
abbrev look : List ℕ → Option Value
look name =
    if pointwise nat_eq name (codes "R1") then Some (Absolute 1)
    else if pointwise nat_eq name (codes "EXT") then Some (External name)
    else if pointwise nat_eq name (codes "PLACE") then Some (Relocatable 8)
    else None

-- the words of a line at relocatable 0
abbrev line : List ℕ → List ℕ → Result (List Value) FormError
line operation field = first_checks operation field >>= λ skeleton. second_checks look (Relocatable 0) skeleton

-- a move with a word after it, in lower case; a value in parentheses that is no index
moves : line (codes "mov") (codes "@>8300,*5+") ∷ line (codes "A") (codes "@PLACE(R1),R1") ∷ line (codes "MOV") (codes "@'('(1),1") ∷ []
    ≡ Ok (Absolute 0xCD60 ∷ Absolute 0x8300 ∷ []) ∷ Ok (Absolute 0xA061 ∷ Relocatable 8 ∷ []) ∷ Ok (Absolute 0xC061 ∷ Absolute 0x28 ∷ []) ∷ []
unfolding mnemonic form_of first_checks second_checks token_at tokens_from in_quotes operands_from
moves = refl

-- jumps by whole words from the next instruction, of the line's own kind
jumps : line (codes "JMP") (codes "$") ∷ line (codes "JMP") (codes "$+256") ∷ line (codes "JMP") (codes "$+258") ∷ line (codes "JMP") (codes "5") ∷ line (codes "JMP") (codes "EXT") ∷ []
    ≡ Ok (Absolute 0x10FF ∷ []) ∷ Ok (Absolute 0x107F ∷ []) ∷ Err JumpTooFar ∷ Err (Expr BadRelocation) ∷ Err (Expr BadRelocation) ∷ []
unfolding mnemonic form_of first_checks second_checks token_at tokens_from in_quotes operands_from
jumps = refl

-- values from the left, and an absolute one where it is needed, before any range
values_before_ranges : line (codes "LI") (codes "1,EXT") ∷ line (codes "LI") (codes "$,UNDEF") ∷ line (codes "LI") (codes "99,UNDEF") ∷ line (codes "LI") (codes "99,1") ∷ line (codes "A") (codes "@5(0),1") ∷ []
    ≡ Ok (Absolute 0x0201 ∷ External (codes "EXT") ∷ []) ∷ Err (Expr BadRelocation) ∷ Err (Expr UnknownName) ∷ Err BadOperand ∷ Err BadOperand ∷ []
unfolding mnemonic form_of first_checks second_checks token_at tokens_from in_quotes operands_from
values_before_ranges = refl

-- the first checks: operation, number of operands, forms; and operations that ignore the rest of their line
forms_first : line (codes "ADD") (codes "1") ∷ line (codes "A") (codes "1") ∷ line (codes "LI") (codes "@5,1") ∷ line (codes "A") (codes ",1") ∷ line (codes "RT") (codes "'") ∷ line (codes "RTWP") (codes "1,2") ∷ line (codes "A") (codes "*,1") ∷ []
    ≡ Err UnknownOperation ∷ Err OperandCount ∷ Err BadOperand ∷ Err BadOperand ∷ Ok (Absolute 0x045B ∷ []) ∷ Ok (Absolute 0x0380 ∷ []) ∷ Err (Expr BadToken) ∷ []
unfolding mnemonic form_of first_checks second_checks token_at tokens_from in_quotes operands_from
forms_first = refl

-- the text of words at >A000
abbrev text_of : List ℕ → List ℕ × ℕ
text_of words = let found = printed words 0xA000 in (found.text, found.count)

prints : text_of (0x0201 ∷ 0x1234 ∷ []) ∷ text_of (0x045B ∷ []) ∷ text_of (0x0210 ∷ []) ∷ text_of (0x0201 ∷ []) ∷ text_of (0x10FF ∷ []) ∷ text_of (0x1E80 ∷ []) ∷ text_of (0xC060 ∷ 0x8300 ∷ []) ∷ []
    ≡ (codes "LI R1,>1234", 2) ∷ (codes "B *R11", 1) ∷ (codes "DATA >0210", 1) ∷ (codes "DATA >0201", 1) ∷ (codes "JMP >A000", 1) ∷ (codes "SBZ -128", 1) ∷ (codes "MOV @>8300,R1", 2) ∷ []
unfolding printed operand_text word_digits digits
prints = refl
