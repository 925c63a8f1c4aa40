-- Texts in quotes.
use Rattle.std.specs.Prelude.{ℕ, Bool, false, not, ◌&&◌, if◌then◌else◌, List, [], ◌∷◌, Result, Ok, Err}
use Rattle.source_defs.specs.declared.causes.OperandError.{OperandError}
use Rattle.source_defs.specs.declared.causes.OperandError.TheVariants.{Form}
use Rattle.source_defs.specs.Characters.{is_quote}

-- whether what follows ends with the quote that closes a text; a quote that may be that one came just before
abbrev pub closes : Bool → List ℕ → Bool
closes quote [] = quote
closes quote (byte ∷ bytes) = if is_quote byte then closes (not quote) bytes else not quote && closes false bytes

-- Editor/Assembler manual, "Constants": a text in quotes, where two quotes inside it are one.
abbrev pub is_quoted : List ℕ → Bool
is_quoted [] = false
is_quoted (byte ∷ bytes) = is_quote byte && closes false bytes

-- Profile: an operand of TEXT that is no quoted text is refused for its form.
abbrev pub quoted : List ℕ → Result (List ℕ) OperandError
quoted text = if is_quoted text then Ok text else Err Form
