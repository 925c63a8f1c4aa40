-- Texts of bytes, and their parts.
use Rattle.std.proofs.Common.{ℕ, zero, suc, ◌-◌, ◌<◌, Bool, true, false, not, ◌&&◌, List, [], ◌∷◌}
use Rattle.std.specs.Prelude.{if◌then◌else◌, slice_index, slice_range, take, drop, map, length}
use Rattle.std.specs.List.{AllByRecursion}
use Rattle.source_defs.specs.declared.text.Span.{Span}
use Rattle.source_defs.specs.Characters.{is_quote}
use Rattle.source_defs.specs.Lines.{part}
use Rattle.source_defs.specs.Operands.{operands, operand_texts}
use Rattle.expression_defs.specs.Expression.{characters_after, between_quotes, characters}

abbrev pub IsByte : ℕ → Type 0
IsByte byte = byte < 256

abbrev pub AreBytes : List ℕ → Type 0
AreBytes text = AllByRecursion IsByte text

pub bytes_of : (text : List ℕ) → ((k : ℕ) → slice_index text k < 256) → AreBytes text
bytes_of [] fits = tt
bytes_of (byte ∷ text) fits = (fits 0, bytes_of text (λ k. fits (suc k)))

pub take_bytes : (n : ℕ) (text : List ℕ) → AreBytes text → AreBytes (take n text)
take_bytes zero text are = tt
take_bytes (suc n) [] are = tt
take_bytes (suc n) (byte ∷ text) are = (are.0, take_bytes n text are.1)

pub drop_bytes : (n : ℕ) (text : List ℕ) → AreBytes text → AreBytes (drop n text)
drop_bytes zero text are = are
drop_bytes (suc n) [] are = tt
drop_bytes (suc n) (byte ∷ text) are = drop_bytes n text are.1

pub range_bytes : (text : List ℕ) (from to : ℕ) → AreBytes text → AreBytes (slice_range text from to)
range_bytes text from to are = take_bytes (to - from) (drop from text) (drop_bytes from text are)

-- ---- the operands of a field

abbrev pub AllBytes : List (List ℕ) → Type 0
AllBytes texts = AllByRecursion AreBytes texts

parts_bytes : (field : List ℕ) (spans : List Span) → AreBytes field → AllBytes (map (part field) spans)
parts_bytes field [] are = tt
parts_bytes field (span ∷ spans) are = (range_bytes field span.start span.end are, parts_bytes field spans are)

pub operands_bytes : (field : List ℕ) → AreBytes field → AllBytes (operand_texts field)
operands_bytes field are = parts_bytes field (operands field) are

-- ---- the characters of a quoted text

kept_bytes : (quote : Bool) (byte : ℕ) (others : List ℕ) → byte < 256 → AreBytes others → AreBytes (if quote then others else byte ∷ others)
kept_bytes true byte others fits are = are
kept_bytes false byte others fits are = (fits, are)

after_bytes : (text : List ℕ) (quote : Bool) → AreBytes text → AreBytes (characters_after quote text)
after_bytes [] quote are = tt
after_bytes (byte ∷ text) quote are =
    kept_bytes (is_quote byte && quote) byte (characters_after (is_quote byte && not quote) text) are.0
    (after_bytes text (is_quote byte && not quote) are.1)

pub characters_bytes : (quoted : List ℕ) → AreBytes quoted → AreBytes (characters quoted)
characters_bytes quoted are = after_bytes (between_quotes quoted) false (range_bytes quoted 1 (length quoted - 1) are)
