-- Numbers as the values of bytes. Editor/Assembler manual, "Initialize Byte".
use Rattle.std.specs.Prelude.{ℕ, ◌%◌, nat_le, if◌then◌else◌, List, [], ◌∷◌, Result, Ok, Err}
use Rattle.source_defs.specs.Refusals.{◌>>=◌}

-- by the cause of a number that is no value of a byte
module _ {E : Type 0} (bad : E) where
  -- Profile: a byte is from -128 to 255.
  abbrev pub number_as_byte : ℕ → Result ℕ E
  number_as_byte number =
      if nat_le number 0xFF then Ok number else if nat_le 0xFF80 number then Ok (number % 256) else Err bad

  abbrev pub numbers_as_bytes : List ℕ → Result (List ℕ) E
  numbers_as_bytes [] = Ok []
  numbers_as_bytes (number ∷ numbers) = do
    byte ← number_as_byte number
    bytes ← numbers_as_bytes numbers
    Ok (byte ∷ bytes)
