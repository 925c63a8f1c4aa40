-- What the front of a line says: the number of the step or instruction, and the state before it.
use Rattle.std.specs.Prelude.{ℕ, ◌==◌, if◌then◌else◌, List, [], ◌∷◌, take, drop}
use Rattle.source_defs.specs.Numbers.{value_after}
use Rattle.tms_defs.specs.Status.{status_at}
use Rattle.tms_defs.specs.declared.status.Status.{Status}
use Rattle.debug_report_defs.specs.LineParts.{front_part}

-- what decimal digits stand for
abbrev pub decimal_value : List ℕ → ℕ
decimal_value digits = value_after 10 0 digits

-- what hexadecimal digits stand for
abbrev pub hexadecimal_value : List ℕ → ℕ
hexadecimal_value digits = value_after 16 0 digits

abbrev pub after_blanks : List ℕ → List ℕ
after_blanks [] = []
after_blanks (byte ∷ bytes) = if byte == 0x20 then after_blanks bytes else byte ∷ bytes

-- the bytes up to the first blank
abbrev pub first_word : List ℕ → List ℕ
first_word [] = []
first_word (byte ∷ bytes) = if byte == 0x20 then [] else byte ∷ first_word bytes

-- the bytes after the first blank
abbrev pub after_word : List ℕ → List ℕ
after_word [] = []
after_word (byte ∷ bytes) = if byte == 0x20 then bytes else after_word bytes

-- Profile: a front begins with the number, which has blanks before it and a blank after it.
abbrev pub number_in : List ℕ → ℕ
number_in front = decimal_value (first_word (after_blanks front))

-- what a front has after its number
abbrev pub after_number : List ℕ → List ℕ
after_number front = after_word (after_blanks front)

-- the word of four digits at a place
abbrev pub word_digits_at : ℕ → List ℕ → ℕ
word_digits_at place text = hexadecimal_value (take 4 (drop place text))

-- of a line of `steps`: the number of the instruction, the processor before it, and its text
pub record MachineFront : Type 0 where
  pub number : ℕ
  pub pc : ℕ
  pub wp : ℕ
  pub status : Status
  pub instruction : List ℕ

-- Profile: >PPPP WPWWWW STSSSS and the text, with a blank between two.
abbrev pub machine_front_in : ℕ → List ℕ → MachineFront
machine_front_in number text =
    record {
      number = number;
      pc = word_digits_at 1 text;
      wp = word_digits_at 8 text;
      status = status_at (word_digits_at 15 text);
      instruction = drop 20 text;
    }

abbrev pub machine_front : List ℕ → MachineFront
machine_front line = let front = front_part line in machine_front_in (number_in front) (after_number front)

-- of a line of `gsteps`: the number of the step, the address of its instruction, and the instruction's text
pub record GplFront : Type 0 where
  pub number : ℕ
  pub pc : ℕ
  pub instruction : List ℕ

-- Profile: >PPPP Sss Ddd Rrr and the text, with a blank between two.
abbrev pub gpl_front_in : ℕ → List ℕ → GplFront
gpl_front_in number text =
    record { number = number; pc = word_digits_at 1 text; instruction = drop 18 text }

abbrev pub gpl_front : List ℕ → GplFront
gpl_front line = let front = front_part line in gpl_front_in (number_in front) (after_number front)
