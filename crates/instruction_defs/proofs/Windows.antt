-- The text of an instruction comes of three words at most.
use Rattle.std.proofs.Common.{◌≡◌, ℕ, zero, suc, ◌+◌, ◌≤◌, List, [], ◌∷◌, length, take, refl, ap, arith, Bool, true, false}
use Rattle.std.specs.Prelude.{◌==◌, nat_le, if◌then◌else◌, slice_index, Option, Some, None}
use Rattle.std.proofs.lemmas.Bool.Decides.{nat_tests}
use Rattle.tms_defs.specs.Instructions.{instr_at, operation_of, name_of}
use Rattle.tms_defs.specs.declared.instruction.Place.{Place}
use Rattle.tms_defs.specs.declared.instruction.Instr.{Instr}
use Rattle.tms_defs.specs.declared.instruction.Instr.TheVariants.{Two, Reg, One, Imm, Bare}
use Rattle.instruction_defs.specs.Operands.{following_words, has_immediate, has_value, size_in_words}
use Rattle.instruction_defs.specs.Printed.{printed, printed_where, operands_text, operand_text, two_texts, with_operands}
use Rattle.base_defs.specs.Counts.{one_if}

following_few : (place : Place) → following_words place ≤ 1
following_few place = by (place.mode == 2)
  where
    by : (has : Bool) → (if has then 1 else 0) ≤ 1
    by true = omega arith
    by false = omega arith

one_if_few : (test : Bool) → one_if test ≤ 1
one_if_few true = omega arith
one_if_few false = omega arith

-- an instruction has one to three words
pub words_few : (instr : Instr) → size_in_words instr ≤ 3
words_few (Two op byte dst src) = omega (arith, following_few src, following_few dst)
words_few (Reg op number src) = omega (arith, following_few src)
words_few (One op place) = omega (arith, following_few place)
words_few (Imm op number) = omega (arith, one_if_few (has_immediate op))
words_few (Bare op) = omega (arith, one_if_few (has_value op))
words_few _ = omega arith

pub words_some : (instr : Instr) → 1 ≤ size_in_words instr
words_some (Two op byte dst src) = omega arith
words_some _ = omega arith

module _ (a b c : ℕ) (rest : List ℕ) where
  -- the word of a second operand is the second or the third
  second : (before : ℕ) → before ≤ 1 → slice_index (a ∷ b ∷ c ∷ []) (1 + before) ≡ slice_index (a ∷ b ∷ c ∷ rest) (1 + before)
  second zero few = refl
  second (suc zero) few = refl
  second (suc (suc n)) few = absurd (omega arith)

  same_operands : (instr : Instr) (at : ℕ) → operands_text instr at (a ∷ b ∷ c ∷ []) ≡ operands_text instr at (a ∷ b ∷ c ∷ rest)
  same_operands (Two op byte dst src) at =
      ap (λ word. Some (two_texts (operand_text src b) (operand_text dst word))) (second (following_words src) (following_few src))
  same_operands instr at = refl

  same_where : (found : Option Instr) (at : ℕ) → printed_where found at (a ∷ b ∷ c ∷ []) ≡ printed_where found at (a ∷ b ∷ c ∷ rest)
  same_where None at = refl
  same_where (Some instr) at =
      let few = words_few instr in
      let short : nat_le (size_in_words instr) (length (a ∷ b ∷ c ∷ [])) ≡ true = grind (arith, nat_tests) in
      let long : nat_le (size_in_words instr) (length (a ∷ b ∷ c ∷ rest)) ≡ true = grind (arith, nat_tests) in
      rw (short, long)
      (ap (λ operands. record { text = with_operands (name_of (operation_of instr)) operands; count = size_in_words instr }) (same_operands instr at))

-- three words give what all of them give
pub printed_window : (words : List ℕ) (at : ℕ) → printed (take 3 words) at ≡ printed words at
unfolding printed
printed_window [] at = refl
printed_window (a ∷ []) at = refl
printed_window (a ∷ b ∷ []) at = refl
printed_window (a ∷ b ∷ c ∷ rest) at = same_where a b c rest (instr_at a) at

count_where : (found : Option Instr) (at : ℕ) (word : ℕ) (words : List ℕ) → 1 ≤ (printed_where found at (word ∷ words)).count × (printed_where found at (word ∷ words)).count ≤ length (word ∷ words)
count_where None at word words = (omega arith, omega arith)
count_where (Some instr) at word words = by (nat_le (size_in_words instr) (length (word ∷ words))) refl
  where
    by : (whole : Bool) → nat_le (size_in_words instr) (length (word ∷ words)) ≡ whole → 1 ≤ (printed_where (Some instr) at (word ∷ words)).count × (printed_where (Some instr) at (word ∷ words)).count ≤ length (word ∷ words)
    by true is = rw is (words_some instr, grind (arith, nat_tests))
    by false is = rw is (omega arith, omega arith)

-- the text stands for one of the words at least, and for no more than there are
pub count_within : (word : ℕ) (words : List ℕ) (at : ℕ) → 1 ≤ (printed (word ∷ words) at).count × (printed (word ∷ words) at).count ≤ length (word ∷ words)
unfolding printed
count_within word words at = count_where (instr_at word) at word words
