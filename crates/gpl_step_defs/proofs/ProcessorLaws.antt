-- Shifts and quotients of words are those of the processor.
use Rattle.std.proofs.Common.{◌≡◌, ℕ, ◌<◌, refl}
use Rattle.std.specs.Prelude.{is_some}
use Rattle.tms_defs.specs.declared.instruction.ShiftOp.TheVariants as shift
use Rattle.tms_defs.specs.Flags.{Word}
use Rattle.tms_defs.specs.Shifts.{shifted}
use Rattle.tms_defs.specs.MultiplyDivide.{double_word, division_of}
use Rattle.tms_defs.proofs.DivideLaws.{quotient_is_word}
use Rattle.gpl_step_defs.specs.Arithmetic.{has_quotient, repeated, repeated_sign, shifted_left, shifted_right}

pub word_shifted_left : (word count : ℕ) → shifted_left Word word count ≡ shifted shift.SLA word count
word_shifted_left word count = refl

pub word_shifted_with_sign : (word count : ℕ) → shifted_right Word (repeated_sign Word word) word count ≡ shifted shift.SRA word count
word_shifted_with_sign word count = refl

pub word_shifted_with_zeros : (word count : ℕ) → shifted_right Word 0 word count ≡ shifted shift.SRL word count
word_shifted_with_zeros word count = refl

pub word_rotated : (word count : ℕ) → shifted_right Word (repeated Word word) word count ≡ shifted shift.SRC word count
word_rotated word count = refl

pub word_divided : (more less divisor : ℕ) → less < 65536 → is_some (division_of more less divisor) ≡ has_quotient Word (double_word more less) divisor
word_divided more less divisor lt = quotient_is_word more less divisor lt
