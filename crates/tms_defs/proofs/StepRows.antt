-- Worked rows over 48 bytes with the workspace at >0010: a program of LI R1,>7FFF, LI R2,1, A R2,R1 and a jump to itself,
-- and single instructions at 0.
use Rattle.std.proofs.Common.{◌≡◌, ℕ, zero, suc, List, [], ◌∷◌, ◌++◌, refl}
use Rattle.std.specs.Prelude.{slice_index, slice_set}
use Rattle.tms_defs.specs.Words.{even, high, low}
use Rattle.tms_defs.specs.Bytes.{word_in, with_word_in}
use Rattle.tms_defs.specs.Accesses.{Gives, Accesses}
use Rattle.tms_defs.specs.Operand.{Cpu}
use Rattle.tms_defs.specs.Step.{step}
use Rattle.tms_defs.specs.Status.{status_at, status_word}
use Rattle.tms_defs.specs.declared.step_end.StepEnd.{StepEnd}
use Rattle.tms_defs.specs.declared.step_end.StepEnd.TheVariants.{Done, Refused}

abbrev bytes_access : Accesses (List ℕ)
bytes_access = record {
  word = λ m at. Gives (word_in m (even at));
  with_word = λ m at word. Gives (with_word_in m (even at) word);
  byte = λ m at. Gives (slice_index m at, m);
  with_byte = λ m at byte. Gives (slice_set m at byte);
}

abbrev zeros : ℕ → List ℕ
zeros zero = []
zeros (suc n) = 0 ∷ zeros n

abbrev start : Cpu (List ℕ)
start = record { memory = 0x02 ∷ 0x01 ∷ 0x7F ∷ 0xFF ∷ 0x02 ∷ 0x02 ∷ 0x00 ∷ 0x01 ∷ 0xA0 ∷ 0x42 ∷ 0x10 ∷ 0xFF ∷ zeros 36; pc = 0; wp = 0x10; status = status_at 0 }

abbrev after : ℕ → StepEnd × Cpu (List ℕ)
after zero = (Done 0, start)
after (suc n) = step (List ℕ) bytes_access (after n).1

-- what a row shows: the end of the step, the program counter, the status and three registers
abbrev shown : StepEnd × Cpu (List ℕ) → StepEnd × List ℕ
shown x = (x.0, x.1.pc ∷ status_word x.1.status ∷ word_in x.1.memory 0x10 ∷ word_in x.1.memory 0x12 ∷ word_in x.1.memory 0x14 ∷ [])

pub loads : shown (after 1) ≡ (Done 0x0201, 4 ∷ 0xC000 ∷ 0 ∷ 0x7FFF ∷ 0 ∷ [])
loads = refl

pub adds : shown (after 3) ≡ (Done 0xA042, 10 ∷ 0x8800 ∷ 0 ∷ 0x8000 ∷ 1 ∷ [])
adds = refl

pub jumps_to_itself : shown (after 4) ≡ (Done 0x10FF, 10 ∷ 0x8800 ∷ 0 ∷ 0x8000 ∷ 1 ∷ [])
jumps_to_itself = refl

-- the word 0 belongs to no row
pub refuses : shown (step (List ℕ) bytes_access (record start { pc = 12 })) ≡ (Refused 12, 12 ∷ 0 ∷ 0 ∷ 0 ∷ 0 ∷ [])
refuses = refl

-- an instruction at 0, and registers 0 to 3
abbrev bytes_of : ℕ → List ℕ → List ℕ
bytes_of word rest = high word ∷ low word ∷ rest

abbrev standing : ℕ → ℕ → ℕ → ℕ → ℕ → Cpu (List ℕ)
standing word r0 r1 r2 r3 =
    record { memory = bytes_of word (zeros 14 ++ bytes_of r0 (bytes_of r1 (bytes_of r2 (bytes_of r3 (zeros 24))))); pc = 0; wp = 0x10; status = status_at 0 }

abbrev stepped : ℕ → ℕ → ℕ → ℕ → ℕ → StepEnd × List ℕ
stepped word r0 r1 r2 r3 = shown (step (List ℕ) bytes_access (standing word r0 r1 r2 r3))

-- DIV R1,R2 without a quotient, and with one
pub has_no_quotient : stepped 0x3C81 0 1 1 0 ≡ (Done 0x3C81, 2 ∷ 0x0800 ∷ 0 ∷ 1 ∷ 1 ∷ [])
has_no_quotient = refl

pub divides : stepped 0x3C81 0 7 0 100 ≡ (Done 0x3C81, 2 ∷ 0 ∷ 0 ∷ 7 ∷ 14 ∷ [])
divides = refl

-- MPY R1,R2: the high word of the product
pub multiplies : stepped 0x3881 0 0xFFFF 0xFFFF 0 ≡ (Done 0x3881, 2 ∷ 0 ∷ 0 ∷ 0xFFFF ∷ 0xFFFE ∷ [])
multiplies = refl

-- SLA R1,0: sixteen places
pub shifts_by_sixteen : stepped 0x0A01 0 1 0 0 ≡ (Done 0x0A01, 2 ∷ 0x3800 ∷ 0 ∷ 0 ∷ 0 ∷ [])
shifts_by_sixteen = refl

-- XOP R2,0 by a vector that lies beyond the bytes, whose words are 0: register 11 of the workspace at 0 is the word at >0016
pub extends : stepped 0x2C02 0 0 0 0 ≡ (Done 0x2C02, 0 ∷ 0x0200 ∷ 0 ∷ 0 ∷ 0 ∷ [])
extends = refl

-- LREX is not executed
pub refuses_external : stepped 0x03E0 0 1 1 0 ≡ (Refused 0, 0 ∷ 0 ∷ 0 ∷ 1 ∷ 1 ∷ [])
refuses_external = refl
