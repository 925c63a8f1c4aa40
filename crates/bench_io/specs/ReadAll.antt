-- What reading a source whole does to it.
use Rattle.std.specs.Prelude.{◌≡◌, ℕ, ◌+◌, ◌≤◌, max, List, length}
use Rattle.base_defs.specs.Counts.{saturating_sum, Rose}
use Rattle.bench_io.specs.Stream.{SourceState, Gave, IsAtEnd}
use Rattle.bench_io.specs.declared.whole.ReadError.{ReadError}
use Rattle.bench_io.specs.declared.whole.ReadError.TheVariants.{Fault, TooLarge, Memory}

-- A source before and after some calls of `take` that gave these bytes and no others. So many of the calls gave no
-- byte, and each other call a byte or more. All of it counts as given of what was opened last.
pub record Consumed (before after : SourceState) (bytes : List ℕ) (empty : ℕ) : Type 0 where
  pub gave : Gave before.left after.left bytes
  pub number : after.taken ≡ saturating_sum before.taken (length bytes)
  pub made : (calls : ℕ) × (calls ≤ length bytes + empty) × (after.calls ≡ saturating_sum before.calls calls)
  pub none : after.empty ≡ saturating_sum before.empty empty
  pub faults : before.faults ≤ after.faults
  pub given : after.given ≡ saturating_sum before.given (length bytes)
  pub later : before.largest ≤ after.largest
  pub largest : after.largest ≤ max before.largest after.given

-- a source that was read up to its end: one call gave no byte, and if the bytes are shown none is left
pub record ReadWhole (limit : ℕ) (before after : SourceState) (bytes : List ℕ) : Type 0 where
  pub consumed : Consumed before after bytes 1
  pub within : length bytes ≤ limit
  pub end : IsAtEnd after.left
  pub largest : after.largest ≡ max before.largest after.given

-- What was taken before the reading gave up, by the error: one byte more than the limit, or no more than it. The call
-- that failed gave no byte; else each did.
abbrev pub GaveUp : ReadError → ℕ → SourceState → SourceState → Type 0
GaveUp TooLarge limit before after =
    (bytes : List ℕ) × (length bytes ≡ limit + 1) × Consumed before after bytes 0
    × (after.largest ≡ max before.largest after.given)
GaveUp Fault limit before after =
    (bytes : List ℕ) × (length bytes ≤ limit) × Consumed before after bytes 1 × Rose before.faults after.faults
GaveUp Memory limit before after = (bytes : List ℕ) × (length bytes ≤ limit) × Consumed before after bytes 0
