-- Refusals of lines: which line is refused, and why. A definition that may refuse is read from the top, and the first
-- cause that comes is its answer.
use Rattle.std.specs.Prelude.{ℕ, Bool, true, false, List, ◌++◌, Result, Ok, Err}

-- a refused line, by its number
pub record Refusal (C : Type 0) : Type 0 where
  pub line : ℕ
  pub cause : C

-- the first cause goes on, else the value does
infixl 10 ◌>>=◌
abbrev pub ◌>>=◌ : {A B C : Type 0} → Result A C → (A → Result B C) → Result B C
(Ok value) >>= next = next value
(Err cause) >>= next = Err cause

-- a value, unless something speaks against it
abbrev pub unless : {A C : Type 0} → Bool → C → A → Result A C
unless true cause value = Err cause
unless false cause value = Ok value

-- an answer, with its value seen as something else
abbrev pub map_ok : {A B C : Type 0} → (A → B) → Result A C → Result B C
map_ok see (Ok value) = Ok (see value)
map_ok see (Err cause) = Err cause

-- what a line gives, or its refusal with the line's number
abbrev pub at_line : {A C : Type 0} → ℕ → Result A C → Result A (Refusal C)
at_line number (Ok value) = Ok value
at_line number (Err cause) = Err (record { line = number; cause = cause })

-- some items before others
abbrev pub prepended : {A C : Type 0} → List A → Result (List A) C → Result (List A) C
prepended front (Ok items) = Ok (front ++ items)
prepended front (Err cause) = Err cause
