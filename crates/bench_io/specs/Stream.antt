-- What a source has left, what a sink holds, and their counts.
use Rattle.std.specs.Prelude.{◌≡◌, ℕ, ◌-◌, max, List, [], ◌++◌, take, Option, IfSome}
use Rattle.std.specs.Option.{option_map}
use Rattle.std.specs.Io.KnownBytes.{Appends}
use Rattle.base_defs.specs.Counts.{saturating_sum}

-- A source: the bytes that are left, if it shows them; how many calls of `take` were made, how many bytes they gave,
-- how many of them gave no byte (at the end, or by failing), and how many failed. A source may be opened anew: how many
-- bytes were given since it was opened last, and the most that were given of one opening.
pub record SourceState : Type 0 where
  pub left : Option (List ℕ)
  pub calls : ℕ
  pub taken : ℕ
  pub empty : ℕ
  pub faults : ℕ
  pub given : ℕ
  pub largest : ℕ

-- a source that is opened once, by what it has left and the first four of its counts
abbrev pub opened_once : Option (List ℕ) → ℕ → ℕ → ℕ → ℕ → SourceState
opened_once left calls taken empty faults =
    record {
      left = left;
      calls = calls;
      taken = taken;
      empty = empty;
      faults = faults;
      given = taken;
      largest = taken;
    }

-- a number of further bytes were given of what was opened last
pub record GaveMore (count : ℕ) (before after : SourceState) : Type 0 where
  pub given : after.given ≡ saturating_sum before.given count
  pub largest : after.largest ≡ max before.largest after.given

-- no byte more was given of it
pub record GaveNoMore (before after : SourceState) : Type 0 where
  pub given : after.given ≡ before.given
  pub largest : after.largest ≡ before.largest

-- a sink: the bytes that it holds, if it shows them, how many calls of `put` were made, and how many of
-- them failed
pub record SinkState : Type 0 where
  pub held : Option (List ℕ)
  pub puts : ℕ
  pub faults : ℕ

-- what is counted of a sink that shows nothing of its bytes
pub record SinkCounts : Type 0 where
  pub puts : ℕ
  pub faults : ℕ

-- 1 for a call that gave no byte, 0 for one that gave some
abbrev pub empty_calls : ℕ → ℕ
empty_calls count = 1 - count

-- what was left before: these bytes, and then what is left now; a source that shows its bytes goes on showing them
abbrev pub Gave : Option (List ℕ) → Option (List ℕ) → List ℕ → Type 0
Gave old new bytes = old ≡ option_map (λ rest. bytes ++ rest) new

-- none is left, if the source shows its bytes
abbrev pub IsAtEnd : Option (List ℕ) → Type 0
IsAtEnd left = IfSome left (λ rest. rest ≡ [])

-- what is held now: what was held before, and then these bytes
abbrev pub Grew : Option (List ℕ) → Option (List ℕ) → List ℕ → Type 0
Grew old new bytes = new ≡ option_map (λ held. held ++ bytes) old

-- what is held now: what was held before, and then a front of these bytes
abbrev pub GrewByPrefix : Option (List ℕ) → Option (List ℕ) → List ℕ → Type 0
GrewByPrefix old new bytes = (count : ℕ) × Grew old new (take count bytes)

-- what a writer holds now, if it shows that: what it held before, and then a front of these bytes
abbrev pub AppendsPrefix : Option (List ℕ) → Option (List ℕ) → List ℕ → Type 0
AppendsPrefix old new bytes = (count : ℕ) × Appends old new (take count bytes)
