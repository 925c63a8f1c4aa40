-- Pieces that are written to a sink one after the other, each by one call of `put`, up to the first call that fails.
use Rattle.std.specs.Prelude.{◌≡◌, ℕ, ◌+◌, ◌≤◌, List, ◌∷◌, ◌++◌, length, take, Result, Ok, Err}
use Rattle.std.specs.List.{concat}
use Rattle.base_defs.specs.Counts.{saturating_sum, Rose}
use Rattle.bench_io.specs.Stream.{SinkState, Grew}

-- a sink got all of the pieces
pub record Wrote (before after : SinkState) (pieces : List (List ℕ)) : Type 0 where
  pub held : Grew before.held after.held (concat pieces)
  pub puts : after.puts ≡ saturating_sum before.puts (length pieces)
  pub faults : before.faults ≤ after.faults

-- A sink failed at one of the pieces: it got those before it, each by one call, and a front of that one. Its count of
-- faults rose.
pub record Missed (before after : SinkState) (pieces : List (List ℕ)) : Type 0 where
  pub done : List (List ℕ)
  pub piece : List ℕ
  pub left : List (List ℕ)
  pub are : pieces ≡ done ++ piece ∷ left
  pub held : (count : ℕ) × Grew before.held after.held (concat done ++ take count piece)
  pub puts : after.puts ≡ saturating_sum before.puts (length done + 1)
  pub rose : Rose before.faults after.faults

-- what came of the writing, by its answer
abbrev pub Written : {T E : Type 0} → Result T E → SinkState → SinkState → List (List ℕ) → Type 0
Written (Ok done) before after pieces = Wrote before after pieces
Written (Err error) before after pieces = Missed before after pieces
