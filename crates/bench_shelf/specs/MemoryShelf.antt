-- A shelf in memory.
use Rattle.std.specs.Prelude.{◌≡◌, ℕ, ◌-◌, ◌≤◌, List, [], length, drop, map, Option, Some, None, Contains}
use Rattle.std.specs.Prelude.{Result, Ok, Err}
use Rattle.base_defs.specs.Counts.{saturating_sum, Rose}
use Rattle.std.specs.FinMap.{get}
use Rattle.bench_shelf.specs.States.{Shelved, by_name}
use Rattle.bench_shelf.specs.declared.error.OpenError.{OpenError}
use Rattle.bench_shelf.specs.declared.error.OpenError.TheVariants.{Failed, Missing}

-- names with what is under each, whose bytes are seen
abbrev pub named : {B : Type 0} → (B → List ℕ) → List (List ℕ × B) → List (List ℕ × List ℕ)
named see files = map (λ file. (file.0, see file.1)) files

-- the bytes of the file of a name
abbrev pub file_bytes : List (List ℕ × List ℕ) → List ℕ → Option (List ℕ)
file_bytes files name = get (by_name files) name

-- the bytes of the open file; no file may be open
abbrev pub open_bytes : List (List ℕ × List ℕ) → Option (List ℕ) → Option (List ℕ)
open_bytes files (Some name) = file_bytes files name
open_bytes files None = Some []

-- what is left of the open file: a number of bytes at its end
abbrev pub left_of : ℕ → Option (List ℕ) → List ℕ
left_of rest (Some bytes) = drop (length bytes - rest) bytes
left_of rest None = []

-- the open file is among the files, and no more of its bytes are left than it has
abbrev pub IsWithin : ℕ → Option (List ℕ) → Type 0
IsWithin rest (Some bytes) = rest ≤ length bytes
IsWithin rest None = ⊥

-- a shelf that was asked for a file: none is open, and the call is counted
abbrev pub asked : Shelved → Shelved
asked before =
    record before {
      left = [];
      given = 0;
      requests = saturating_sum before.requests 1;
      opens = saturating_sum before.opens 1;
    }

-- a shelf whose next call opens a file of this name, or finds that it fails, or that the name is missing
abbrev pub OpensIn : {A : Type 0} → Shelved → List ℕ → Result A OpenError → Shelved → Type 0
OpensIn before name (Ok _) after =
    (bytes : List ℕ) × (file_bytes before.files name ≡ Some bytes) × (Contains before.fails before.requests → ⊥)
    × (after ≡ record (asked before) { left = bytes })
OpensIn before name (Err Failed) after =
    Contains before.fails before.requests × Rose before.faults after.faults
    × (after ≡ record (asked before) { faults = saturating_sum before.faults 1 })
OpensIn before name (Err Missing) after =
    (file_bytes before.files name ≡ None) × (Contains before.fails before.requests → ⊥)
    × Rose before.misses after.misses
    × (after ≡ record (asked before) { misses = saturating_sum before.misses 1 })
