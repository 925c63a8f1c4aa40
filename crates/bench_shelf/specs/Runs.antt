-- The places of lines that come one after the other.
use Rattle.std.specs.Prelude.{◌≡◌, ℕ, zero, suc, ◌+◌, ◌-◌, ◌^◌, ◌<◌, List, [], ◌∷◌, Option}
use Rattle.std.specs.List.{flat_map}
use Rattle.shelf_defs.specs.Copied as spec
use Rattle.bench_shelf.specs.declared.place.Place.{Place}
use Rattle.bench_shelf.specs.declared.run.Run.{Run}

-- a number of places of a file from a line on
abbrev pub places_from : Option (List ℕ) → ℕ → ℕ → List spec.Place
places_from file line zero = []
places_from file line (suc count) = record { file = file; line = line } ∷ places_from file (line + 1) count

abbrev pub run_places : Run → List spec.Place
run_places run = places_from run.file run.line run.count

-- the places of runs, one after the other
abbrev pub places_of : List Run → List spec.Place
places_of runs = flat_map run_places runs

-- a place comes next after a run
pub record ComesNext (run : Run) (place : Place) : Type 0 where
  pub file : run.file ≡ place.file
  pub line : run.line + run.count ≡ place.line
  pub count : run.count < 2 ^ 32 - 1
