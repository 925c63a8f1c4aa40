-- What a shelf of files has, and what it counts.
use Rattle.std.specs.Prelude.{◌≡◌, ℕ, List, ◌++◌, Option, Some, None}
use Rattle.std.specs.Option.{option_map}
use Rattle.std.proofs.Common.{ap}
use Rattle.std.specs.FinMap.{from_entries}
use Rattle.bench_io.specs.Stream.{SourceState}
use Rattle.shelf_defs.specs.Files.{Files}

-- A shelf: what is left of the open file, with the counts of a source; how often a file was asked for by its name, and
-- how often the name was not among the files; the names that it was asked for in their order, where it keeps them; and
-- the files, where it shows them.
pub record ShelfState : Type 0 where
  pub source : SourceState
  pub opens : ℕ
  pub misses : ℕ
  pub asked : Option (List (List ℕ))
  pub files : Option Files

-- names that were asked for after others
abbrev pub asked_more : Option (List (List ℕ)) → List (List ℕ) → Option (List (List ℕ))
asked_more others names = option_map (λ before. before ++ names) others

-- the files stand as before, and so do the names and counts of files that were asked for and of misses
pub record SameFiles (before after : ShelfState) : Type 0 where
  pub files : after.files ≡ before.files
  pub opens : after.opens ≡ before.opens
  pub misses : after.misses ≡ before.misses
  pub asked : after.asked ≡ before.asked

-- what stands of a shelf while its open file is read
abbrev pub FixedPart : Type 0
FixedPart = ℕ × ℕ × Option Files × Option (List (List ℕ))

abbrev pub fixed_part : ShelfState → FixedPart
fixed_part shelf = (shelf.opens, shelf.misses, shelf.files, shelf.asked)

abbrev pub same_files : (before after : ShelfState) → fixed_part after ≡ fixed_part before
    → SameFiles before after
same_files before after same =
    record {
      files = ap (λ (fixed : FixedPart). fixed.2) same;
      opens = ap (λ (fixed : FixedPart). fixed.0) same;
      misses = ap (λ (fixed : FixedPart). fixed.1) same;
      asked = ap (λ (fixed : FixedPart). fixed.3) same;
    }

-- A shelf in memory: its files by name, where the first of equal names counts; what is left of the open one; the
-- number of calls of `open_file` and `take` together, and of calls of `take` alone; the bytes given in all, those
-- given of the file that was opened last, and the most that were given of one opening; the calls of `take` that gave
-- none; the numbers from 0 of the calls that fail; how many have failed; and how many calls of `open_file` were made,
-- and how many names were missing.
pub record Shelved : Type 0 where
  pub files : List (List ℕ × List ℕ)
  pub left : List ℕ
  pub requests : ℕ
  pub calls : ℕ
  pub taken : ℕ
  pub given : ℕ
  pub largest : ℕ
  pub empty : ℕ
  pub fails : List ℕ
  pub faults : ℕ
  pub opens : ℕ
  pub misses : ℕ

-- files by their names; the first of equal names counts
abbrev pub by_name : List (List ℕ × List ℕ) → Files
by_name files = from_entries files

-- a shelf in memory as a shelf that shows its files
abbrev pub visible_state : Shelved → ShelfState
visible_state shelf =
    record {
      source =
          record {
            left = Some shelf.left;
            calls = shelf.calls;
            taken = shelf.taken;
            empty = shelf.empty;
            faults = shelf.faults;
            given = shelf.given;
            largest = shelf.largest;
          };
      opens = shelf.opens;
      misses = shelf.misses;
      asked = None;
      files = Some (by_name shelf.files);
    }
