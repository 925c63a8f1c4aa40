-- A shelf of the current folder, which shows nothing of its files.
use Rattle.std.specs.Prelude.{◌≡◌, ℕ, Bool, true, false, None, Result, Ok, Err}
use Rattle.base_defs.specs.Counts.{saturating_sum, Rose}
use Rattle.bench_shelf.specs.States.{ShelfState}
use Rattle.bench_shelf.specs.declared.error.OpenError.{OpenError}
use Rattle.bench_shelf.specs.declared.error.OpenError.TheVariants.{Failed, Missing}

-- whether a file of it is open, and what is counted of it
pub record Folder : Type 0 where
  pub is_open : Bool
  pub calls : ℕ
  pub taken : ℕ
  pub given : ℕ
  pub largest : ℕ
  pub empty : ℕ
  pub faults : ℕ
  pub opens : ℕ
  pub misses : ℕ

-- it as a shelf
abbrev pub hidden_state : Folder → ShelfState
hidden_state folder =
    record {
      source =
          record {
            left = None;
            calls = folder.calls;
            taken = folder.taken;
            empty = folder.empty;
            faults = folder.faults;
            given = folder.given;
            largest = folder.largest;
          };
      opens = folder.opens;
      misses = folder.misses;
      asked = None;
      files = None;
    }

-- a folder that was asked for a file: none is open, and the call is counted
abbrev pub asked : Folder → Folder
asked before = record before { is_open = false; given = 0; opens = saturating_sum before.opens 1 }

-- After Ok a file is open. Where opening one is refused, none is, and the count of faults or the count of misses has
-- risen by one. Nothing was given yet of what was opened last.
abbrev pub OpensFrom : {A : Type 0} → Folder → Result A OpenError → Folder → Type 0
OpensFrom before (Ok _) after = after ≡ record (asked before) { is_open = true }
OpensFrom before (Err Failed) after =
    Rose before.faults after.faults × (after ≡ record (asked before) { faults = saturating_sum before.faults 1 })
OpensFrom before (Err Missing) after =
    Rose before.misses after.misses × (after ≡ record (asked before) { misses = saturating_sum before.misses 1 })
