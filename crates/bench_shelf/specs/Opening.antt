-- What opening a file does to a shelf.
use Rattle.std.specs.Prelude.{◌≡◌, ℕ, List, [], ◌∷◌, Option, Some, None, IfSome}
use Rattle.std.specs.FinMap.{get}
use Rattle.base_defs.specs.Counts.{saturating_sum, Rose}
use Rattle.bench_io.specs.Stream.{SourceState}
use Rattle.shelf_defs.specs.Files.{Files}
use Rattle.bench_shelf.specs.States.{ShelfState, asked_more}
use Rattle.bench_shelf.specs.declared.error.OpenError.{OpenError}
use Rattle.bench_shelf.specs.declared.error.OpenError.TheVariants.{Failed, Missing}

-- what is left after a file was opened: its bytes, where the files are shown
abbrev pub Opens : Option Files → List ℕ → Option (List ℕ) → Type 0
Opens shown name left = IfSome shown (λ files. (bytes : List ℕ) × (get files name ≡ Some bytes) × (left ≡ Some bytes))

-- no file has the name, where the files are shown
abbrev pub IsMissing : Option Files → List ℕ → Type 0
IsMissing shown name = IfSome shown (λ files. get files name ≡ None)

-- why a file was not opened: the shelf failed, or the name was missing
abbrev pub Refuses : OpenError → ShelfState → ShelfState → List ℕ → Type 0
Refuses Failed before after name = Rose before.source.faults after.source.faults
Refuses Missing before after name = Rose before.misses after.misses × IsMissing before.files name

-- the count of what was not the reason stands as before
abbrev pub KeepsOther : OpenError → ShelfState → ShelfState → Type 0
KeepsOther Failed before after = after.misses ≡ before.misses
KeepsOther Missing before after = after.source.faults ≡ before.source.faults

-- the call is counted and its name kept after the others, and of the file that was opened no bytes were given yet, nor
-- were any of one that was refused
pub record StartsAnew (before after : ShelfState) (name : List ℕ) : Type 0 where
  pub opens : after.opens ≡ saturating_sum before.opens 1
  pub asked : after.asked ≡ asked_more before.asked (name ∷ [])
  pub given : after.source.given ≡ 0
  pub largest : after.source.largest ≡ before.source.largest

-- the counts of a source other than the count of faults stand as before
pub record SameCounts (before after : SourceState) : Type 0 where
  pub calls : after.calls ≡ before.calls
  pub taken : after.taken ≡ before.taken
  pub empty : after.empty ≡ before.empty
