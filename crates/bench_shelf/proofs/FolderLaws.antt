-- What the opening of a file in the current folder shows, as of any shelf.
use Rattle.std.proofs.Common.{◌≡◌, ◌≤◌, ℕ, List, Result, Ok, Err, refl, ap, arith}
use Rattle.std.specs.Prelude.{⊤, IfErr, OnErr, OnOk}
use Rattle.bench_shelf.specs.declared.error.OpenError.{OpenError}
use Rattle.bench_shelf.specs.declared.error.OpenError.TheVariants.{Failed, Missing}
use Rattle.bench_shelf.specs.Opening.{Refuses, KeepsOther, SameCounts, StartsAnew}
use Rattle.bench_shelf.specs.FolderShelf.{Folder, hidden_state, OpensFrom}

pub nothing_claimed : {A E : Type 0} (r : Result A E) → OnOk r ⊤
nothing_claimed (Ok value) = tt
nothing_claimed (Err error) = tt

pub nothing_left : {A E : Type 0} (r : Result A E) → OnErr r ⊤
nothing_left (Ok value) = tt
nothing_left (Err error) = tt

module _ {A : Type 0} (before after : Folder) where
  pub finds_refused : (name : List ℕ) (r : Result A OpenError) → OpensFrom before r after
      → IfErr r (λ error. Refuses error (hidden_state before) (hidden_state after) name)
  finds_refused name (Ok value) opens = tt
  finds_refused name (Err Failed) opens = opens.0
  finds_refused name (Err Missing) opens = (opens.0, tt)

  pub finds_counts : (r : Result A OpenError) → OpensFrom before r after
      → SameCounts (hidden_state before).source (hidden_state after).source
  finds_counts (Ok value) opens = rw opens (record { calls = refl; taken = refl; empty = refl })
  finds_counts (Err Failed) opens = rw opens.1 (record { calls = refl; taken = refl; empty = refl })
  finds_counts (Err Missing) opens = rw opens.1 (record { calls = refl; taken = refl; empty = refl })

  pub finds_anew : (name : List ℕ) (r : Result A OpenError) → OpensFrom before r after → StartsAnew (hidden_state before) (hidden_state after) name
  finds_anew name (Ok value) opens = rw opens (record { asked = refl; opens = refl; given = refl; largest = refl })
  finds_anew name (Err Failed) opens = rw opens.1 (record { asked = refl; opens = refl; given = refl; largest = refl })
  finds_anew name (Err Missing) opens = rw opens.1 (record { asked = refl; opens = refl; given = refl; largest = refl })

  pub finds_faults : (r : Result A OpenError) → OpensFrom before r after → before.faults ≤ after.faults
  finds_faults (Ok value) opens = let same = ap (λ (f : Folder). f.faults) opens in omega (arith, same)
  finds_faults (Err Failed) opens = let same = ap (λ (f : Folder). f.faults) opens.1 in omega (arith, same)
  finds_faults (Err Missing) opens = let same = ap (λ (f : Folder). f.faults) opens.1 in omega (arith, same)

  pub finds_misses : (r : Result A OpenError) → OpensFrom before r after → before.misses ≤ after.misses
  finds_misses (Ok value) opens = let same = ap (λ (f : Folder). f.misses) opens in omega (arith, same)
  finds_misses (Err Failed) opens = let same = ap (λ (f : Folder). f.misses) opens.1 in omega (arith, same)
  finds_misses (Err Missing) opens = let same = ap (λ (f : Folder). f.misses) opens.1 in omega (arith, same)

  pub finds_no_fault : (r : Result A OpenError) → OpensFrom before r after → OnOk r (after.faults ≡ before.faults)
  finds_no_fault (Ok value) opens = ap (λ (f : Folder). f.faults) opens
  finds_no_fault (Err error) opens = tt

  pub finds_no_miss : (r : Result A OpenError) → OpensFrom before r after → OnOk r (after.misses ≡ before.misses)
  finds_no_miss (Ok value) opens = ap (λ (f : Folder). f.misses) opens
  finds_no_miss (Err error) opens = tt

  pub finds_other : (r : Result A OpenError) → OpensFrom before r after
      → IfErr r (λ error. KeepsOther error (hidden_state before) (hidden_state after))
  finds_other (Ok value) opens = tt
  finds_other (Err Failed) opens = ap (λ (f : Folder). f.misses) opens.1
  finds_other (Err Missing) opens = ap (λ (f : Folder). f.faults) opens.1
