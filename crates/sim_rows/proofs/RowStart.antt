-- The beginning of a row: its destination, its source, and the second dispatch.
use Rattle.std.proofs.Common.{ℕ, ◌<◌, ◌≡◌, ap, arith, Bool, Err, false, if◌then◌else◌, Ok, Option, refl, Result, subst, sym, true}
use Rattle.sim_view.proofs.Common.{comes_as, comes_on}
use Rattle.sim_rows.specs.Prelude.{◌>>=◌, after_first, code_byte, ReachesWithin, Exits, first_of, GO, GplOperation, GplState, has_source, is_row, Kept}
use Rattle.sim_rows.specs.Prelude.{KeepsDestination, AtRow, LoadsBy, LoadsDestination, LoadsOperands, MachineState, next_of, operands_of, operation_in, Place}
use Rattle.sim_rows.specs.Prelude.{Reason, second_by, second_of, Source, source_read, Sourced, IsAt, StartsRow, unit, view}
use Rattle.sim_operands.proofs.Facts.{not_both}
use Rattle.sim_rows.proofs.Operands.{goes_to_row}
use Rattle.sim_rows.specs.Pieces as pieces
use Rattle.sim_view.specs.native_interp.declared.addresses.TheConstants.{OPSTWO}

pub is_at_address : {p : ℕ} (q : ℕ) (x : MachineState) → x.cpu.pc ≡ q → IsAt x p → IsAt x q
is_at_address q x e s = record { pc = e; wp = s.wp; words = s.words; machine = s.machine }

-- both operands by their parts
abbrev Loads : GplState → MachineState → MachineState → ℕ → ℕ → Bool → Result Place Reason → Result Source Reason → Type 0
Loads s x y t u went first second = LoadsOperands s x y t u went (first >>= λ place. (second >>= λ source. Ok (place, source)))

module _ (s : GplState) (x b : MachineState) (t u : ℕ) where
  -- it was kept
  pub record Begun : Type 0 where
    pub place : Place
    pub is_place : first_of s ≡ Ok place
    pub keeps : KeepsDestination s place x b t u (has_source s)

  pub begun : LoadsDestination s x b t u true (first_of s) → Begun
  begun l = by (first_of s) refl l
    where
      by : (r : Result Place Reason) → first_of s ≡ r → LoadsDestination s x b t u true r → Begun
      by (Ok place) e l = record { place = place; is_place = e; keeps = l.1 }
      by (Err reason) e l = absurd (not_both true refl l.0)

  module _ (k : Begun) where
    loads : (y : MachineState) (v : ℕ) (went : Bool) → Loads s x y t v went (Ok k.place) (second_of s) → LoadsOperands s x y t v went (operands_of s)
    loads y v went h = subst (λ (r : Result Place Reason). Loads s x y t v went r (second_of s)) (sym k.is_place) h

    -- a row of one operand
    pub one : (b.cpu.pc ≡ OPSTWO → ⊥) → LoadsOperands s x b t u true (operands_of s)
    one elsewhere = by (has_source s) refl k.keeps
      where
        by : (n : Bool) → has_source s ≡ n → KeepsDestination s k.place x b t u n → LoadsOperands s x b t u true (operands_of s)
        by true has c = absurd (elsewhere c.is_at.pc)
        by false has c =
            let next : next_of s ≡ after_first s = ap (λ (n : Bool). if n then (source_read s).1 else after_first s) has in
            loads b u true (subst (λ (r : Result Source Reason). Loads s x b t u true (Ok k.place) r) (sym (ap (λ (n : Bool). second_by n s) has))
            (refl, subst (λ (n : ℕ). ReachesWithin 124 x b t u GO (Sourced s k.place unit n)) (sym next) (comes_as 124 _ c (omega arith) (λ v a. a))))

    -- one of two
    pub record TwoOperands : Type 0 where
      pub has : has_source s ≡ true
      pub comes : ReachesWithin 65 x b t u OPSTWO (Kept s k.place (after_first s))

    pub two : b.cpu.pc ≡ OPSTWO → TwoOperands
    two here = by (has_source s) refl k.keeps
      where
        by : (n : Bool) → has_source s ≡ n → KeepsDestination s k.place x b t u n → TwoOperands
        by true has c = record { has = has; comes = c }
        by false has c = let there = c.is_at.pc in absurd (omega arith)

    pub loaded : (o : TwoOperands) (y : MachineState) (v : ℕ) (went : Bool) → LoadsBy s k.place b y u v went (second_of s) →
        LoadsOperands s x y t v went (operands_of s)
    loaded o y v went l = loads y v went (by (second_of s) l)
      where
        by : (r : Result Source Reason) → LoadsBy s k.place b y u v went r → Loads s x y t v went (Ok k.place) r
        by (Ok source) l = (l.0, comes_on 65 59 o.comes l.1 refl)
        by (Err reason) l = (l.0, comes_as 107 _ (comes_on 65 42 o.comes l.1 refl) (omega arith) (λ v a. a))

module _ (s : GplState) (x y : MachineState) (t u : ℕ) where
  -- both are there
  pub record Ready : Type 0 where
    pub operands : Place × Source
    pub are : operands_of s ≡ Ok operands
    pub comes : ReachesWithin 124 x y t u GO (AtRow s operands.0 operands.1)

  pub ready : LoadsOperands s x y t u true (operands_of s) → Ready
  ready l = by (operands_of s) refl l
    where
      by : (r : Result (Place × Source) Reason) → operands_of s ≡ r → LoadsOperands s x y t u true r → Ready
      by (Ok o) e l = record { operands = o; are = e; comes = l.1 }
      by (Err reason) e l = absurd (not_both true refl l.0)

  pub starts : (k : Ready) (z : MachineState) (v : ℕ) (returned : Option GplOperation) → code_byte s < 256 → is_row (operation_in s) ≡ true →
      Exits y z u v (pieces.go_to_row (view y)) → returned ≡ operation_in s → StartsRow s x z t v returned (operands_of s)
  starts k z v returned fits row e is =
      subst (λ (r : Result (Place × Source) Reason). StartsRow s x z t v returned r) (sym k.are)
      (is, comes_as 127 _ (goes_to_row s k.operands.0 k.operands.1 (next_of s) 124 fits row k.comes e) (omega arith) (λ v a. a))
