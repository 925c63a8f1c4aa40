-- Which way MUL and DIV went.
use Rattle.std.proofs.Common.{ℕ, ◌==◌, ◌∙◌, ◌≡◌, arith, Bool, false, if◌then◌else◌, refl, sym, true}
use Rattle.sim_rows.proofs.Common.{DIVBY, DIVW, exit, Exits, MachineState, OVER, View, view}
use Rattle.sim_rows.proofs.sim_view.Routines.{exits_by}
use Rattle.sim_muldiv.specs.Pieces as pieces

abbrev Went : (x a : MachineState) (t u : ℕ) → View → Bool → Bool → Type 0
Went x a t u v fits one = Exits x a t u
    (if fits then (if one then exit 4 DIVBY v else exit 4 DIVW v) else exit 2 OVER v)

module _ {x a : MachineState} {t u : ℕ} where
  pub multiplied_bytes : ((view x).r.r3 == 1) ≡ true → Exits x a t u (pieces.multiply (view x)) →
      Exits x a t u (pieces.multiply_bytes (view x))
  multiplied_bytes is run = exits_by (rw is refl) run

  pub multiplied_words : ((view x).r.r3 == 1) ≡ false → Exits x a t u (pieces.multiply (view x)) →
      Exits x a t u (pieces.multiply_words (view x))
  multiplied_words is run = exits_by (rw is refl) run

  pub over : (v : View) (fits one : Bool) → a.cpu.pc ≡ OVER → Went x a t u v fits one →
      (fits ≡ false) × Exits x a t u (exit 2 OVER v)
  over v true true at e = let o = sym at ∙ e.is_at.pc in absurd (omega arith)
  over v true false at e = let o = sym at ∙ e.is_at.pc in absurd (omega arith)
  over v false one at e = (refl, e)

  pub bytes : (v : View) (fits one : Bool) → a.cpu.pc ≡ DIVBY → Went x a t u v fits one →
      (fits ≡ true) × (one ≡ true) × Exits x a t u (exit 4 DIVBY v)
  bytes v true true at e = (refl, refl, e)
  bytes v true false at e = let o = sym at ∙ e.is_at.pc in absurd (omega arith)
  bytes v false one at e = let o = sym at ∙ e.is_at.pc in absurd (omega arith)

  pub words : (v : View) (fits one : Bool) → (a.cpu.pc ≡ OVER → ⊥) → (a.cpu.pc ≡ DIVBY → ⊥) → Went x a t u v fits one →
      (fits ≡ true) × (one ≡ false) × Exits x a t u (exit 4 DIVW v)
  words v true true not_over not_bytes e = absurd (not_bytes e.is_at.pc)
  words v true false not_over not_bytes e = (refl, refl, e)
  words v false one not_over not_bytes e = absurd (not_over e.is_at.pc)
