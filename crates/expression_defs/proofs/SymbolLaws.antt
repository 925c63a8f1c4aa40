-- Registers, one after the other, and names that are defined after others.
use Rattle.std.proofs.Common.{◌≡◌, ℕ, suc, ◌+◌, ◌-◌, ◌<◌, true, false, cond, List, Some, refl, ◌∙◌, arith}
use Rattle.std.specs.Prelude.{Option, nat_eq, map}
use Rattle.std.specs.List.{range_with_len}
use Rattle.std.specs.Ordering.{nat_cmp}
use Rattle.std.specs.Cmp.Lexicographic.{pointwise, slice_cmp, texts_ties}
use Rattle.std.specs.FinMap.{find}
use Rattle.expression_defs.specs.Expression.{Value, Absolute}
use Rattle.expression_defs.specs.Symbols.{register_name, registers}

abbrev pub row : ℕ → List ℕ × Value
row number = (register_name number, Absolute number)

-- the registers from a number on
abbrev pub registers_from : ℕ → List (List ℕ × Value)
registers_from number = map row (range_with_len number (16 - number))

abbrev pub found : List ℕ → List (List ℕ × Value) → Option Value
found name rows = find (slice_cmp nat_cmp) name rows

pub register_step : (name : List ℕ) (number : ℕ) → number < 16 → found name (registers_from number) ≡ cond (pointwise nat_eq name (register_name number)) (Some (Absolute number)) (found name (registers_from (number + 1)))
register_step name number lt =
    let more : 16 - number ≡ suc (16 - (number + 1)) = omega arith in
    rw (more, texts_ties name (register_name number)) refl

pub registers_all : registers_from 0 ≡ registers
unfolding registers
registers_all = refl

module _ (name : List ℕ) (number : ℕ) (lt : number < 16) where
  -- the name is this register
  pub register_here : pointwise nat_eq name (register_name number) ≡ true
      → found name (registers_from number) ≡ Some (Absolute number)
  register_here e = register_step name number lt ∙ rw e refl

  -- the name is another one, or none
  pub register_later : pointwise nat_eq name (register_name number) ≡ false
      → found name (registers_from number) ≡ found name (registers_from (number + 1))
  register_later e = register_step name number lt ∙ rw e refl
