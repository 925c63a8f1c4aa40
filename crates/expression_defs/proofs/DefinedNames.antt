-- A name that is defined, beside those that were.
use Rattle.std.proofs.Common.{◌≡◌, ℕ, Bool, true, false, cond, List, None, Some, refl, sym, ◌∙◌, nat_cmp}
use Rattle.std.specs.Ordering.{eq_by_cmp, is_eq}
use Rattle.std.specs.declared.cmp.Ordering.{Ordering}
use Rattle.std.specs.declared.cmp.Ordering.TheVariants.{Less, Equal, Greater}
use Rattle.std.specs.Cmp.Lexicographic.{slice_cmp, nat_list_cmp_total}
use Rattle.std.specs.FinMap.{get, insert, get-insert, get_tied}
use Rattle.expression_defs.specs.Expression.{Value}
use Rattle.expression_defs.specs.Symbols.{Names}
use Rattle.expression_defs.specs.Growing.{Grows}

equal_of : (r : Ordering) → is_eq r ≡ true → r ≡ Equal
equal_of Less e = cc
equal_of Equal e = refl
equal_of Greater e = cc

module _ (names : Names) (name : List ℕ) (value : Value) (fresh : get names name ≡ None) where
  grown_at : (b : Bool) (asked : List ℕ) (other : Value) → eq_by_cmp (slice_cmp nat_cmp) asked name ≡ b → get names asked ≡ Some other
      → cond b (Some value) (get names asked) ≡ Some other
  grown_at true asked other tied is =
      let none : get names asked ≡ None = sym (get_tied nat_list_cmp_total names asked name (equal_of _ tied)) ∙ fresh in
      cc (none, is)
  grown_at false asked other tied is = is

  -- what stood for something goes on to do so
  pub grown : Grows names (insert names name value)
  grown asked other is =
      get-insert nat_list_cmp_total names name value asked ∙ grown_at (eq_by_cmp (slice_cmp nat_cmp) asked name) asked other refl is

pub grown_on : (first second third : Names) → Grows first second → Grows second third → Grows first third
grown_on first second third once more name value is = more name value (once name value is)

pub grown_not : (names : Names) → Grows names names
grown_not names name value is = is
