-- A name that is defined, and one that is taken out again.
use Rattle.std.proofs.Common.{◌≡◌, ℕ, Bool, true, false, cond, List, None, Some, refl, sym, ap, ◌∙◌, nat_cmp}
use Rattle.std.specs.Ordering.{eq_by_cmp, is_eq}
use Rattle.std.specs.declared.cmp.Ordering.{Ordering}
use Rattle.std.specs.declared.cmp.Ordering.TheVariants.{Less, Equal, Greater}
use Rattle.std.specs.Cmp.Lexicographic.{slice_cmp, nat_list_cmp_total}
use Rattle.std.specs.FinMap.{get, insert, remove, get-insert, get-remove, get_tied, same_map, slice_cmp-IsAntisymmetric, nat_cmp-IsAntisymmetric}
use Rattle.expression_defs.specs.Expression.{Value}
use Rattle.expression_defs.specs.Symbols.{Names}
use Rattle.expression_defs.specs.Growing.{Grows}

equal_of : (r : Ordering) → is_eq r ≡ true → r ≡ Equal
equal_of Less e = cc
equal_of Equal e = refl
equal_of Greater e = cc

module _ (names : Names) (name : List ℕ) (value : Value) (fresh : get names name ≡ None) where
  taken_at : (b : Bool) (asked : List ℕ) → eq_by_cmp (slice_cmp nat_cmp) asked name ≡ b
      → cond b None (cond b (Some value) (get names asked)) ≡ get names asked
  taken_at true asked tied = sym (sym (get_tied nat_list_cmp_total names asked name (equal_of _ tied)) ∙ fresh)
  taken_at false asked tied = refl

  pub taken_back : remove (insert names name value) name ≡ names
  taken_back =
      same_map nat_list_cmp_total (slice_cmp-IsAntisymmetric nat_cmp-IsAntisymmetric) _ _
      (λ asked.
      get-remove nat_list_cmp_total (insert names name value) name asked
      ∙ (ap (cond (eq_by_cmp (slice_cmp nat_cmp) asked name) None) (get-insert nat_list_cmp_total names name value asked)
      ∙ taken_at (eq_by_cmp (slice_cmp nat_cmp) asked name) asked refl))

  grown_at : (b : Bool) (asked : List ℕ) (other : Value) → eq_by_cmp (slice_cmp nat_cmp) asked name ≡ b → get names asked ≡ Some other
      → cond b (Some value) (get names asked) ≡ Some other
  grown_at true asked other tied is =
      let none : get names asked ≡ None = sym (get_tied nat_list_cmp_total names asked name (equal_of _ tied)) ∙ fresh in
      cc (none, is)
  grown_at false asked other tied is = is

  -- what stood for something goes on to do so
  pub grown : Grows names (insert names name value)
  grown asked other is =
      get-insert nat_list_cmp_total names name value asked ∙ grown_at (eq_by_cmp (slice_cmp nat_cmp) asked name) asked other refl is

pub grown_on : (first second third : Names) → Grows first second → Grows second third → Grows first third
grown_on first second third once more name value is = more name value (once name value is)
