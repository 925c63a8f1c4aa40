-- The groups of a line by their places are those that come one after the other.
use Rattle.std.proofs.Common.{◌≡◌, ℕ, zero, suc, ◌+◌, ◌<◌, ◌≤◌, Bool, true, false, get_or, List, [], ◌∷◌, ◌++◌, length, take, drop, refl, sym, ap, ◌∙◌, arith}
use Rattle.std.proofs.Common.{append_assoc, append-nil, length-drop, take-add, drop-drop}
use Rattle.std.specs.Prelude.{nat_le, if◌then◌else◌}
use Rattle.std.proofs.lemmas.Bool.Decides.{nat_tests}
use Rattle.std.proofs.lemmas.List.{take_more, drop_more, nil_from_length}
use Rattle.object_defs.specs.declared.form.TextForm.{TextForm}
use Rattle.object_defs.specs.Groups.{FoundGroup, found_at, ends_line, size_found, groups_from}
use Rattle.object_laws.specs.Running.{groups_after}

-- the characters that are left of a group are passed over
pub passed_over : (form : TextForm) (before : List ℕ) (left : ℕ) (rest : List ℕ)
    → groups_after form before left rest ≡ groups_after form (before ++ take left rest) 0 (drop left rest)
unfolding groups_after
passed_over form before zero rest = ap (λ (b : List ℕ). groups_after form b 0 rest) (sym (append-nil before))
passed_over form before (suc left) [] = refl
passed_over form before (suc left) (byte ∷ rest) =
    passed_over form (before ++ byte ∷ []) left rest ∙ ap (λ (b : List ℕ). groups_after form b 0 (drop left rest))
    (append_assoc before (byte ∷ []) (take left rest))

module _ (form : TextForm) (line : List ℕ) where
  abbrev after : ℕ → List FoundGroup
  after at = groups_after form (take at line) 0 (drop at line)

  -- no group begins at the end of a line
  none_after : (at : ℕ) → length line ≤ at → after at ≡ []
  unfolding groups_after
  none_after at past =
      let none : drop at line ≡ [] = nil_from_length (drop at line) (omega (arith, past, length-drop at line)) in rw none refl

  module _ (at : ℕ) (inside : at < length line) where
    abbrev found : FoundGroup
    found = found_at form (take at line) (get_or line at 0) (drop (at + 1) line)

    -- the group at a place, and the groups after it
    first_after : after at ≡ found ∷ (if ends_line found then [] else after (at + 1 + size_found form found))
    unfolding groups_after
    first_after =
        let size : ℕ = size_found form found in
        let cut : drop at line ≡ get_or line at 0 ∷ drop (at + 1) line = drop_more line at 0 inside in
        let one : take at line ++ get_or line at 0 ∷ [] ≡ take (at + 1) line = sym (take_more line at 0 inside) in
        let next : groups_after form (take at line ++ get_or line at 0 ∷ []) size (drop (at + 1) line) ≡ after (at + 1 + size) =
        ap (λ (b : List ℕ). groups_after form b size (drop (at + 1) line)) one
        ∙ (passed_over form (take (at + 1) line) size (drop (at + 1) line)
        ∙ (ap (λ (b : List ℕ). groups_after form b 0 (drop size (drop (at + 1) line))) (sym (take-add (at + 1) size line))
        ∙ ap (groups_after form (take (at + 1 + size) line) 0) (drop-drop size (at + 1) line))) in
        ap (groups_after form (take at line) 0) cut
        ∙ ap (λ (groups : List FoundGroup). found ∷ (if ends_line found then [] else groups)) next

  pub by_places : (most at : ℕ) → length line ≤ at + most → groups_from most form line at ≡ after at
  unfolding groups_from
  by_places zero at few = sym (none_after at (omega (arith, few)))
  by_places (suc most) at few = by (nat_le (length line) at) refl (λ next few. by_places most next few)
    where
      by : (past : Bool) → nat_le (length line) at ≡ past → ((next : ℕ) → length line ≤ next + most → groups_from most form line next ≡ after next)
          → groups_from (suc most) form line at ≡ after at
      by true e others = let past : length line ≤ at = grind (arith, nat_tests, e) in rw e (sym (none_after at past))
      by false e others =
          let inside : at < length line = grind (arith, nat_tests, e) in
          let group : FoundGroup = found at inside in
          rw e
          (ap (λ (groups : List FoundGroup). group ∷ (if ends_line group then [] else groups))
          (others (at + 1 + size_found form group) (omega (arith, few)))
          ∙ sym (first_after at inside))

  pub all_places : groups_from (length line) form line 0 ≡ groups_after form [] 0 line
  all_places = by_places (length line) 0 (omega arith)
