-- The next change of two lists, found place by place.
use Rattle.std.proofs.Common.{◌≡◌, ◌≢◌, ℕ, zero, suc, ◌+◌, ◌-◌, ◌<◌, ◌≤◌, Bool, true, false, cond, not, nat_eq, ◌&&◌, Some, List, [], ◌∷◌, length, drop, take, get_or, length-drop}
use Rattle.std.proofs.Common.{refl, sym, ap, ap₂, ◌∙◌, arith}
use Rattle.std.specs.List.{zip, prefix_len, slice_get}
use Rattle.std.proofs.lemmas.Bool.{eq-eqb, ne_eqb}
use Rattle.std.proofs.lemmas.Bool.Decides.{nat_tests}
use Rattle.std.proofs.Math.Bool.{and-false}
use Rattle.std.proofs.lemmas.Option.{slice_get-get_or}
use Rattle.std.proofs.lemmas.List.{get_or-drop, drop_more, take_all}
use Rattle.std.proofs.lemmas.List.Sums.{prefix_len-drop_yes, prefix_len-drop_no, prefix_len-drop_all}
use Rattle.std.proofs.lemmas.Slice.Zip.{get_or-zip, length-zip}
use Rattle.change_defs.specs.Changes.{Change, joined, changes_from}
use Rattle.step_changes.specs.Scan.{left_from, is_made, IsNextChange}

abbrev pub change : ℕ → ℕ → ℕ → Change
change at byte count = record { at = at; byte = byte; count = count }

-- equal lists have no changes
pub none : (a : List ℕ) (at : ℕ) → changes_from at a a ≡ []
none [] at = refl
none (x ∷ a) at = rw (eq-eqb x x refl) (none a (at + 1))

some_byte : (x y : ℕ) → Some x ≡ Some y → x ≡ y
some_byte x y e = cc

-- places that are the same have none
skips : (a b : List ℕ) (at p end : ℕ) → length a ≡ length b → p ≤ length a → ((k : ℕ) → k < p → slice_get a k ≡ slice_get b k)
    → end ≡ at + p → changes_from at a b ≡ changes_from end (drop p a) (drop p b)
skips a b at zero end same le shown e = ap (λ k. changes_from k a b) (omega arith)
skips [] b at (suc p) end same le shown e = let no : ⊥ = omega arith in absurd no
skips (x ∷ a) [] at (suc p) end same le shown e = let no : ⊥ = omega arith in absurd no
skips (x ∷ a) (y ∷ b) at (suc p) end same le shown e =
    let here : x ≡ y = some_byte x y (shown 0 (omega arith)) in
    rw (eq-eqb x y here)
    (skips a b (at + 1) p end (omega arith) (omega arith) (λ k lt. shown (suc k) (omega arith)) (omega arith))

-- a change before which another byte stands
alone : (at y : ℕ) (c : Change) (cs : List Change) → (nat_eq c.at (at + 1) && nat_eq c.byte y) ≡ false
    → joined at y (c ∷ cs) ≡ record { at = at; byte = y; count = 1 } ∷ c ∷ cs
alone at y c cs e = rw e refl

-- the first change of lists begins at their first place or later
abbrev StartsFrom : ℕ → List Change → Type 0
StartsFrom at [] = Unit {0}
StartsFrom at (c ∷ cs) = at ≤ c.at

starts_joined : (at y : ℕ) (cs : List Change) → StartsFrom at (joined at y cs)
starts_joined at y [] = omega arith
starts_joined at y (c ∷ cs) = by (nat_eq c.at (at + 1) && nat_eq c.byte y)
  where
    by : (s : Bool) → StartsFrom at (cond s (record { at = at; byte = y; count = c.count + 1 } ∷ cs) (record { at = at; byte = y; count = 1 } ∷ c ∷ cs))
    by true = omega arith
    by false = omega arith

starts_later : (at : ℕ) (cs : List Change) → StartsFrom (at + 1) cs → StartsFrom at cs
starts_later at [] s = tt
starts_later at (c ∷ cs) s = omega arith

starts : (a b : List ℕ) (at : ℕ) → StartsFrom at (changes_from at a b)
starts [] b at = tt
starts (x ∷ a) [] at = tt
starts (x ∷ a) (y ∷ b) at = by (nat_eq x y) (starts_later at _ (starts a b (at + 1)))
  where
    by : (s : Bool) → StartsFrom at (changes_from (at + 1) a b) → StartsFrom at (cond s (changes_from (at + 1) a b) (joined at y (changes_from (at + 1) a b)))
    by true on = on
    by false on = starts_joined at y (changes_from (at + 1) a b)

-- a byte joins nothing that begins later
joins_none : (at y : ℕ) (cs : List Change) → StartsFrom (at + 1 + 1) cs → joined at y cs ≡ record { at = at; byte = y; count = 1 } ∷ cs
joins_none at y [] s = refl
joins_none at y (c ∷ cs) s = alone at y c cs (ap (λ t. t && nat_eq c.byte y) (ne_eqb c.at (at + 1) (λ e. omega arith)))

-- nor a change to another byte
not_joined : (at y z : ℕ) → z ≢ y → (nat_eq (at + 1) (at + 1) && nat_eq z y) ≡ false
not_joined at y z ne = rw (ne_eqb z y ne) (and-false (nat_eq (at + 1) (at + 1)))

joins_other : (at y z : ℕ) (cs : List Change) → z ≢ y → joined at y (joined (at + 1) z cs) ≡ record { at = at; byte = y; count = 1 } ∷ joined (at + 1) z cs
joins_other at y z [] ne = alone at y _ [] (not_joined at y z ne)
joins_other at y z (c ∷ cs) ne = by (nat_eq c.at (at + 1 + 1) && nat_eq c.byte z)
  where
    by : (s : Bool) → joined at y (cond s (record { at = at + 1; byte = z; count = c.count + 1 } ∷ cs) (record { at = at + 1; byte = z; count = 1 } ∷ c ∷ cs))
        ≡ record { at = at; byte = y; count = 1 } ∷ cond s (record { at = at + 1; byte = z; count = c.count + 1 } ∷ cs) (record { at = at + 1; byte = z; count = 1 } ∷ c ∷ cs)
    by true = alone at y _ cs (not_joined at y z ne)
    by false = alone at y _ (c ∷ cs) (not_joined at y z ne)

-- how many bytes after a changed one changed and are the same now
abbrev further : ℕ → List ℕ → List ℕ → ℕ
further y a b = prefix_len (is_made y) (zip a b)

-- bytes that differ, of which the second is not the byte
other_made : (x y z : ℕ) → (nat_eq z y && not (nat_eq x y)) ≡ false → nat_eq x z ≡ false → z ≢ y
other_made x y z e f = λ same. grind (arith, nat_tests)

-- a changed byte alone
stops : (x z : ℕ) (a b : List ℕ) (at y : ℕ) → is_made y (x, z) ≡ false
    → joined at y (changes_from (at + 1) (x ∷ a) (z ∷ b)) ≡ record { at = at; byte = y; count = 1 } ∷ changes_from (at + 1) (x ∷ a) (z ∷ b)
stops x z a b at y e = by (nat_eq x z) refl (starts a b (at + 1 + 1))
  where
    by : (s : Bool) → nat_eq x z ≡ s → StartsFrom (at + 1 + 1) (changes_from (at + 1 + 1) a b)
        → joined at y (cond s (changes_from (at + 1 + 1) a b) (joined (at + 1) z (changes_from (at + 1 + 1) a b)))
        ≡ record { at = at; byte = y; count = 1 } ∷ cond s (changes_from (at + 1 + 1) a b) (joined (at + 1) z (changes_from (at + 1 + 1) a b))
    by true f on = joins_none at y _ on
    by false f on = joins_other at y z _ (other_made x y z e f)

one_more : (f n end at y x z : ℕ) (a b : List ℕ) → n ≡ suc f → end ≡ at + 1 + n
    → change at y (1 + f + 1) ∷ changes_from (at + 1 + 1 + f) (drop f a) (drop f b)
    ≡ record { at = at; byte = y; count = 1 + n } ∷ changes_from end (drop n (x ∷ a)) (drop n (z ∷ b))
one_more f zero end at y x z a b e ends = let no : ⊥ = omega arith in absurd no
one_more f (suc n) end at y x z a b e ends =
    ap (λ k. change at y k ∷ changes_from (at + 1 + 1 + f) (drop f a) (drop f b)) (omega arith)
    ∙ ap₂ (λ k m. change at y (1 + suc n) ∷ changes_from k (drop m a) (drop m b)) (omega arith) (omega arith)

-- a changed byte, with those after it
grows : (a b : List ℕ) (at y end : ℕ) → length a ≡ length b → end ≡ at + 1 + further y a b
    → joined at y (changes_from (at + 1) a b) ≡ record { at = at; byte = y; count = 1 + further y a b } ∷ changes_from end (drop (further y a b) a) (drop (further y a b) b)
grows [] b at y end same e = refl
grows (x ∷ a) [] at y end same e = let no : ⊥ = omega arith in absurd no
grows (x ∷ a) (z ∷ b) at y end same e =
    by (nat_eq z y && not (nat_eq x y)) refl e (grows a b (at + 1) y (at + 1 + 1 + further y a b) (omega arith) refl)
  where
    left : List Change
    left = changes_from (at + 1 + 1 + further y a b) (drop (further y a b) a) (drop (further y a b) b)

    both : (nat_eq (at + 1) (at + 1) && nat_eq y y) ≡ true
    both = ap₂ (λ p q. p && q) (eq-eqb (at + 1) (at + 1) refl) (eq-eqb y y refl)

    by : (m : Bool) → (nat_eq z y && not (nat_eq x y)) ≡ m → end ≡ at + 1 + cond m (1 + further y a b) 0
        → joined (at + 1) y (changes_from (at + 1 + 1) a b) ≡ record { at = at + 1; byte = y; count = 1 + further y a b } ∷ changes_from (at + 1 + 1 + further y a b) (drop (further y a b) a) (drop (further y a b) b)
        → joined at y (changes_from (at + 1) (x ∷ a) (z ∷ b))
        ≡ record { at = at; byte = y; count = 1 + cond m (1 + further y a b) 0 } ∷ changes_from end (drop (cond m (1 + further y a b) 0) (x ∷ a)) (drop (cond m (1 + further y a b) 0) (z ∷ b))
    by false i e on = stops x z a b at y i ∙ ap (λ k. record { at = at; byte = y; count = 1 } ∷ changes_from k (x ∷ a) (z ∷ b)) (omega arith)
    by true i e on =
        let equal : z ≡ y = grind (arith, nat_tests) in
        let other : nat_eq x z ≡ false = grind (arith, nat_tests) in
        ap (λ s. joined at y (cond s (changes_from (at + 1 + 1) a b) (joined (at + 1) z (changes_from (at + 1 + 1) a b)))) other
        ∙ ap (λ w. joined at y (joined (at + 1) w (changes_from (at + 1 + 1) a b))) equal
        ∙ ap (joined at y) on
        ∙ ap (λ s. cond s (record { at = at; byte = y; count = 1 + further y a b + 1 } ∷ left) (record { at = at; byte = y; count = 1 } ∷ record { at = at + 1; byte = y; count = 1 + further y a b } ∷ left)) both
        ∙ one_more (further y a b) (1 + further y a b) end at y x z a b (omega arith) e

drop_further : (n p m : ℕ) (l : List ℕ) → m ≡ n + p → drop p (drop n l) ≡ drop m l
drop_further zero p m l e = ap (λ k. drop k l) (omega arith)
drop_further (suc n) p zero l e = let no : ⊥ = omega arith in absurd no
drop_further (suc n) zero (suc m) [] e = refl
drop_further (suc n) (suc p) (suc m) [] e = refl
drop_further (suc n) p (suc m) (x ∷ l) e = drop_further n p m l (omega arith)

-- what a slice from a place on shows
pub rest_is : (l : List ℕ) (at : ℕ) → take (length l - at) (drop at l) ≡ drop at l
rest_is l at = take_all (length l - at) (drop at l) (omega (arith, length-drop at l))

zip_none : (a : List ℕ) → zip {X = ℕ} a [] ≡ []
zip_none [] = refl
zip_none (x ∷ a) = refl

drop_zip : (n : ℕ) (a b : List ℕ) → drop n (zip a b) ≡ zip (drop n a) (drop n b)
drop_zip zero a b = refl
drop_zip (suc n) [] b = refl
drop_zip (suc n) (x ∷ a) [] = sym (zip_none (drop n a))
drop_zip (suc n) (x ∷ a) (y ∷ b) = drop_zip n a b

module _ (before now : List ℕ) (same : length before ≡ length now) where
  -- where both lists go on alike, nothing is left
  pub no_next : (at : ℕ) → drop at before ≡ drop at now → left_from before now at ≡ []
  no_next at e = ap (λ l. changes_from at l (drop at now)) e ∙ none (drop at now) at

  -- the next change begins at the first place where they differ
  module _ (at p from : ℕ) (le : at ≤ length now) (e : from ≡ at + p) (lt : p < length (drop at before))
      (differs : slice_get (drop at before) p ≢ slice_get (drop at now) p) (shown : (k : ℕ) → k < p → slice_get (drop at before) k ≡ slice_get (drop at now) k) where
    lt_now : p < length (drop at now)
    lt_now = omega (arith, length-drop at before, length-drop at now)

    shows : (l : List ℕ) → p < length (drop at l) → slice_get (drop at l) p ≡ Some (get_or l from 0)
    shows l less = slice_get-get_or (drop at l) p 0 less ∙ ap Some (get_or-drop at l p 0 ∙ ap (λ k. get_or l k 0) (sym e))

    pub begins : IsNextChange before now at from
    begins = record {
      from_on = omega arith;
      within = omega (arith, length-drop at before);
      skips = skips (drop at before) (drop at now) at p from (omega (arith, length-drop at before, length-drop at now)) (omega arith) shown e
          ∙ ap₂ (λ a b. changes_from from a b) (drop_further at p from before e) (drop_further at p from now e);
      differs = λ equal. differs (shows before lt ∙ ap Some equal ∙ sym (shows now lt_now));
    }

  -- a change is the stretch from the place on
  module _ (from count : ℕ) (less : from < length now) (differs : get_or before from 0 ≢ get_or now from 0)
      (counted : count ≡ 1 + prefix_len (is_made (get_or now from 0)) (drop (from + 1) (zip before now))) where
    abbrev a : List ℕ
    a = drop (from + 1) before

    abbrev b : List ℕ
    b = drop (from + 1) now

    abbrev y : ℕ
    y = get_or now from 0

    pub change_is : left_from before now from ≡ change from (get_or now from 0) count ∷ left_from before now (from + count)
    change_is =
        let n : ℕ = further y a b in
        let is : count ≡ 1 + n = counted ∙ ap (λ z. 1 + prefix_len (is_made y) z) (drop_zip (from + 1) before now) in
        let ends : from + count ≡ from + 1 + n = omega (arith, is) in
        ap₂ (λ u v. changes_from from u v) (drop_more before from 0 (omega arith)) (drop_more now from 0 less)
        ∙ ap (λ s. cond s (changes_from (from + 1) a b) (joined from y (changes_from (from + 1) a b))) (ne_eqb (get_or before from 0) y differs)
        ∙ grows a b from y (from + count) (omega (arith, length-drop (from + 1) before, length-drop (from + 1) now)) ends
        ∙ ap₂ (λ u v. change from y (1 + n) ∷ changes_from (from + count) u v)
        (drop_further (from + 1) n (from + count) before ends) (drop_further (from + 1) n (from + count) now ends)
        ∙ ap (λ k. change from y k ∷ left_from before now (from + count)) (sym is)

-- how many go on, place by place
module _ (before now : List ℕ) (same : length before ≡ length now) (byte end : ℕ) where
  inside : end < length now → end < length (zip before now)
  inside less = omega (arith, length-zip before now)

  place : end < length now → get_or (zip before now) end (0, 0) ≡ (get_or before end 0, get_or now end 0)
  place less = get_or-zip before now end (0, 0) (omega arith) less

  pub goes_on : end < length now → is_made byte (get_or before end 0, get_or now end 0) ≡ true
      → prefix_len (is_made byte) (drop end (zip before now)) ≡ 1 + prefix_len (is_made byte) (drop (end + 1) (zip before now))
  goes_on less e = prefix_len-drop_yes (is_made byte) (zip before now) end (0, 0) (inside less) (ap (is_made byte) (place less) ∙ e)

  pub ends_here : end < length now → is_made byte (get_or before end 0, get_or now end 0) ≡ false → prefix_len (is_made byte) (drop end (zip before now)) ≡ 0
  ends_here less e = prefix_len-drop_no (is_made byte) (zip before now) end (0, 0) (inside less) (ap (is_made byte) (place less) ∙ e)

  pub ends_after : length now ≤ end → prefix_len (is_made byte) (drop end (zip before now)) ≡ 0
  ends_after le = prefix_len-drop_all (is_made byte) (zip before now) end (omega (arith, length-zip before now))
