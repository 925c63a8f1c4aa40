-- The changes of a list, made in it, give the list that they lead to.
use Rattle.std.proofs.Common.{◌≡◌, ℕ, suc, ◌+◌, Bool, true, false, cond, nat_eq, ◌&&◌, List, [], ◌∷◌, ◌++◌, length, drop, replicate}
use Rattle.std.proofs.Common.{refl, sym, ap, ap₂, ◌∙◌, append_assoc, length-append, arith}
use Rattle.std.proofs.lemmas.Bool.Decides.{nat_tests}
use Rattle.std.proofs.Math.Seq.{take-append_seam, drop-append-add}
use Rattle.change_defs.specs.Changes.{Change, joined, changes_from, changed, applied, ChangesLead}

drop_front : (p a : List ℕ) (n k : ℕ) → k ≡ length p + n → drop k (p ++ a) ≡ drop n a
drop_front p a n k e = rw e (drop-append-add p a n)

-- a change after a front
changed_after : (p a : List ℕ) (y n : ℕ) → changed (record { at = length p; byte = y; count = n }) (p ++ a) ≡ p ++ (replicate n y ++ drop n a)
changed_after p a y n = ap₂ (λ front rest. front ++ (replicate n y ++ rest)) (take-append_seam p a) (drop_front p a n (length p + n) refl)

-- one byte is changed
one : (p a : List ℕ) (x y : ℕ) → changed (record { at = length p; byte = y; count = 1 }) (p ++ x ∷ a) ≡ p ++ y ∷ a
one p a x y = changed_after p (x ∷ a) y 1

-- a front with one byte more
grown : (p a : List ℕ) (y : ℕ) → (p ++ y ∷ []) ++ a ≡ p ++ y ∷ a
grown p a y = append_assoc p (y ∷ []) a

longer : (p : List ℕ) (y : ℕ) → length (p ++ y ∷ []) ≡ length p + 1
longer p y = length-append p (y ∷ [])

-- a change that begins a place earlier
more : (p a : List ℕ) (x y n : ℕ) → changed (record { at = length p; byte = y; count = n + 1 }) (p ++ x ∷ a)
    ≡ changed (record { at = length p + 1; byte = y; count = n }) (p ++ y ∷ a)
more p a x y n =
    changed_after p (x ∷ a) y (n + 1)
    ∙ ap (λ m. p ++ (replicate m y ++ drop m (x ∷ a))) (let e : n + 1 ≡ suc n = omega arith in e)
    ∙ sym (grown p (replicate n y ++ drop n a) y)
    ∙ sym (changed_after (p ++ y ∷ []) a y n)
    ∙ ap₂ (λ (k : ℕ) (t : List ℕ). changed (record { at = k; byte = y; count = n }) t) (longer p y) (grown p a y)

joined_applies : (p a : List ℕ) (x y : ℕ) (cs : List Change) → applied (joined (length p) y cs) (p ++ x ∷ a) ≡ applied cs (p ++ y ∷ a)
joined_applies p a x y [] = one p a x y
joined_applies p a x y (c ∷ cs) = by (nat_eq c.at (length p + 1)) (nat_eq c.byte y) refl refl
  where
    by : (next same : Bool) → nat_eq c.at (length p + 1) ≡ next → nat_eq c.byte y ≡ same
        → applied (cond (next && same) (record { at = length p; byte = y; count = c.count + 1 } ∷ cs) (record { at = length p; byte = y; count = 1 } ∷ c ∷ cs)) (p ++ x ∷ a) ≡ applied (c ∷ cs) (p ++ y ∷ a)
    by true true e f =
        let at : c.at ≡ length p + 1 = grind (arith, nat_tests) in
        let byte : c.byte ≡ y = grind (arith, nat_tests) in
        ap (applied cs) (more p a x y c.count
        ∙ ap₂ (λ (k : ℕ) (z : ℕ). changed (record { at = k; byte = z; count = c.count }) (p ++ y ∷ a)) (sym at) (sym byte))
    by _ _ e f = ap (λ t. applied cs (changed c t)) (one p a x y)

-- one byte more in the front, by what holds of the rest
ahead : (p a b : List ℕ) (z : ℕ) → applied (changes_from (length (p ++ z ∷ [])) a b) ((p ++ z ∷ []) ++ a) ≡ (p ++ z ∷ []) ++ b
    → applied (changes_from (length p + 1) a b) (p ++ z ∷ a) ≡ p ++ z ∷ b
ahead p a b z rest =
    ap₂ (λ (k : ℕ) (t : List ℕ). applied (changes_from k a b) t) (sym (longer p z)) (sym (grown p a z)) ∙ rest ∙ grown p b z

leads : (p a b : List ℕ) → length a ≡ length b → applied (changes_from (length p) a b) (p ++ a) ≡ p ++ b
leads p [] [] same = refl
leads p (x ∷ a) (y ∷ b) same =
    by (nat_eq x y) refl (ahead p a b x (leads (p ++ x ∷ []) a b (omega arith))) (ahead p a b y (leads (p ++ y ∷ []) a b (omega arith)))
  where
    rest : List Change
    rest = changes_from (length p + 1) a b

    by : (e : Bool) → nat_eq x y ≡ e → applied rest (p ++ x ∷ a) ≡ p ++ x ∷ b → applied rest (p ++ y ∷ a) ≡ p ++ y ∷ b
        → applied (cond e rest (joined (length p) y rest)) (p ++ x ∷ a) ≡ p ++ y ∷ b
    by true e on_x on_y = let same : x ≡ y = grind (arith, nat_tests) in on_x ∙ ap (λ z. p ++ z ∷ b) same
    by false e on_x on_y = joined_applies p a x y rest ∙ on_y
leads p _ _ same = let no : ⊥ = omega arith in absurd no

pub changes_lead : ChangesLead
changes_lead before after same = leads [] before after same
