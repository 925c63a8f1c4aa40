-- The scanner of a text: a token ends where the first byte stands that is not of its class.
use Rattle.std.proofs.Common.{◌≡◌, ℕ, zero, suc, ◌+◌, ◌-◌, ◌<◌, ◌≤◌, Bool, true, false, not, ◌&&◌, List, [], ◌∷◌, ◌++◌}
use Rattle.std.proofs.Common.{length, length-append, append-nil, drop, get_or, refl, ap, sym, ◌∙◌, arith}
use Rattle.std.specs.List.{list_all}
pub use Rattle.std.proofs.lemmas.Bool.{not-true as not_true}
use Rattle.std.proofs.lemmas.Bool.{and_parts}
use Rattle.std.proofs.lemmas.List.{drop-drop, get_or-drop, get_or_append_left, get_or-append-add}
use Rattle.std.proofs.lemmas.List.Folds.{list_all-append}
use Rattle.std.proofs.Math.Seq.{drop-append_seam, take-append_seam}
use Rattle.source_defs.specs.Least.{least, least_place}
use Rattle.source_defs.specs.Characters.{is_quote}
use Rattle.source_defs.specs.Fields.{in_quotes}
use Rattle.source_defs.specs.Lines.{part}
use Rattle.source_defs.proofs.Quotes.{in_quotes_more_no, in_quotes_none}

pub and_left : (a b : Bool) → (a && b) ≡ true → a ≡ true
and_left a b e = (and_parts a b e).0

pub and_right : (a b : Bool) → (a && b) ≡ true → b ≡ true
and_right a b e = (and_parts a b e).1

pub all_both : {A : Type 0} (p : A → Bool) (xs ys : List A) → list_all p xs ≡ true → list_all p ys ≡ true → list_all p (xs ++ ys)
    ≡ true
all_both p xs ys e f = rw (list_all-append p xs ys, e) f

pub all_get : (p : ℕ → Bool) (xs : List ℕ) (i : ℕ) → i < length xs → list_all p xs ≡ true → p (get_or xs i 0) ≡ true
all_get p [] i lt e = absurd (omega arith)
all_get p (x ∷ xs) zero lt e = and_left (p x) (list_all p xs) e
all_get p (x ∷ xs) (suc i) lt e = all_get p xs i (omega arith) (and_right (p x) (list_all p xs) e)

-- one class of bytes in another
pub all_also : (p q : ℕ → Bool) → ((x : ℕ) → p x ≡ true → q x ≡ true) → (xs : List ℕ) → list_all p xs ≡ true →
    list_all q xs ≡ true
all_also p q also [] e = refl
all_also p q also (x ∷ xs) e =
    rw (also x (and_left (p x) (list_all p xs) e)) (all_also p q also xs (and_right (p x) (list_all p xs) e))

-- the first byte of a text, if it has one, is of a class
abbrev pub starts : (ℕ → Bool) → List ℕ → Bool
starts p [] = true
starts p (byte ∷ bytes) = p byte

pub starts_with : (p : ℕ → Bool) (xs more : List ℕ) → 0 < length xs → list_all p xs ≡ true → starts p (xs ++ more) ≡ true
starts_with p [] more some e = absurd (omega arith)
starts_with p (x ∷ xs) more some e = and_left (p x) (list_all p xs) e

first_is : (p : ℕ → Bool) (xs : List ℕ) → starts p xs ≡ true → 0 < length xs → p (get_or xs 0 0) ≡ true
first_is p [] e some = absurd (omega arith)
first_is p (x ∷ xs) e some = e

-- the least number that passes is the one with none before it
least_is : (test : ℕ → Bool) (from n k : ℕ) → k ≤ n → ((j : ℕ) → j < k → test (from + j) ≡ false) →
    (k < n → test (from + k) ≡ true) → least test from n ≡ from + k
least_is test from zero k le before there = omega arith
least_is test from (suc n) zero le before there =
    let here : from + 0 ≡ from = omega arith in rw (here, rw here at (there (omega arith))) refl
least_is test from (suc n) (suc k) le before there =
    let here : from + 0 ≡ from = omega arith in
    let next : (j : ℕ) → from + 1 + j ≡ from + suc j = λ j. omega arith in
    rw (rw here at (before 0 (omega arith)))
    (least_is test (from + 1) n k (omega arith) (λ j lt. rw (next j) (before (suc j) (omega arith)))
    (λ lt. rw (next k) (there (omega arith))) ∙ next k)

-- what is left of a text from a place on
pub record At (text : List ℕ) (from : ℕ) (rest : List ℕ) : Type 0 where
  pub there : drop from text ≡ rest
  pub size : length text ≡ from + length rest

pub at_start : (text : List ℕ) → At text 0 text
at_start text = record { there = refl; size = omega arith }

pub to_end : {text : List ℕ} {from : ℕ} {rest : List ℕ} → At text from rest → At text from (rest ++ [])
to_end at = rw append-nil at

-- a token and more
module _ {text : List ℕ} {from : ℕ} (token more : List ℕ) (at : At text from (token ++ more)) where
  pub size_is : length text ≡ from + (length token + length more)
  size_is = at.size ∙ ap (λ n. from + n) (length-append token more)

  pub after : At text (from + length token) more
  after = record {
    there = sym (drop-drop (length token) from text) ∙ (ap (drop (length token)) at.there ∙ drop-append_seam token more);
    size = omega (arith, size_is);
  }

  pub part_is : part text (record { start = from; end = from + length token }) ≡ token
  part_is =
      let size : from + length token - from ≡ length token = omega arith in
      rw (size, at.there) (take-append_seam token more)

  read : (k : ℕ) → get_or text (from + k) 0 ≡ get_or (token ++ more) k 0
  read k = sym (get_or-drop from text k 0) ∙ ap (λ rest. get_or rest k 0) at.there

  pub byte_is : (k : ℕ) → k < length token → get_or text (from + k) 0 ≡ get_or token k 0
  byte_is k lt = read k ∙ get_or_append_left token more 0 k lt

  byte_after : get_or text (from + length token) 0 ≡ get_or more 0 0
  byte_after =
      let none : length token + 0 ≡ length token = omega arith in
      read (length token) ∙ rw none at (get_or-append-add token more 0 0)

  -- the token is given back: none of its bytes passes, and the one after it does, wherever it stands
  ends_at : (stops test : ℕ → Bool) → ((k : ℕ) → stops (get_or text k 0) ≡ false → test k ≡ false) →
      (0 < length more → stops (get_or text (from + length token) 0) ≡ true → test (from + length token) ≡ true) →
      list_all (λ byte. not (stops byte)) token ≡ true → starts stops more ≡ true →
      least_place test text from ≡ from + length token
  ends_at stops test goes ends own next =
      let size : length text - from ≡ length token + length more = omega (arith, size_is) in
      rw size
      (least_is test from (length token + length more) (length token) (omega arith)
      (λ k lt. goes (from + k) (rw (byte_is k lt) (not_true _ (all_get (λ byte. not (stops byte)) token k lt own))))
      (λ lt. ends (omega arith) (rw byte_after (first_is stops more next (omega arith)))))

  pub scanned : (stops : ℕ → Bool) → list_all (λ byte. not (stops byte)) token ≡ true → starts stops more ≡ true →
      least_place (λ k. stops (get_or text k 0)) text from ≡ from + length token
  scanned stops own next = ends_at stops (λ k. stops (get_or text k 0)) (λ k e. e) (λ some e. e) own next

  -- where some places do not count, as those in quotes
  pub scanned_where : (stops counts : ℕ → Bool) → (0 < length more → counts (from + length token) ≡ true) →
      list_all (λ byte. not (stops byte)) token ≡ true → starts stops more ≡ true →
      least_place (λ k. stops (get_or text k 0) && counts k) text from ≡ from + length token
  scanned_where stops counts ends own next =
      ends_at stops (λ k. stops (get_or text k 0) && counts k) (λ k e. rw e refl) (λ some e. rw (e, ends some) refl) own
      next

-- where a text has no quote, no place is in quotes
abbrev pub unquoted : ℕ → Bool
unquoted byte = not (is_quote byte)

never_quoted : (text : List ℕ) (start n : ℕ) → list_all unquoted text ≡ true → start + n ≤ length text →
    in_quotes text start (start + n) ≡ false
never_quoted text start zero e le = let here : start + 0 ≡ start = omega arith in rw here (in_quotes_none text start)
never_quoted text start (suc n) e le =
    let next : start + suc n ≡ start + n + 1 = omega arith in
    let no = not_true (is_quote (get_or text (start + n) 0)) (all_get unquoted text (start + n) (omega arith) e) in
    rw next
    (in_quotes_more_no text start (start + n) (omega arith) (omega arith) no ∙ never_quoted text start n e (omega arith))

pub not_quoted : (text : List ℕ) (k : ℕ) → list_all unquoted text ≡ true → k ≤ length text → in_quotes text 0 k ≡ false
not_quoted text k e le = let there : 0 + k ≡ k = omega arith in rw there at (never_quoted text 0 k e (omega arith))
