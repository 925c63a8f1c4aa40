-- The places of two lists, seen a chunk at a time through the mask of those that differ, or one by one.
use Rattle.std.proofs.Common.{◌≡◌, ◌≢◌, ℕ, zero, suc, ◌+◌, ◌-◌, ◌*◌, ◌%◌, ◌^◌, ◌<◌, ◌≤◌, Bool, true, false, not, cond, eqb, nat_eq, ◌&&◌, List, [], ◌∷◌, map}
use Rattle.std.proofs.Common.{length, drop, take, min, get_or, w8, refl, sym, ap, ap₂, ◌∙◌, arith}
use Rattle.std.proofs.lemmas.Simd.{chunk-drop, length-chunk, leading_from_mask_l, trailing_mask_l, tops_compared, mask_l-mod, ones-mask_l}
use Rattle.std.proofs.lemmas.Slice.Zip.{get_or-zip, length-zip}
use Rattle.std.proofs.lemmas.List.{length-map}
use Rattle.std.proofs.lemmas.List.Folds.{prefix_len-append}
use Rattle.std.proofs.lemmas.List.Sums.{prefix_len-le-length, prefix_len-drop_yes, prefix_len-drop_no, prefix_len-drop_all, sum_by-append, sum_by-drop_more}
use Rattle.std.proofs.lemmas.Bool.{eq-eqb, ne_eqb}
use Rattle.std.proofs.lemmas.Bool.Decides.{nat_tests}
use Rattle.std.specs.Str.{bytes_eq}
use native.Mathlib.Numerals.{unary_clauses}
use Rattle.std.specs.Int.RustNames.{count_ones}
use Rattle.std.specs.List.{zip, prefix_len, count_by}
use lib.Lanes.{chunk, mask_l, zip2, top}
use lib.Count.{count_trailing_zeros}
use Rattle.base_defs.specs.Lists.{is_same, is_different}

zip-none : (a : List ℕ) → zip {X = ℕ} a [] ≡ []
zip-none [] = refl
zip-none (x ∷ a) = refl

take-zip : (n : ℕ) (a b : List ℕ) → take n (zip a b) ≡ zip (take n a) (take n b)
take-zip (suc n) (x ∷ a) (y ∷ b) = ap (λ r. (x, y) ∷ r) (take-zip n a b)
take-zip _ _ _ = refl

drop-zip : (n : ℕ) (a b : List ℕ) → drop n (zip a b) ≡ zip (drop n a) (drop n b)
drop-zip (suc n) (x ∷ a) [] = sym (zip-none (drop n a))
drop-zip (suc n) (x ∷ a) (y ∷ b) = drop-zip n a b
drop-zip _ _ b = refl

chunk-zip : (at n : ℕ) (a b : List ℕ) → chunk at n (zip a b) ≡ zip (chunk at n a) (chunk at n b)
chunk-zip at n a b = ap (take n) (drop-zip at a b) ∙ take-zip n (drop at a) (drop at b)

zipped : (a b : List ℕ) → zip2 (λ x y. not (eqb x y)) a b ≡ map is_different (zip a b)
zipped (x ∷ a) (y ∷ b) = ap (λ r. not (eqb x y) ∷ r) (zipped a b)
zipped _ _ = refl

-- the mask of the lanes that differ
pub lanes : (u v : List ℕ) → length u ≤ 64
    → mask_l (map (top 7) (zip2 (λ x y. cond (not (eqb x y)) 255 0) u v)) % 2 ^ 64 ≡ mask_l (map is_different (zip u v))
lanes u v few =
    ap (λ m. mask_l m % 2 ^ 64) (tops_compared w8 (λ x y. not (eqb x y)) u v ∙ zipped u v)
    ∙ mask_l-mod (map is_different (zip u v)) 64 (omega (arith, length-map (zip u v) is_different, length-zip u v))

zipped_same : (u v : List ℕ) → zip2 eqb u v ≡ map is_same (zip u v)
zipped_same (x ∷ u) (y ∷ v) = ap (λ r. eqb x y ∷ r) (zipped_same u v)
zipped_same _ _ = refl

doubled : (n : ℕ) → 2 * 2 ^ n ≡ 2 ^ suc n
doubled n = simp unary_clauses (omega arith)

other_bits : (z : List (ℕ × ℕ)) → mask_l (map is_different z) + mask_l (map is_same z) + 1 ≡ 2 ^ length z
other_bits [] = refl
other_bits (x ∷ z) = by (is_same x) _ _ _ (other_bits z) ∙ doubled (length z)
  where
    by : (same : Bool) (other own power : ℕ) → other + own + 1 ≡ power → cond (not same) 1 0 + 2 * other + (cond same 1 0 + 2 * own) + 1 ≡ 2 * power
    by true other own power e = omega arith
    by false other own power e = omega arith

-- the lanes that differ are those that are not the same
pub differing : (a b : List ℕ) (at : ℕ) → at + 64 ≤ length a → at + 64 ≤ length b
    → 2 ^ 64 - 1 - mask_l (map (top 7) (zip2 (λ x y. cond (eqb x y) 255 0) (chunk at 64 a) (chunk at 64 b))) % 2 ^ 64 ≡ mask_l (map is_different (chunk at 64 (zip a b)))
differing a b at in_a in_b =
    let u = chunk at 64 a in
    let v = chunk at 64 b in
    let long : length (zip u v) ≡ 64 = omega (arith, length-zip u v, length-chunk at 64 a in_a, length-chunk at 64 b in_b) in
    let same = ap (λ m. mask_l m % 2 ^ 64) (tops_compared w8 eqb u v ∙ zipped_same u v) ∙ mask_l-mod (map is_same (zip u v)) 64 (omega (arith, length-map (zip u v) is_same)) in
    let other = other_bits (zip u v) ∙ ap (λ n. 2 ^ n) long in
    omega (arith, same, other) ∙ ap (λ z. mask_l (map is_different z)) (sym (chunk-zip at 64 a b))

no_bit : (same : Bool) (m : ℕ) → nat_eq (cond (not same) 1 0 + 2 * m) 0 ≡ (same && nat_eq m 0)
no_bit true m = grind (arith, nat_tests)
no_bit false m = grind (arith, nat_tests)

-- no bit is set just where the lists are equal
pub none_set : (u v : List ℕ) → length u ≡ length v → nat_eq (mask_l (map is_different (zip u v))) 0 ≡ bytes_eq u v
none_set [] [] e = refl
none_set (x ∷ u) (y ∷ v) e =
    no_bit (nat_eq x y) (mask_l (map is_different (zip u v))) ∙ ap (λ r. nat_eq x y && r) (none_set u v (omega arith))
none_set _ _ e = let no : ⊥ = omega arith in absurd no

same_run : (z : List (ℕ × ℕ)) → prefix_len is_same z ≡ prefix_len (λ place. not (is_different place)) z
same_run [] = refl
same_run (x ∷ z) = ap₂ (λ b n. cond b (1 + n) 0) (not-not (is_same x)) (same_run z)
  where
    not-not : (b : Bool) → b ≡ not (not b)
    not-not true = refl
    not-not false = refl

none_differs : (b : Bool) (n l m : ℕ) → n ≤ l → cond (not b) (1 + n) 0 ≡ 1 + l → (n ≡ l → m ≡ 0) → cond b 1 0 + 2 * m ≡ 0
none_differs true n l m le e rest = let no : ⊥ = omega arith in absurd no
none_differs false n l m le e rest = let z = rest (omega arith) in omega arith

all_same : (z : List (ℕ × ℕ)) → prefix_len (λ place. not (is_different place)) z ≡ length z → mask_l (map is_different z) ≡ 0
all_same [] e = refl
all_same (x ∷ z) e = none_differs (is_different x) _ (length z) _ (prefix_len-le-length (λ place. not (is_different place)) z) (omega arith) (all_same z)

split : (z : List (ℕ × ℕ)) (i n : ℕ) → prefix_len is_same (drop i z) ≡ cond (eqb (prefix_len is_same (chunk i n z)) (length (chunk i n z))) (length (chunk i n z) + prefix_len is_same (drop (i + n) z)) (prefix_len is_same (chunk i n z))
split z i n = ap (prefix_len is_same) (chunk-drop i n z) ∙ prefix_len-append is_same (chunk i n z) (drop (i + n) z)

-- where no lane differs, the search goes on after the chunk
pub through : (z : List (ℕ × ℕ)) (i n : ℕ) → i + n ≤ length z → mask_l (map is_different (chunk i n z)) ≡ 0 → prefix_len is_same (drop i z) ≡ n + prefix_len is_same (drop (i + n) z)
through z i n room none =
    let c = chunk i n z in
    split z i n ∙ ap (λ b. cond b (length c + prefix_len is_same (drop (i + n) z)) (prefix_len is_same c)) (eq-eqb _ _ (same_run c ∙ leading_from_mask_l is_different c none))
    ∙ ap (λ k. k + prefix_len is_same (drop (i + n) z)) (length-chunk i n z room)

-- where one does, the lowest bit is its place
pub within : (z : List (ℕ × ℕ)) (i n : ℕ) → i + n ≤ length z → n ≤ 64 → 0 < mask_l (map is_different (chunk i n z)) → prefix_len is_same (drop i z) ≡ count_trailing_zeros 64 (mask_l (map is_different (chunk i n z)))
within z i n room few some =
    let c = chunk i n z in
    split z i n ∙ ap (λ b. cond b (length c + prefix_len is_same (drop (i + n) z)) (prefix_len is_same c)) (ne_eqb _ _ (λ (e : prefix_len is_same c ≡ length c). omega (arith, all_same c (sym (same_run c) ∙ e))))
    ∙ same_run c ∙ sym (trailing_mask_l is_different 64 c (omega (arith, length-chunk i n z room)) some)

-- the count of a chunk, and of what is after it
pub counted : (z : List (ℕ × ℕ)) (i n : ℕ) → count_by is_different (drop i z) ≡ count_ones (mask_l (map is_different (chunk i n z))) + count_by is_different (drop (i + n) z)
counted z i n =
    let c = chunk i n z in
    ap (count_by is_different) (chunk-drop i n z) ∙ sum_by-append (λ place. cond (is_different place) 1 0) c (drop (i + n) z)
    ∙ ap (λ k. k + count_by is_different (drop (i + n) z)) (sym (ones-mask_l is_different c))

module _ (a b : List ℕ) (at : ℕ) (in_a : at < length a) (in_b : at < length b) where
  inside : at < length (zip a b)
  inside = omega (arith, length-zip a b)

  place : get_or (zip a b) at (0, 0) ≡ (get_or a at 0, get_or b at 0)
  place = get_or-zip a b at (0, 0) in_a in_b

  pub same_here : get_or a at 0 ≡ get_or b at 0 → prefix_len is_same (drop at (zip a b)) ≡ 1 + prefix_len is_same (drop (at + 1) (zip a b))
  same_here same = prefix_len-drop_yes is_same (zip a b) at (0, 0) inside (ap is_same place ∙ eq-eqb _ _ same)

  pub differs_here : get_or a at 0 ≢ get_or b at 0 → prefix_len is_same (drop at (zip a b)) ≡ 0
  differs_here other = prefix_len-drop_no is_same (zip a b) at (0, 0) inside (ap is_same place ∙ ne_eqb _ _ other)

  count_here : (same : Bool) → nat_eq (get_or a at 0) (get_or b at 0) ≡ same → count_by is_different (drop at (zip a b)) ≡ cond (not same) 1 0 + count_by is_different (drop (at + 1) (zip a b))
  count_here same e =
      sum_by-drop_more (λ p. cond (is_different p) 1 0) (zip a b) at (0, 0) inside
      ∙ ap (λ s. cond (not s) 1 0 + count_by is_different (drop (at + 1) (zip a b))) (ap is_same place ∙ e)

  pub not_counted : get_or a at 0 ≡ get_or b at 0 → count_by is_different (drop at (zip a b)) ≡ count_by is_different (drop (at + 1) (zip a b))
  not_counted same = let here = count_here true (eq-eqb _ _ same) in omega (arith, here)

  pub counted_here : get_or a at 0 ≢ get_or b at 0 → count_by is_different (drop at (zip a b)) ≡ 1 + count_by is_different (drop (at + 1) (zip a b))
  counted_here other = count_here false (ne_eqb _ _ other)

-- after the shorter list there is no place
pub no_place : (a b : List ℕ) (at : ℕ) → min (length a) (length b) ≤ at → prefix_len is_same (drop at (zip a b)) ≡ 0
no_place a b at le = prefix_len-drop_all is_same (zip a b) at (omega (arith, length-zip a b))

pub no_count : (a b : List ℕ) (at : ℕ) → min (length a) (length b) ≤ at → count_by is_different (drop at (zip a b)) ≡ 0
no_count a b at le = ap (count_by is_different) (drop_none (zip a b) at (omega (arith, length-zip a b)))
  where
    drop_none : (z : List (ℕ × ℕ)) (n : ℕ) → length z ≤ n → drop n z ≡ []
    drop_none [] zero le = refl
    drop_none [] (suc n) le = refl
    drop_none (x ∷ z) zero le = let no : ⊥ = omega arith in absurd no
    drop_none (x ∷ z) (suc n) le = drop_none z n (omega arith)
