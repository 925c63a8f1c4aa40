-- The keys of names are ordered as the names.
use Rattle.std.proofs.Common.{◌≡◌, ℕ, zero, suc, ◌+◌, ◌-◌, ◌*◌, ◌<◌, ◌≤◌, true, List, [], ◌∷◌, ◌++◌, length, get_or, take, drop, set, replicate, refl, sym, ap}
use Rattle.std.proofs.Common.{subst, ◌∙◌, arith, tests}
use Rattle.std.specs.Prelude.{nat_eq, nat_lt, nat_le, ◌&&◌}
use Rattle.std.specs.Int.{w64, from_be_bytes}
use Rattle.std.specs.Ordering.{nat_cmp, is_eq, ordering_then, MatchOrdering}
use Rattle.std.specs.declared.cmp.Ordering.{Ordering}
use Rattle.std.specs.declared.cmp.Ordering.TheVariants.{Less, Equal, Greater}
use Rattle.std.specs.Cmp.{ranks, nat_cmp_is, first_so, second_so, unsigned_ties}
use Rattle.std.specs.Cmp.Lexicographic.{slice_cmp, pointwise, texts_ties}
use Rattle.source_defs.specs.Names.{is_printed, all_printed, is_kept_name}
use Rattle.std.proofs.lemmas.List.{drop-set-lt, drop-replicate, drop-drop, get_or-set_same, length-set, length-take-le, take-set-le}
use Rattle.asm_text.specs.Padding.{key_after, name_key, kept_bytes, IsPadded}

-- the zeros that fill a name up count as its end
padded_after : (key places count : ℕ) (others : List ℕ) → places ≤ count → key_after key places (replicate count 0 ++ others) ≡ key_after key places []
unfolding key_after
padded_after key zero count others le = refl
padded_after key (suc places) zero others le = absurd (omega (arith, le))
padded_after key (suc places) (suc count) others le =
    let same : 256 * key + 0 ≡ 256 * key = omega arith in
    ap (λ n. key_after n places (replicate count 0 ++ others)) same ∙ padded_after (256 * key) places count others (omega (arith, le))

name_after : (key places count : ℕ) (name others : List ℕ) → places ≤ length name + count
    → key_after key places (name ++ (replicate count 0 ++ others)) ≡ key_after key places name
unfolding key_after
name_after key places count [] others le = padded_after key places count others (omega (arith, le))
name_after key zero count (byte ∷ name) others le = refl
name_after key (suc places) count (byte ∷ name) others le = name_after (256 * key + byte) places count name others (omega (arith, le))

-- the last of the zeros after a name is written over
last_written : (name : List ℕ) (count at n : ℕ) → at ≡ length name + count
    → set (name ++ replicate (suc count) 0) at n ≡ name ++ (replicate count 0 ++ (n ∷ []))
last_written [] zero zero n is = refl
last_written [] zero (suc at) n is = absurd (omega (arith, is))
last_written [] (suc count) zero n is = absurd (omega (arith, is))
last_written [] (suc count) (suc at) n is = ap (λ others. 0 ∷ others) (last_written [] count at n (omega (arith, is)))
last_written (byte ∷ name) count zero n is = absurd (omega (arith, is))
last_written (byte ∷ name) count (suc at) n is = ap (λ others. byte ∷ others) (last_written name count at n (omega (arith, is)))

-- a name with zeros after it, the last of which its length is written over, lies as it is kept
length_lies : (bytes : List ℕ) (len : ℕ) → is_kept_name (take len bytes) ≡ true → len ≤ 6 → length bytes ≡ 8
    → bytes ≡ take len bytes ++ replicate (8 - len) 0 → IsPadded (set bytes 7 len) len
length_lies bytes len kept within eight after =
    let name = take len bytes in
    let short : length name ≡ len = length-take-le len bytes (omega arith) in
    let front : take len (set bytes 7 len) ≡ name = take-set-le len bytes 7 len (omega arith) in
    let zeros : 8 - len ≡ suc (7 - len) = omega arith in
    let at_end : 7 ≡ length name + (7 - len) = omega (arith, short) in
    record {
      eight = length-set bytes 7 len ∙ eight;
      within = within;
      lies = ap (λ b. set b 7 len) after
          ∙ (ap (λ n. set (name ++ replicate n 0) 7 len) zeros
          ∙ (last_written name (7 - len) 7 len at_end
          ∙ (ap (λ n. name ++ (replicate (7 - n) 0 ++ (n ∷ []))) (sym short) ∙ ap kept_bytes (sym front))));
      kept = ap is_kept_name front ∙ kept;
    }

-- the same with the length as the last byte has it
pub name_lies : (bytes : List ℕ) (len : ℕ) → is_kept_name (take len bytes) ≡ true → len ≤ 6 → length bytes ≡ 8
    → bytes ≡ take len bytes ++ replicate (8 - len) 0 → IsPadded (set bytes 7 len) (get_or (set bytes 7 len) 7 0)
name_lies bytes len kept within eight after =
    let last : get_or (set bytes 7 len) 7 0 ≡ len = get_or-set_same bytes 7 len 0 (omega arith) in
    subst (IsPadded (set bytes 7 len)) (sym last) (length_lies bytes len kept within eight after)

-- a letter is written, and zeros stay after it
pub zeros_stay : (letters : List ℕ) (size at letter : ℕ) → drop at letters ≡ replicate (size - at) 0
    → drop (at + 1) (set letters at letter) ≡ replicate (size - (at + 1)) 0
zeros_stay letters size at letter after =
    let next : at < at + 1 = omega arith in
    let less : size - at - 1 ≡ size - (at + 1) = omega arith in
    let rest : drop 1 (drop at letters) ≡ replicate (size - (at + 1)) 0 =
    ap (drop 1) after ∙ (drop-replicate 1 (size - at) 0 ∙ ap (λ n. replicate n 0) less) in
    let kept : drop (at + 1) (set letters at letter) ≡ drop (at + 1) letters = drop-set-lt (at + 1) letters at letter next in
    let same : drop (at + 1) letters ≡ drop 1 (drop at letters) = sym (drop-drop 1 at letters) in
    kept ∙ (same ∙ rest)

-- the first seven of eight bytes as a number
key_of_seven : (a b c d e f g h : ℕ) → key_after 0 7 (a ∷ b ∷ c ∷ d ∷ e ∷ f ∷ g ∷ h ∷ [])
    ≡ 256 * (256 * (256 * (256 * (256 * (256 * a + b) + c) + d) + e) + f) + g
unfolding key_after
key_of_seven a b c d e f g h =
    let first : 256 * 0 + a ≡ a = omega arith in
    ap (λ key. key_after key 6 (b ∷ c ∷ d ∷ e ∷ f ∷ g ∷ h ∷ [])) first

key_of_eight : (bytes : List ℕ) → length bytes ≡ 8 → from_be_bytes w64 bytes ≡ 256 * key_after 0 7 bytes + get_or bytes 7 0
key_of_eight (a ∷ b ∷ c ∷ d ∷ e ∷ f ∷ g ∷ h ∷ []) eight = omega (arith, key_of_seven a b c d e f g h)
key_of_eight [] eight = absurd (omega (arith, eight))
key_of_eight (a ∷ []) eight = absurd (omega (arith, eight))
key_of_eight (a ∷ b ∷ []) eight = absurd (omega (arith, eight))
key_of_eight (a ∷ b ∷ c ∷ []) eight = absurd (omega (arith, eight))
key_of_eight (a ∷ b ∷ c ∷ d ∷ []) eight = absurd (omega (arith, eight))
key_of_eight (a ∷ b ∷ c ∷ d ∷ e ∷ []) eight = absurd (omega (arith, eight))
key_of_eight (a ∷ b ∷ c ∷ d ∷ e ∷ f ∷ []) eight = absurd (omega (arith, eight))
key_of_eight (a ∷ b ∷ c ∷ d ∷ e ∷ f ∷ g ∷ []) eight = absurd (omega (arith, eight))
key_of_eight (a ∷ b ∷ c ∷ d ∷ e ∷ f ∷ g ∷ h ∷ i ∷ more) eight = absurd (omega (arith, eight))

-- the bytes that are kept are the name's key
pub key_lies : (bytes : List ℕ) → IsPadded bytes (get_or bytes 7 0) → from_be_bytes w64 bytes ≡ name_key (take (get_or bytes 7 0) bytes)
unfolding name_key
key_lies bytes is =
    let len = get_or bytes 7 0 in
    let name = take len bytes in
    let short : length name ≡ len = length-take-le len bytes (omega (arith, is.within, is.eight)) in
    let own : key_after 0 7 bytes ≡ key_after 0 7 name =
    ap (key_after 0 7) is.lies ∙ name_after 0 7 (7 - length name) name (length name ∷ []) (omega (arith, short, is.within)) in
    key_of_eight bytes is.eight ∙ (ap (λ key. 256 * key + len) own ∙ ap (λ n. 256 * key_after 0 7 name + n) (sym short))

-- each byte of a name is a digit above 0
digit : (byte : ℕ) (name : List ℕ) → all_printed (byte ∷ name) ≡ true → (0 < byte) × (byte < 256)
digit byte name printed =
    let here : is_printed byte ≡ true = first_so (is_printed byte) (all_printed name) printed in
    grind (arith, tests)

others : (byte : ℕ) (name : List ℕ) → all_printed (byte ∷ name) ≡ true → all_printed name ≡ true
others byte name printed = second_so (is_printed byte) (all_printed name) printed

-- a higher number stays higher
higher : (places key more : ℕ) (xs ys : List ℕ) → all_printed xs ≡ true → all_printed ys ≡ true → key < more
    → key_after key places xs < key_after more places ys
unfolding key_after
higher zero key more xs ys p q lt = lt
higher (suc places) key more [] [] p q lt = higher places (256 * key) (256 * more) [] [] p q (omega arith)
higher (suc places) key more [] (y ∷ ys) p q lt = higher places (256 * key) (256 * more + y) [] ys p (others y ys q) (omega arith)
higher (suc places) key more (x ∷ xs) [] p q lt =
    let at = digit x xs p in higher places (256 * key + x) (256 * more) xs [] (others x xs p) q (omega arith)
higher (suc places) key more (x ∷ xs) (y ∷ ys) p q lt =
    let at = digit x xs p in higher places (256 * key + x) (256 * more + y) xs ys (others x xs p) (others y ys q) (omega arith)

-- names compare as the keys with them after one number
compared : (places key : ℕ) (xs ys : List ℕ) → length xs ≤ places → length ys ≤ places → all_printed xs ≡ true → all_printed ys ≡ true
    → MatchOrdering (slice_cmp nat_cmp xs ys) (key_after key places xs < key_after key places ys) (key_after key places xs ≡ key_after key places ys)
    (key_after key places ys < key_after key places xs)
unfolding key_after
compared places key [] [] m n p q = refl
compared zero key [] (y ∷ ys) m n p q = absurd (omega (arith, n))
compared zero key (x ∷ xs) ys m n p q = absurd (omega (arith, m))
compared (suc places) key [] (y ∷ ys) m n p q =
    let at = digit y ys q in higher places (256 * key) (256 * key + y) [] ys p (others y ys q) (omega arith)
compared (suc places) key (x ∷ xs) [] m n p q =
    let at = digit x xs p in higher places (256 * key) (256 * key + x) [] xs q (others x xs p) (omega arith)
compared (suc places) key (x ∷ xs) (y ∷ ys) m n p q =
    by (nat_cmp x y) (ranks x y)
    (compared places (256 * key + x) xs ys (omega (arith, m)) (omega (arith, n)) (others x xs p) (others y ys q))
  where
    After : ℕ → Type 0
    After low =
        MatchOrdering (slice_cmp nat_cmp xs ys) (key_after (256 * key + x) places xs < key_after (256 * key + low) places ys)
        (key_after (256 * key + x) places xs ≡ key_after (256 * key + low) places ys)
        (key_after (256 * key + low) places ys < key_after (256 * key + x) places xs)

    by : (r : Ordering) → MatchOrdering r (x < y) (x ≡ y) (y < x) → After x
        → MatchOrdering (ordering_then r (slice_cmp nat_cmp xs ys)) (key_after (256 * key + x) places xs < key_after (256 * key + y) places ys)
        (key_after (256 * key + x) places xs ≡ key_after (256 * key + y) places ys)
        (key_after (256 * key + y) places ys < key_after (256 * key + x) places xs)
    by Less lt same = higher places (256 * key + x) (256 * key + y) xs ys (others x xs p) (others y ys q) (omega (arith, lt, digit x xs p))
    by Equal is same = subst After is same
    by Greater gt same = higher places (256 * key + y) (256 * key + x) ys xs (others y ys q) (others x xs p) (omega (arith, gt, digit y ys q))

printed : (name : List ℕ) → is_kept_name name ≡ true → (length name ≤ 6) × (all_printed name ≡ true)
printed name kept =
    let front = first_so (nat_lt 0 (length name) && nat_le (length name) 6) (all_printed name) kept in
    let short = second_so (nat_lt 0 (length name)) (nat_le (length name) 6) front in
    (grind (arith, tests), second_so (nat_lt 0 (length name) && nat_le (length name) 6) (all_printed name) kept)

-- names that compare as equal have one length
same_length : (xs ys : List ℕ) → slice_cmp nat_cmp xs ys ≡ Equal → length xs ≡ length ys
same_length [] [] e = refl
same_length [] (y ∷ ys) e = cc e
same_length (x ∷ xs) [] e = cc e
same_length (x ∷ xs) (y ∷ ys) e = by (nat_cmp x y) e (same_length xs ys)
  where
    by : (r : Ordering) → ordering_then r (slice_cmp nat_cmp xs ys) ≡ Equal → (slice_cmp nat_cmp xs ys ≡ Equal → length xs ≡ length ys)
        → suc (length xs) ≡ suc (length ys)
    by Less e rest = cc e
    by Equal e rest = ap suc (rest e)
    by Greater e rest = cc e

-- the comparison of two names is that of their keys
pub keys_compare : (xs ys : List ℕ) → is_kept_name xs ≡ true → is_kept_name ys ≡ true → slice_cmp nat_cmp xs ys ≡ nat_cmp (name_key xs) (name_key ys)
unfolding name_key
keys_compare xs ys p q =
    let first = printed xs p in
    let second = printed ys q in
    nat_cmp_is (name_key xs) (name_key ys) (slice_cmp nat_cmp xs ys)
    (by (slice_cmp nat_cmp xs ys) refl first.0 second.0 (compared 7 0 xs ys (omega (arith, first.0)) (omega (arith, second.0)) first.1 second.1))
  where
    by : (r : Ordering) → slice_cmp nat_cmp xs ys ≡ r → length xs ≤ 6 → length ys ≤ 6
        → MatchOrdering r (key_after 0 7 xs < key_after 0 7 ys) (key_after 0 7 xs ≡ key_after 0 7 ys) (key_after 0 7 ys < key_after 0 7 xs)
        → MatchOrdering r (256 * key_after 0 7 xs + length xs < 256 * key_after 0 7 ys + length ys)
        (256 * key_after 0 7 xs + length xs ≡ 256 * key_after 0 7 ys + length ys)
        (256 * key_after 0 7 ys + length ys < 256 * key_after 0 7 xs + length xs)
    by Less e m n lt = omega (arith, lt, m, n)
    by Equal e m n same = omega (arith, same, same_length xs ys e)
    by Greater e m n gt = omega (arith, gt, m, n)

-- two names are the same where their keys are
pub keys_are_distinct : (xs ys : List ℕ) → is_kept_name xs ≡ true → is_kept_name ys ≡ true → nat_eq (name_key xs) (name_key ys) ≡ pointwise nat_eq xs ys
keys_are_distinct xs ys p q =
    unsigned_ties (name_key xs) (name_key ys) ∙ (ap is_eq (sym (keys_compare xs ys p q)) ∙ sym (texts_ties xs ys))
