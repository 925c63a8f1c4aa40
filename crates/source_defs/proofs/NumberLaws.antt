-- Numbers, digit by digit and one after the other.
use Rattle.std.proofs.Common.{◌≡◌, ℕ, ◌+◌, ◌*◌, ◌≤◌, ◌<◌, Bool, true, false, List, [], ◌∷◌, length, drop, get_or, refl, arith}
use Rattle.std.specs.Prelude.{None, nat_lt, nat_le, ◌&&◌}
use Rattle.std.proofs.lemmas.List.{drop_more}
use Rattle.std.proofs.lemmas.Bool.Decides.{nat_tests}
use Rattle.source_defs.specs.Numbers.{digit_value, value_after, all_digits, decimal_up_to}

-- more digits make no less
pub value_after-ge : (value : ℕ) (digits : List ℕ) → value ≤ value_after 10 value digits
value_after-ge value [] = omega arith
value_after-ge value (d ∷ ds) = omega (arith, value_after-ge (value * 10 + digit_value d) ds)

and_false : (b : Bool) → (b && false) ≡ false
and_false true = refl
and_false false = refl

-- digits whose front is above a limit are no number up to it
pub decimal_above : (limit : ℕ) (digits : List ℕ) (place value : ℕ) → value_after 10 value (drop place digits) ≡ value_after 10 0 digits → place < length digits → limit < value * 10 + digit_value (get_or digits place 0) → decimal_up_to limit digits ≡ None
decimal_above limit digits place value so_far lt above =
    let more : value_after 10 (value * 10 + digit_value (get_or digits place 0)) (drop (place + 1) digits) ≡ value_after 10 0 digits = rw (drop_more digits place 0 lt) at so_far in
    let large : limit < value_after 10 0 digits = omega (arith, value_after-ge (value * 10 + digit_value (get_or digits place 0)) (drop (place + 1) digits), more) in
    let no : nat_le (value_after 10 0 digits) limit ≡ false = grind (arith, nat_tests) in
    rw (no, and_false (nat_lt 0 (length digits) && all_digits digits)) refl
