-- The operands of a field, one after the other: a step, and the last one.
use Rattle.std.proofs.Common.{◌≡◌, ℕ, zero, suc, ◌+◌, ◌-◌, ◌<◌, ◌≤◌, Bool, true, false, cond, List, [], ◌∷◌, length, refl, arith}
use Rattle.std.specs.Prelude.{nat_lt, filter}
use Rattle.std.specs.List.{range_with_len}
use Rattle.std.proofs.lemmas.Bool.Decides.{nat_tests}
use Rattle.source_defs.specs.Least.{least, least_place}
use Rattle.source_defs.proofs.LeastLaws.{least_place-ge}
use Rattle.source_defs.specs.Operands.{parts_operands, comma_places, operands_from, OperandsLieInside}
use Rattle.std.proofs.lemmas.Bool.{ltb-true}

-- of the numbers from a place on those that pass: none, or the least and those after it
passing : (p : ℕ → Bool) (at n : ℕ)
    → filter p (range_with_len at n)
    ≡ cond (nat_lt (least p at n) (at + n)) (least p at n ∷ filter p (range_with_len (least p at n + 1) (at + n - (least p at n + 1)))) []
passing p at zero = let no : nat_lt at (at + 0) ≡ false = grind (arith, nat_tests) in rw no refl
passing p at (suc n) = by (p at) refl (passing p (at + 1) n)
  where
    by : (b : Bool) → p at ≡ b
        → filter p (range_with_len (at + 1) n)
        ≡ cond (nat_lt (least p (at + 1) n) (at + 1 + n)) (least p (at + 1) n ∷ filter p (range_with_len (least p (at + 1) n + 1) (at + 1 + n - (least p (at + 1) n + 1)))) []
        → cond b (at ∷ filter p (range_with_len (at + 1) n)) (filter p (range_with_len (at + 1) n))
        ≡ cond (nat_lt (cond b at (least p (at + 1) n)) (at + suc n)) (cond b at (least p (at + 1) n) ∷ filter p (range_with_len (cond b at (least p (at + 1) n) + 1) (at + suc n - (cond b at (least p (at + 1) n) + 1)))) []
    by true e ih =
        let inside : nat_lt at (at + suc n) ≡ true = grind (arith, nat_tests) in
        let left : at + suc n - (at + 1) ≡ n = omega arith in
        rw (inside, left) refl
    by false e ih = let end : at + suc n ≡ at + 1 + n = omega arith in rw end ih

-- the first comma outside quotes from a place on, or the field's end
abbrev pub comma_place : List ℕ → ℕ → ℕ
comma_place field from = least_place (parts_operands field) field from

commas_at : (field : List ℕ) (at : ℕ) → at ≤ length field
    → comma_places field at
    ≡ cond (nat_lt (comma_place field at) (length field)) (comma_place field at ∷ comma_places field (comma_place field at + 1)) []
commas_at field at le =
    let end : at + (length field - at) ≡ length field = omega arith in
    rw end at (passing (parts_operands field) at (length field - at))

step_by : (b : Bool) (field : List ℕ) (at comma : ℕ) → comma_places field at ≡ cond b (comma ∷ comma_places field (comma + 1)) []
    → operands_from field at ≡ record { start = at; end = cond b comma (length field) } ∷ cond b (operands_from field (comma + 1)) []
unfolding operands_from
step_by true field at comma e = rw e refl
step_by false field at comma e = rw e refl

-- the operand at a place goes up to the next comma or the field's end, and others follow after a comma alone
pub operands_from_step : (field : List ℕ) (at : ℕ) → at ≤ length field
    → operands_from field at
    ≡ record { start = at; end = cond (nat_lt (comma_place field at) (length field)) (comma_place field at) (length field) } ∷ cond (nat_lt (comma_place field at) (length field)) (operands_from field (comma_place field at + 1)) []
operands_from_step field at le = step_by _ field at (comma_place field at) (commas_at field at le)

inside_by : (b : Bool) (field : List ℕ) (at comma : ℕ) → nat_lt comma (length field) ≡ b → at ≤ comma → at ≤ length field
    → (comma < length field → OperandsLieInside field (operands_from field (comma + 1)))
    → OperandsLieInside field (record { start = at; end = cond b comma (length field) } ∷ cond b (operands_from field (comma + 1)) [])
inside_by true field at comma e ge le rest =
    let lt : comma < length field = ltb-true _ _ e in
    (record { in_order = ge; in_text = omega arith }, rest lt)
inside_by false field at comma e ge le rest = (record { in_order = le; in_text = omega arith }, tt)

inside_from : (n : ℕ) (field : List ℕ) (at : ℕ) → at ≤ length field → length field ≤ at + n → OperandsLieInside field (operands_from field at)
inside_from zero field at le h =
    rw (operands_from_step field at le) (inside_by _ field at (comma_place field at) refl (least_place-ge _ field at) le (λ lt. absurd (omega (arith, least_place-ge (parts_operands field) field at))))
inside_from (suc n) field at le h =
    rw (operands_from_step field at le) (inside_by _ field at (comma_place field at) refl (least_place-ge _ field at) le (λ lt. inside_from n field (comma_place field at + 1) (omega arith) (omega (arith, least_place-ge (parts_operands field) field at))))

-- the operands of a field lie inside it
pub operands_lie_inside : (field : List ℕ) → OperandsLieInside field (operands_from field 0)
operands_lie_inside field = inside_from (length field) field 0 (omega arith) (omega arith)
