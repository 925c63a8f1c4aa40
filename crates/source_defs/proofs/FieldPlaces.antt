-- The fields of a line lie inside it.
use Rattle.std.proofs.Common.{◌≡◌, ℕ, ◌≤◌, Bool, true, false, cond, List, length, get_or, map, subst, arith}
use Rattle.std.specs.Prelude.{nat_lt, Option, Some, None, Result, Ok, Err, IfSome}
use Rattle.source_defs.specs.declared.causes.TextError.{TextError}
use Rattle.source_defs.specs.declared.causes.TextError.TheVariants.{LineTooLong, BadLabel}
use Rattle.source_defs.specs.Lines.{IsInside}
use Rattle.source_defs.specs.Characters.{is_blank, upper_case}
use Rattle.source_defs.specs.Names.{is_name}
use Rattle.source_defs.specs.Fields.{Fields, fields, longest_line, is_comment, label_field, fields_after, no_fields, word_start, word_end}
use Rattle.source_defs.proofs.LeastLaws.{least_place-ge, least_place-le}

-- the operation, where there is one, and the operand field lie inside a line
pub record LieInside (line : List ℕ) (found : Fields) : Type 0 where
  pub operation : IfSome found.operation (IsInside line)
  pub operands : IsInside line found.operands

operation_inside : (b : Bool) (line : List ℕ) (start end : ℕ) → start ≤ end → end ≤ length line
    → IfSome (cond b (Some (record { start = start; end = end })) None) (IsInside line)
operation_inside true line start end order within = record { in_order = order; in_text = within }
operation_inside false line start end order within = tt

after_inside : (line : List ℕ) (label : Option (List ℕ)) (from : ℕ) → from ≤ length line → LieInside line (fields_after line label from)
after_inside line label from le =
    let start = least_place-le _ line from le in
    let end = least_place-le _ line (word_start line from) start in
    let operands = least_place-le _ line (word_end line (word_start line from)) end in
    record {
      operation = operation_inside (nat_lt (word_start line from) (length line)) line (word_start line from) (word_end line (word_start line from)) (least_place-ge _ line (word_start line from)) end;
      operands = record { in_order = least_place-ge _ line (word_start line (word_end line (word_start line from))); in_text = least_place-le _ line (word_start line (word_end line (word_start line from))) operands };
    }

abbrev given : Fields → Result Fields TextError
given found = Ok found

same_fields : (a b : Fields) → given a ≡ given b → a ≡ b
same_fields a b e = cc

none_inside : (line : List ℕ) → LieInside line no_fields
none_inside line = record { operation = tt; operands = record { in_order = omega arith; in_text = omega arith } }

inside_by : (long comment blank name : Bool) (line : List ℕ) (found : Fields) (label : Option (List ℕ))
    → cond long (Err LineTooLong)
    (cond comment (Ok no_fields)
    (cond blank (Ok (fields_after line None 0)) (cond name (Ok (fields_after line label (word_end line 0))) (Err BadLabel))))
    ≡ Ok found
    → LieInside line found
inside_by true comment blank name line found label is = cc
inside_by false true blank name line found label is = subst (LieInside line) (same_fields _ _ is) (none_inside line)
inside_by false false true name line found label is =
    subst (LieInside line) (same_fields _ _ is) (after_inside line None 0 (omega arith))
inside_by false false false true line found label is =
    subst (LieInside line) (same_fields _ _ is) (after_inside line label (word_end line 0) (least_place-le _ line 0 (omega arith)))
inside_by false false false false line found label is = cc

pub fields_lie_inside : (line : List ℕ) (found : Fields) → fields line ≡ Ok found → LieInside line found
unfolding fields
fields_lie_inside line found is =
    inside_by (nat_lt longest_line (length line)) (is_comment line) (is_blank (get_or line 0 0)) (is_name (label_field line)) line found (Some (map upper_case (label_field line))) is
