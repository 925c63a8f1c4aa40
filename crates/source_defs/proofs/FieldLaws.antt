-- Why a line has no fields, and what its label field gives.
use Rattle.std.proofs.Common.{◌≡◌, ℕ, ◌<◌, ◌≤◌, Bool, true, false, cond, not, eqb, ◌&&◌, ◌||◌, inl, inr, List, [], ◌∷◌, length, get_or, Some, None, Ok, Err}
use Rattle.std.proofs.Common.{refl, sym, subst, ◌∙◌, eq-eqb, arith}
use Rattle.std.specs.Prelude.{map, nat_lt, nat_le, Option, Result}
use Rattle.std.specs.List.{list_all}
use Rattle.std.proofs.lemmas.Bool.Decides.{nat_tests}
use Rattle.std.proofs.lemmas.Grind.{common_steps}
use Rattle.std.proofs.lemmas.Bool.{ltb-true}
use Rattle.source_defs.specs.declared.causes.TextError.{TextError}
use Rattle.source_defs.specs.declared.causes.TextError.TheVariants.{LineTooLong, BadLabel}
use Rattle.source_defs.specs.Characters.{is_blank, is_asterisk, is_letter, upper_case}
use Rattle.source_defs.specs.Fields.{HasBadLabel, Fields, no_fields, fields, fields_after, label_field, longest_line, is_comment, word_start, word_end}
use Rattle.source_defs.specs.Fields.{operand_end, ends_field, in_quotes}
use Rattle.source_defs.specs.FieldLaw.{IsWordStart, IsWordEnd, IsOperandEnd, IsComment, IsLabel, IsOperation, AreApart, AreFieldsOf, FieldsAreApart}
use Rattle.source_defs.proofs.LeastLaws.{least_place_step, least_place_end, least_places_are_least}
use Rattle.source_defs.specs.Names.{is_letter_or_digit, all_letters_or_digits, is_name, IsUpperCaseName, is_printed, is_kept_name}

upper_case_printed : (byte : ℕ) → is_letter_or_digit byte ≡ true → is_printed (upper_case byte) ≡ true
upper_case_printed byte h = grind (arith, nat_tests)

printed_each : (bytes : List ℕ) → all_letters_or_digits bytes ≡ true → list_all is_printed (map upper_case bytes) ≡ true
printed_each [] h = refl
printed_each (byte ∷ bytes) h = both (is_letter_or_digit byte) (list_all is_letter_or_digit bytes) h (upper_case_printed byte) (printed_each bytes)
  where
    both : (a b : Bool) → (a && b) ≡ true → (a ≡ true → is_printed (upper_case byte) ≡ true) → (b ≡ true → list_all is_printed (map upper_case bytes) ≡ true)
        → (is_printed (upper_case byte) && list_all is_printed (map upper_case bytes)) ≡ true
    both true true e f g = rw (f refl, g refl) refl
    both true false e f g = cc
    both false b e f g = cc

-- a label's name in upper case is a name that may be kept
pub upper_case_kept : (bytes : List ℕ) → is_name bytes ≡ true → is_kept_name (map upper_case bytes) ≡ true
upper_case_kept bytes h =
    let n : length (map upper_case bytes) ≡ length bytes = grind (arith, common_steps) in
    rw n (kept (nat_lt 0 (length bytes)) (nat_le (length bytes) 6) (is_letter (get_or bytes 0 0)) (all_letters_or_digits bytes) h (printed_each bytes))
  where
    kept : (a b c d : Bool) → (((a && b) && c) && d) ≡ true → (d ≡ true → list_all is_printed (map upper_case bytes) ≡ true) → ((a && b) && list_all is_printed (map upper_case bytes)) ≡ true
    kept true true true true e f = f refl
    kept true true true false e f = cc
    kept true true false d e f = cc
    kept true false c d e f = cc
    kept false b c d e f = cc

no_comment_by : (b : Bool) (line : List ℕ) → is_blank (get_or line 0 0) ≡ b → b ≡ false → 0 < length line → eqb (word_start line 0) (length line) ≡ false
no_comment_by b line e f lt =
    let here : is_blank (get_or line 0 0) ≡ false = e ∙ f in
    let start : word_start line 0 ≡ 0 = least_place_step (λ k. not (is_blank (get_or line k 0))) line 0 lt ∙ rw here refl in
    let differs : eqb 0 (length line) ≡ false = grind (arith, nat_tests) in
    rw start differs

-- a line with a bad label is no comment
pub no_comment : (line : List ℕ) → HasBadLabel line → is_comment line ≡ false
no_comment line bad = rw (no_comment_by _ line refl bad.no_blank bad.written, bad.no_asterisk) refl

not_false : (b : Bool) → not b ≡ false → b ≡ true
not_false true h = refl
not_false false h = cc

not_true : (b : Bool) → not b ≡ true → b ≡ false
not_true true h = cc
not_true false h = refl

quoted_blank : (b q : Bool) → (b && not q) ≡ false → b ≡ true → q ≡ true
quoted_blank true q h e = not_false q h
quoted_blank false q h e = cc

ends_blank : (b q : Bool) → (b && not q) ≡ true → b ≡ true
ends_blank true q h = refl
ends_blank false q h = cc

ends_outside : (b q : Bool) → (b && not q) ≡ true → q ≡ false
ends_outside true q h = not_true q h
ends_outside false q h = cc

abbrev given : Fields → Result Fields TextError
given found = Ok found

ok_same : (x y : Fields) → given x ≡ given y → x ≡ y
ok_same x y e = cc

pub starts_word : (line : List ℕ) (from : ℕ) → from ≤ length line → IsWordStart line from (word_start line from)
starts_word line from le =
    let start = least_places_are_least (λ k. not (is_blank (get_or line k 0))) line from le in
    record {
      after = start.not_before_start;
      within = start.not_after_end;
      blanks_before = λ k ge lt. not_false _ (start.none_before k ge lt);
      no_blank = λ lt. not_true _ (start.passes lt);
    }

pub ends_word : (line : List ℕ) (from : ℕ) → from ≤ length line → IsWordEnd line from (word_end line from)
ends_word line from le =
    let end = least_places_are_least (λ k. is_blank (get_or line k 0)) line from le in
    record {
      after = end.not_before_start;
      within = end.not_after_end;
      no_blank_before = end.none_before;
      blank = end.passes;
    }

pub ends_operands : (line : List ℕ) (from : ℕ) → from ≤ length line → IsOperandEnd line from (operand_end line from)
ends_operands line from le =
    let end = least_places_are_least (ends_field line from) line from le in
    let at = operand_end line from in
    record {
      after = end.not_before_start;
      within = end.not_after_end;
      blanks_in_quotes = λ k ge lt.
          quoted_blank (is_blank (get_or line k 0)) (in_quotes line from k) (end.none_before k ge lt);
      blank = λ lt. ends_blank (is_blank (get_or line at 0)) (in_quotes line from at) (end.passes lt);
      outside_quotes = λ lt. ends_outside (is_blank (get_or line at 0)) (in_quotes line from at) (end.passes lt);
    }

-- the operation of a line, from the end of the label on
operation_by : (b : Bool) (line : List ℕ) (from : ℕ) → nat_lt (word_start line from) (length line) ≡ b
    → from ≤ length line
    → IsOperation line from
    (cond b (Some (record { start = word_start line from; end = word_end line (word_start line from) })) None)
    (word_end line (word_start line from))
operation_by true line from e le =
    let start = starts_word line from le in
    (start, ltb-true _ _ e, ends_word line (word_start line from) start.within, refl)
operation_by false line from e le =
    let start = starts_word line from le in
    let past : word_start line from ≡ length line = grind (arith, nat_tests, start.within) in
    let end : word_end line (word_start line from) ≡ length line =
    least_place_end _ line (word_start line from) (omega arith) ∙ past in
    ((rw past at start), end)

apart : (line : List ℕ) (label : Option (List ℕ)) (end : ℕ) → end ≤ length line → IsLabel line label end
    → AreApart line (fields_after line label end)
apart line label end le is =
    let operation = word_start line end in
    let start = starts_word line end le in
    let operation_ends = ends_word line operation start.within in
    let operands = starts_word line (word_end line operation) operation_ends.within in
    record {
      label_end = end;
      operation_end = word_end line operation;
      label = is;
      operation = operation_by _ line end refl le;
      operands_start = operands;
      operands_end = ends_operands line (word_start line (word_end line operation)) operands.within;
    }

-- whether a line is a comment
comment_by : (blank asterisk : Bool) (line : List ℕ) → eqb (word_start line 0) (length line) ≡ blank
    → is_asterisk (get_or line 0 0) ≡ asterisk → (blank || asterisk) ≡ true → IsComment line
comment_by true asterisk line e f h =
    let all : word_start line 0 ≡ length line = grind (arith, nat_tests) in
    inl (rw all at (starts_word line 0 (omega arith)))
comment_by false true line e f h = inr f
comment_by false false line e f h = cc

all_blank : (line : List ℕ) → IsWordStart line 0 (length line) → word_start line 0 ≡ length line
all_blank line is =
    let start = starts_word line 0 (omega arith) in
    by (nat_lt (word_start line 0) (length line)) refl start
  where
    by : (b : Bool) → nat_lt (word_start line 0) (length line) ≡ b → IsWordStart line 0 (word_start line 0)
        → word_start line 0 ≡ length line
    by true e start =
        let lt : word_start line 0 < length line = ltb-true _ _ e in
        let blank : true ≡ false = sym (is.blanks_before (word_start line 0) (omega arith) lt) ∙ start.no_blank lt in
        (cc blank)
    by false e start = grind (arith, nat_tests, start.within)

commented : (line : List ℕ) → IsComment line → is_comment line ≡ true
commented line (inl blanks) =
    let same : eqb (word_start line 0) (length line) ≡ true = eq-eqb _ _ (all_blank line blanks) in rw same refl
commented line (inr asterisk) = rw asterisk (or_true (eqb (word_start line 0) (length line)))
  where
    or_true : (b : Bool) → (b || true) ≡ true
    or_true true = refl
    or_true false = refl

-- what the label field gives, by whether it is a name
abbrev labelled : List ℕ → Bool → Result Fields TextError
labelled line b = cond b (Ok (fields_after line (Some (map upper_case (label_field line))) (word_end line 0))) (Err BadLabel)

-- what column 1 gives, by whether it is a blank
abbrev begun : List ℕ → Bool → Result Fields TextError
begun line b = cond b (Ok (fields_after line None 0)) (labelled line (is_name (label_field line)))

-- what the line gives, by whether it is a comment
abbrev whole : List ℕ → Bool → Result Fields TextError
whole line b = cond b (Ok no_fields) (begun line (is_blank (get_or line 0 0)))

module _ (line : List ℕ) (found : Fields) (short : length line ≤ longest_line) where
  -- a comment's fields
  of_comment : is_comment line ≡ true → no_fields ≡ found → AreFieldsOf line found
  of_comment e f = record {
    short = short;
    comment = λ _. sym f;
    others = λ none. absurd (none (comment_by _ _ line refl refl e));
  }

  -- another line's fields
  of_others : is_comment line ≡ false → AreApart line found → AreFieldsOf line found
  of_others e stand = record {
    short = short;
    comment = λ is. let both : true ≡ false = sym (commented line is) ∙ e in (cc both);
    others = λ _. stand;
  }

  by_label : (b : Bool) → is_name (label_field line) ≡ b → is_comment line ≡ false → labelled line b ≡ Ok found
      → AreFieldsOf line found
  by_label true e no_comment is =
      let ends = ends_word line 0 (omega arith) in
      of_others no_comment
      (subst (AreApart line) (ok_same _ _ is) (apart line _ (word_end line 0) ends.within (ends, e, refl)))
  by_label false e no_comment is = (cc is)

  by_blank : (b : Bool) → is_blank (get_or line 0 0) ≡ b → is_comment line ≡ false → begun line b ≡ Ok found
      → AreFieldsOf line found
  by_blank true e no_comment is =
      of_others no_comment (subst (AreApart line) (ok_same _ _ is) (apart line None 0 (omega arith) (e, refl)))
  by_blank false e no_comment is = by_label _ refl no_comment is

  by_comment : (b : Bool) → is_comment line ≡ b → whole line b ≡ Ok found → AreFieldsOf line found
  by_comment true e is = of_comment e (ok_same _ _ is)
  by_comment false e is = by_blank _ refl e is

pub fields_are_apart : FieldsAreApart
unfolding fields
fields_are_apart line found is = by_length _ refl is
  where
    by_length : (b : Bool) → nat_lt longest_line (length line) ≡ b
        → cond b (Err LineTooLong) (whole line (is_comment line)) ≡ given found
        → AreFieldsOf line found
    by_length true e is = (cc is)
    by_length false e is = by_comment line found (grind (arith, nat_tests)) _ refl is

upper_case_twice : (byte : ℕ) → upper_case (upper_case byte) ≡ upper_case byte
upper_case_twice byte = grind (arith, nat_tests)

upper_case_letter : (byte : ℕ) → is_letter byte ≡ true → is_letter (upper_case byte) ≡ true
upper_case_letter byte h = grind (arith, nat_tests)

upper_case_letter_or_digit : (byte : ℕ) → is_letter_or_digit byte ≡ true → is_letter_or_digit (upper_case byte) ≡ true
upper_case_letter_or_digit byte h = grind (arith, nat_tests)

letters_twice : (bytes : List ℕ) → map upper_case (map upper_case bytes) ≡ map upper_case bytes
letters_twice [] = refl
letters_twice (byte ∷ bytes) = rw (upper_case_twice byte, letters_twice bytes) refl

and_kept : (a b c d : Bool) → (a && b) ≡ true → (a ≡ true → c ≡ true) → (b ≡ true → d ≡ true) → (c && d) ≡ true
and_kept true true c d e f g = rw (f refl, g refl) refl
and_kept true false c d e f g = cc
and_kept false b c d e f g = cc

letters_kept : (bytes : List ℕ) → all_letters_or_digits bytes ≡ true → all_letters_or_digits (map upper_case bytes) ≡ true
letters_kept [] h = refl
letters_kept (byte ∷ bytes) h =
    and_kept (is_letter_or_digit byte) (all_letters_or_digits bytes) _ _ h (upper_case_letter_or_digit byte) (letters_kept bytes)

first_kept : (bytes : List ℕ) → is_letter (get_or bytes 0 0) ≡ true → is_letter (get_or (map upper_case bytes) 0 0) ≡ true
first_kept [] h = h
first_kept (byte ∷ bytes) h = upper_case_letter byte h

-- a name in upper case is one
pub upper_case_name : (bytes : List ℕ) → is_name bytes ≡ true → IsUpperCaseName (map upper_case bytes)
upper_case_name bytes h = record { name = kept; upper = letters_twice bytes }
  where
    size : length (map upper_case bytes) ≡ length bytes
    size = grind (arith, common_steps)

    kept : is_name (map upper_case bytes) ≡ true
    kept = rw size
        (and_kept ((nat_lt 0 (length bytes) && nat_le (length bytes) 6) && is_letter (get_or bytes 0 0)) (all_letters_or_digits bytes) _ _ h
        (λ front. and_kept (nat_lt 0 (length bytes) && nat_le (length bytes) 6) (is_letter (get_or bytes 0 0)) _ _ front (λ size. size) (first_kept bytes))
        (letters_kept bytes))
