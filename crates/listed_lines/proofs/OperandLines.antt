-- Operands with commas between them, and a text after which another is in parentheses.
use Rattle.std.proofs.Common.{◌≡◌, ℕ, ◌+◌, ◌<◌, Bool, true, false, not, ◌&&◌, List, [], ◌∷◌, ◌++◌}
use Rattle.std.proofs.Common.{length, take, length-append, refl, ◌∙◌, arith}
use Rattle.std.specs.Prelude.{map, nat_lt, ◌==◌, slice_range}
use Rattle.std.specs.List.{list_all}
use Rattle.std.proofs.lemmas.Bool.Decides.{nat_tests}
use Rattle.std.proofs.Math.Seq.{take-append_seam}
use Rattle.source_defs.specs.Characters.{is_comma}
use Rattle.source_defs.specs.Fields.{in_quotes}
use Rattle.source_defs.specs.Lines.{part}
use Rattle.source_defs.specs.ListedLines.{two_texts}
use Rattle.source_defs.specs.Operands.{operands_from, operand_texts}
use Rattle.source_defs.specs.Parentheses.{last_place, opening, closes_at, has_parentheses}
use Rattle.source_defs.proofs.OperandSteps.{operands_from_step}
use Rattle.listed_lines.proofs.Scans.{and_left, and_right, all_both, all_also, At, at_start, to_end, size_is, after, part_is, byte_is, scanned_where}
use Rattle.listed_lines.proofs.Scans.{unquoted, not_quoted}

-- what the text of an operand holds
abbrev pub whole : ℕ → Bool
whole byte = unquoted byte && not (is_comma byte)

-- an operand, and others after commas
abbrev pub commas : List ℕ → List (List ℕ) → List ℕ
commas text [] = text
commas text (next ∷ texts) = two_texts text (commas next texts)

abbrev pub all_whole : List (List ℕ) → Bool
all_whole texts = list_all (λ text. list_all whole text) texts

commas_unquoted : (text : List ℕ) (texts : List (List ℕ)) → list_all whole text ≡ true → all_whole texts ≡ true →
    list_all unquoted (commas text texts) ≡ true
commas_unquoted text [] e f = all_also whole unquoted (λ x. and_left (unquoted x) (not (is_comma x))) text e
commas_unquoted text (next ∷ texts) e f =
    all_both unquoted text (0x2C ∷ commas next texts) (all_also whole unquoted (λ x. and_left (unquoted x) (not (is_comma x))) text e)
    (commas_unquoted next texts (and_left _ (all_whole texts) f) (and_right (list_all whole next) _ f))

module _ (field : List ℕ) (quotes : list_all unquoted field ≡ true) where
  operands_at : (text : List ℕ) (texts : List (List ℕ)) (from : ℕ) → At field from (commas text texts) →
      list_all whole text ≡ true → all_whole texts ≡ true → map (part field) (operands_from field from) ≡ text ∷ texts
  operands_at text [] from left e f =
      let uncut = all_also whole (λ x. not (is_comma x)) (λ x. and_right (unquoted x) (not (is_comma x))) text e in
      let size : length field ≡ from + length text = left.size in
      let ends = scanned_where text [] (to_end left) is_comma (λ k. not (in_quotes field 0 k)) (λ some. absurd (omega arith)) uncut refl in
      let last : nat_lt (from + length text) (length field) ≡ false = grind (arith, nat_tests) in
      rw (operands_from_step field from (omega arith), ends, last, size, part_is text [] (to_end left)) refl
  operands_at text (next ∷ texts) from left e f =
      let uncut = all_also whole (λ x. not (is_comma x)) (λ x. and_right (unquoted x) (not (is_comma x))) text e in
      let size = size_is text (0x2C ∷ commas next texts) left in
      let outside = not_quoted field (from + length text) quotes (omega arith) in
      let ends = scanned_where text (0x2C ∷ commas next texts) left is_comma (λ k. not (in_quotes field 0 k)) (λ some. rw outside refl) uncut refl in
      let inside : nat_lt (from + length text) (length field) ≡ true = grind (arith, nat_tests) in
      let rest = after (0x2C ∷ []) (commas next texts) (after text (0x2C ∷ commas next texts) left) in
      let others = operands_at next texts (from + length text + 1) rest (and_left _ (all_whole texts) f) (and_right (list_all whole next) _ f) in
      rw (operands_from_step field from (omega arith), ends, inside, part_is text (0x2C ∷ commas next texts) left, others) refl

operands_are : (field : List ℕ) → 0 < length field → operand_texts field ≡ map (part field) (operands_from field 0)
operands_are [] some = absurd (omega arith)
operands_are (byte ∷ bytes) some = refl

pub operands_back : (text : List ℕ) (texts : List (List ℕ)) → 0 < length (commas text texts) → list_all whole text ≡ true →
    all_whole texts ≡ true → operand_texts (commas text texts) ≡ text ∷ texts
operands_back text texts some e f =
    operands_are (commas text texts) some
    ∙ operands_at (commas text texts) (commas_unquoted text texts e f) text texts 0 (at_start (commas text texts)) e f

pub one_text : (text : List ℕ) → 0 < length text → list_all whole text ≡ true → operand_texts text ≡ text ∷ []
one_text text some e = operands_back text [] some e refl

pub two_operands : (first second : List ℕ) → list_all whole first ≡ true → list_all whole second ≡ true →
    operand_texts (two_texts first second) ≡ first ∷ second ∷ []
two_operands first second e f =
    operands_back first (second ∷ []) (omega (arith, length-append first (0x2C ∷ second))) e (rw f refl)

-- an address, and after it an index in parentheses
module _ (outer inner : List ℕ) (quotes : list_all unquoted (outer ++ 0x28 ∷ (inner ++ 0x29 ∷ [])) ≡ true)
    (own : list_all (λ byte. not (byte == 0x28)) outer ≡ true) where
  abbrev pub text_with : List ℕ
  text_with = outer ++ 0x28 ∷ (inner ++ 0x29 ∷ [])

  at_inner : At text_with (0 + length outer + 1) (inner ++ 0x29 ∷ [])
  at_inner = after (0x28 ∷ []) (inner ++ 0x29 ∷ []) (after outer (0x28 ∷ (inner ++ 0x29 ∷ [])) (at_start text_with))

  pub opening_is : opening text_with ≡ length outer
  opening_is =
      let size = size_is inner (0x29 ∷ []) at_inner in
      scanned_where outer (0x28 ∷ (inner ++ 0x29 ∷ [])) (at_start text_with) (λ byte. byte == 0x28)
      (λ k. not (in_quotes text_with 0 k))
      (λ some. rw (not_quoted text_with (0 + length outer) quotes (omega arith)) refl) own refl
      ∙ omega arith

  pub closes_is : closes_at text_with (last_place text_with) ≡ true
  closes_is =
      let size = size_is inner (0x29 ∷ []) at_inner in
      let last : last_place text_with ≡ 0 + length outer + 1 + length inner + 0 = omega arith in
      let byte = byte_is (0x29 ∷ []) [] (to_end (after inner (0x29 ∷ []) at_inner)) 0 (omega arith) in
      rw (not_quoted text_with (last_place text_with) quotes (omega arith), last, byte) refl

  pub has_is : has_parentheses text_with ≡ true
  has_is =
      let size = size_is inner (0x29 ∷ []) at_inner in
      let inside : nat_lt (length outer) (length text_with) ≡ true = grind (arith, nat_tests) in
      rw (closes_is, opening_is, inside) refl

  pub outer_is : take (opening text_with) text_with ≡ outer
  outer_is = rw opening_is (take-append_seam outer (0x28 ∷ (inner ++ 0x29 ∷ [])))

  pub inner_is : slice_range text_with (opening text_with + 1) (last_place text_with) ≡ inner
  inner_is =
      let size = size_is inner (0x29 ∷ []) at_inner in
      let from : length outer + 1 ≡ 0 + length outer + 1 = omega arith in
      let last : last_place text_with ≡ 0 + length outer + 1 + length inner = omega arith in
      rw (opening_is, last, from) (part_is inner (0x29 ∷ []) at_inner)
