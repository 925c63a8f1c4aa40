-- The fields of a listed line, and the lines of a listing.
use Rattle.std.proofs.Common.{◌≡◌, ℕ, ◌+◌, ◌-◌, ◌<◌, ◌≤◌, Bool, true, false, not, ◌&&◌, List, [], ◌∷◌, ◌++◌}
use Rattle.std.proofs.Common.{append_assoc, length, drop, get_or, append-nil, refl, ap, ◌∙◌, ◌⊎◌, inl, inr}
use Rattle.std.proofs.Common.{Ok, Option, Some, None, arith}
use Rattle.std.specs.Prelude.{map, nat_lt, codes, ◌==◌}
use Rattle.std.specs.List.{list_all, concat}
use Rattle.std.proofs.lemmas.Bool.Decides.{nat_tests}
use Rattle.source_defs.specs.declared.text.Span.{Span}
use Rattle.source_defs.specs.Characters.{is_blank, is_line_feed, is_carriage_return}
use Rattle.source_defs.specs.Lines.{part, lines_from, line_texts, numbered}
use Rattle.source_defs.specs.Fields.{fields, in_quotes}
use Rattle.source_defs.specs.ListedLines.{listed, listing_line, with_operands}
use Rattle.source_defs.proofs.LineSteps.{lines_from_step, lines_from_end}
use Rattle.listed_lines.proofs.Scans.{and_left, and_right, not_true, all_both, all_get, all_also, starts, starts_with, At, at_start, to_end}
use Rattle.listed_lines.proofs.Scans.{size_is, after, part_is, byte_is, scanned, scanned_where}

abbrev unblank : ℕ → Bool
unblank byte = not (is_blank byte)

-- a byte of a line
abbrev pub in_line : ℕ → Bool
in_line byte = not (is_line_feed byte) && not (is_carriage_return byte)

-- a byte of a line, which is no blank
abbrev pub plain_byte : ℕ → Bool
plain_byte byte = unblank byte && in_line byte

is_in_line : (xs : List ℕ) → list_all plain_byte xs ≡ true → list_all in_line xs ≡ true
is_in_line = all_also plain_byte in_line (λ x. and_right (unblank x) (in_line x))

is_unblank : (xs : List ℕ) → list_all plain_byte xs ≡ true → list_all unblank xs ≡ true
is_unblank = all_also plain_byte unblank (λ x. and_left (unblank x) (in_line x))

-- ---- fields

-- what is in a line without a label
pub record Cut (line name field : List ℕ) : Type 0 where
  pub operation : Span
  pub operands : Span
  pub fields_are : fields line ≡ Ok (record { label = None; operation = Some operation; operands = operands })
  pub name_is : part line operation ≡ name
  pub field_is : part line operands ≡ field

abbrev lead : List ℕ
lead = codes "       "

-- a name, a gap of blanks and a field after the blanks of a listed line
module _ (name gap field : List ℕ) (some : 0 < length name) (few : length name + (length gap + length field) ≤ 249)
    (name_is : list_all unblank name ≡ true) (field_is : list_all unblank field ≡ true)
    (gap_is : list_all (λ byte. not (unblank byte)) gap ≡ true) (stops : starts is_blank (gap ++ field) ≡ true)
    (begins : starts unblank field ≡ true) where
  abbrev line : List ℕ
  line = lead ++ (name ++ (gap ++ field))

  at_name : At line 7 (name ++ (gap ++ field))
  at_name = record { there = refl; size = omega arith }

  cut : Cut line name field
  unfolding fields
  cut =
      let at_gap = after name (gap ++ field) at_name in
      let at_field = to_end (after gap field at_gap) in
      let size = size_is gap field at_gap in
      let start : ℕ = 7 + length name + length gap in
      let a = scanned lead (name ++ (gap ++ field)) (at_start line) unblank refl (starts_with unblank name _ some name_is) in
      let b = scanned name (gap ++ field) at_name is_blank name_is stops in
      let c = scanned gap field at_gap unblank gap_is begins in
      let d = scanned_where field [] at_field is_blank (λ k. not (in_quotes line (7 + length name + length gap) k)) (λ some. absurd (omega arith)) field_is refl in
      let long : nat_lt 256 (length line) ≡ false = grind (arith, nat_tests) in
      let no : (7 == length line) ≡ false = grind (arith, nat_tests) in
      let yes : nat_lt 7 (length line) ≡ true = grind (arith, nat_tests) in
      record {
        operation = record { start = 7; end = 7 + length name };
        operands = record { start = start; end = start + length field };
        fields_are = rw (long, a, no, b, c, d, yes) refl;
        name_is = part_is name (gap ++ field) at_name;
        field_is = part_is field [] at_field;
      }

-- what a name and its operands need, so that they are in a line
pub record Fit (name field : List ℕ) : Type 0 where
  pub some : 0 < length name
  pub short : length name ≤ 6
  pub few : length field ≤ 47
  pub name_plain : list_all plain_byte name ≡ true
  pub field_plain : list_all plain_byte field ≡ true

-- a directive with a number
pub number_fit : (name text : List ℕ) → 0 < length name → length name ≤ 6 → list_all plain_byte name ≡ true →
    length text ≤ 5 → list_all plain_byte text ≡ true → Fit name text
number_fit name text some short plain few field =
    record { some = some; short = short; few = omega arith; name_plain = plain; field_plain = field }

-- the operands as they are in a field
abbrev pub field_of : Option (List ℕ) → List ℕ
field_of None = []
field_of (Some text) = text

-- the fields of a listed line
pub cut_listed : (name : List ℕ) (operands : Option (List ℕ)) → Fit name (field_of operands) →
    (operands ≡ None) ⊎ (0 < length (field_of operands)) → Cut (listed (with_operands name operands)) name (field_of operands)
cut_listed name None fit some =
    let bare = cut name [] [] fit.some (omega (arith, fit.short)) (is_unblank name fit.name_plain) refl refl refl refl in
    rw append-nil at bare
cut_listed name (Some []) fit (inl none) = absurd (cc)
cut_listed name (Some []) fit (inr lt) = absurd (omega arith)
cut_listed name (Some (o ∷ os)) fit some =
    let plain = is_unblank (o ∷ os) fit.field_plain in
    cut name (0x20 ∷ []) (o ∷ os) fit.some (omega (arith, fit.short, fit.few)) (is_unblank name fit.name_plain) plain refl
    refl (starts_with unblank (o ∷ os) [] (omega arith) plain)

-- ---- lines that are joined come apart again

pub listed_in_line : (name : List ℕ) (operands : Option (List ℕ)) → Fit name (field_of operands) →
    list_all in_line (listed (with_operands name operands)) ≡ true
listed_in_line name None fit = is_in_line name fit.name_plain
listed_in_line name (Some text) fit =
    all_both in_line name (32 ∷ text) (is_in_line name fit.name_plain) (is_in_line text fit.field_plain)

abbrev pub joined : List (List ℕ) → List ℕ
joined [] = []
joined (line ∷ lines) = (line ++ 10 ∷ []) ++ joined lines

-- the lines of a text from a place on
abbrev texts_at : List ℕ → ℕ → ℕ → List (ℕ × List ℕ)
texts_at text number at = map {B = ℕ × List ℕ} (λ line. (line.number, part text line.span))
    (lines_from text number at (drop at text))

module _ (text l more : List ℕ) (from : ℕ) (left : At text from (l ++ 10 ∷ more)) (e : list_all in_line l ≡ true) where
  no_return : (b : Bool) → nat_lt from (from + length l) ≡ b →
      (b && is_carriage_return (get_or text (from + length l - 1) 0)) ≡ false
  no_return false t = refl
  no_return true t =
      let some : 0 < length l = grind (arith, nat_tests) in
      let place : from + length l - 1 ≡ from + (length l - 1) = omega arith in
      let last = all_get in_line l (length l - 1) (omega arith) e in
      rw (place, byte_is l (10 ∷ more) left (length l - 1) (omega arith)) (not_true _ (and_right (not (is_line_feed (get_or l (length l - 1) 0))) _ last))

  line_step : (number : ℕ) → texts_at text number from ≡ (number, l) ∷ texts_at text (number + 1) (from + length l + 1)
  line_step number =
      let size = size_is l (10 ∷ more) left in
      let own = all_also in_line (λ x. not (is_line_feed x)) (λ x. and_left (not (is_line_feed x)) (not (is_carriage_return x))) l e in
      let feed = scanned l (10 ∷ more) left is_line_feed own refl in
      let inside : nat_lt (from + length l) (length text) ≡ true = grind (arith, nat_tests) in
      rw (lines_from_step text number from (omega arith), feed, inside, no_return _ refl, part_is l (10 ∷ more) left) refl

split_from : (ls : List (List ℕ)) (text : List ℕ) (from number : ℕ) → At text from (joined ls) →
    list_all (λ l. list_all in_line l) ls ≡ true → texts_at text number from ≡ numbered number ls
split_from [] text from number left e = rw (lines_from_end text number from (omega (arith, left.size))) refl
split_from (l ∷ ls) text from number left e =
    let here : At text from (l ++ 10 ∷ joined ls) = rw (append_assoc l (10 ∷ []) (joined ls)) at left in
    let next = after (10 ∷ []) (joined ls) (after l (10 ∷ joined ls) here) in
    line_step text l (joined ls) from here (and_left _ (list_all (λ l. list_all in_line l) ls) e) number
    ∙ ap (λ lines. (number, l) ∷ lines) (split_from ls text (from + length l + 1) (number + 1) next (and_right (list_all in_line l) _ e))

pub lines_joined : (ls : List (List ℕ)) → list_all (λ l. list_all in_line l) ls ≡ true →
    line_texts (joined ls) ≡ numbered 1 ls
lines_joined ls e = split_from ls (joined ls) 0 1 (at_start (joined ls)) e

-- texts of lines without a line feed
abbrev pub clean : List (List ℕ) → Bool
clean texts = list_all (λ text. list_all in_line (listed text)) texts

pub clean_lines : (texts : List (List ℕ)) → clean texts ≡ true → list_all (λ line. list_all in_line line) (map listed texts) ≡ true
clean_lines [] e = refl
clean_lines (text ∷ texts) e =
    rw (and_left (list_all in_line (listed text)) (clean texts) e) (clean_lines texts (and_right (list_all in_line (listed text)) (clean texts) e))

pub text_of : (texts : List (List ℕ)) → concat (map listing_line texts) ≡ joined (map listed texts)
text_of [] = refl
text_of (text ∷ texts) = ap (λ rest. listing_line text ++ rest) (text_of texts)
