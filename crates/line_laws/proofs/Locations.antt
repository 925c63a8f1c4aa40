-- Each line that is known by itself has its known place.
use Rattle.std.proofs.Common.{◌≡◌, ℕ, zero, suc, ◌+◌, ◌*◌, ◌<◌, ◌≤◌, Bool, true, false, List, [], ◌∷◌, ◌++◌, Ok}
use Rattle.std.proofs.Common.{length, length-append, refl, sym, ap, subst, ◌∙◌, arith}
use Rattle.std.specs.Prelude.{Option, not, is_some, nat_lt, slice_index_or, take}
use Rattle.std.proofs.lemmas.Bool.Decides.{nat_tests}
use Rattle.expression_defs.specs.Symbols.{look_up, registers}
use Rattle.expression_defs.specs.Expression.{Value}
use Rattle.source_defs.specs.Lines.{numbered}
use Rattle.expression_defs.specs.Layout.{line_layout}
use Rattle.object_defs.specs.declared.spot.Spot.{Spot}
use Rattle.asm_defs.specs.declared.location.Location.{Location}
use Rattle.asm_defs.specs.Locations.{Line, start, location}
use Rattle.asm_defs.specs.FirstChecks.{check, line_of, names, location_after}
use Rattle.asm_defs.specs.SecondChecks.{outcome}
use Rattle.line_laws.specs.KnownLines.{KnownLine, known_line, known_lines, names_in, all_names, names_after}
use Rattle.line_laws.specs.KnownLines.{are_new, are_plain, is_plain, end_of, look_in, is_plain_statement}
use Rattle.line_laws.specs.Laws.{looks, AreKnown, IsAssembledAt, KnownLinesAreAssembled}
use Rattle.line_laws.proofs.LayoutLines.{layout_list, earlier_layout, check_after, parts_of, first_of, new_by, plain_free}
use Rattle.line_laws.proofs.Whole.{front, final, first, final_known, final_checked, whole_layout, looked, registers_look_up}
use Rattle.line_laws.proofs.Small.{both}

new_parts : (known entries others : List (List ℕ × Value)) → are_new known (entries ++ others) ≡ true
    → (are_new known entries ≡ true) × (are_new (names_after known entries) others ≡ true)
new_parts known [] others e = (refl, e)
new_parts known (entry ∷ entries) others e =
    let b = both (not (is_some (look_in known entry.0))) (are_new (entry ∷ known) (entries ++ others)) e in
    let c = new_parts (entry ∷ known) entries others b.1 in
    (rw (b.0, c.0) refl, c.1)

names_of_two : (lines others : List KnownLine) → all_names (lines ++ others) ≡ all_names lines ++ all_names others
names_of_two [] others = refl
names_of_two (line ∷ lines) others = ap (λ rest. names_in line ++ rest) (names_of_two lines others) ∙ assoc (names_in line) (all_names lines) (all_names others)
  where
    assoc : (a b c : List (List ℕ × Value)) → a ++ (b ++ c) ≡ (a ++ b) ++ c
    assoc [] b c = refl
    assoc (x ∷ a) b c = ap (λ rest. x ∷ rest) (assoc a b c)

plain_parts : (lines : List KnownLine) (line : KnownLine) (others : List KnownLine) → are_plain (lines ++ line ∷ others) ≡ true → (are_plain lines ≡ true) × (is_plain line ≡ true)
plain_parts [] line others e = (refl, (both (is_plain line) _ e).0)
plain_parts (one ∷ lines) line others e =
    let b = both (is_plain one) (are_plain (lines ++ line ∷ others)) e in
    let c = plain_parts lines line others b.1 in
    (rw (b.0, c.0) refl, c.1)

module _ (look : List ℕ → Option Value) (d : KnownLine) where
  -- some lines at the one with a number
  record Split (texts : List (List ℕ)) (lines : List KnownLine) (at : Location) (index : ℕ) : Type 0 where
    front : List KnownLine
    rest : List KnownLine
    is : lines ≡ front ++ (slice_index_or lines index d ∷ rest)
    known : known_lines look at (take index texts) ≡ Ok front
    one : known_line look (end_of at front) (slice_index_or texts index []) ≡ Ok (slice_index_or lines index d)
    inside : index < length texts

  known_step : (text : List ℕ) (texts : List (List ℕ)) (from : Location) (line : KnownLine) (others : List KnownLine) → known_line look from text ≡ Ok line
      → known_lines look (location_after from line.found.move) texts ≡ Ok others → known_lines look from (text ∷ texts) ≡ Ok (line ∷ others)
  known_step text texts from line others is are = rw is (rw are refl)

  none_inside : (index : ℕ) (lines : List KnownLine) → ◌≡◌ {A = List KnownLine} [] lines → index < length lines → ⊥
  none_inside index lines e lt = let size : length lines ≡ 0 = ap length (sym e) in omega (arith, size, lt)

  split : (texts : List (List ℕ)) (lines : List KnownLine) (at : Location) (index : ℕ) → known_lines look at texts ≡ Ok lines → index < length lines → Split texts lines at index
  split [] lines at index e lt = absurd (none_inside index lines (cc e) lt)
  split (text ∷ texts) lines at zero e lt =
      let f = first_of look at text texts lines e in
      subst (λ lines. Split (text ∷ texts) lines at 0) (sym f.2)
      (record { front = []; rest = f.1; is = refl; known = refl; one = f.3.is; inside = omega arith })
  split (text ∷ texts) lines at (suc index) e lt =
      let f = first_of look at text texts lines e in
      let size : length lines ≡ suc (length f.1) = ap length f.2 in
      let s = split texts f.1 (location_after at f.0.found.move) index f.3.others (omega (arith, size, lt)) in
      subst (λ lines. Split (text ∷ texts) lines at (suc index)) (sym f.2)
      (record {
        front = f.0 ∷ s.front;
        rest = s.rest;
        is = ap (λ rest. f.0 ∷ rest) s.is;
        known = known_step text (take index texts) at f.0 s.front f.3.is s.known;
        one = s.one;
        inside = omega (arith, s.inside);
      })

  same_length : (texts : List (List ℕ)) (lines : List KnownLine) (at : Location) → known_lines look at texts ≡ Ok lines → length lines ≡ length texts
  same_length [] lines at e = let none : ◌≡◌ {A = List KnownLine} [] lines = cc e in sym (ap length none)
  same_length (text ∷ texts) lines at e =
      let f = first_of look at text texts lines e in
      ap length f.2 ∙ ap suc (same_length texts f.1 (location_after at f.0.found.move) f.3.others)

module _ {A : Type 0} where
  take_front : (items more : List A) (n : ℕ) → n ≤ length items → take n (items ++ more) ≡ take n items
  take_front items more zero le = refl
  take_front [] more (suc n) le = absurd (omega (arith, le))
  take_front (item ∷ items) more (suc n) le = ap (λ items. item ∷ items) (take_front items more n (omega (arith, le)))

  index_front : (items more : List A) (n : ℕ) (d : A) → n < length items → slice_index_or (items ++ more) n d ≡ slice_index_or items n d
  index_front [] more n d lt = absurd (omega (arith, lt))
  index_front (item ∷ items) more zero d lt = refl
  index_front (item ∷ items) more (suc n) d lt = index_front items more n d (omega (arith, lt))

  take_all_of : (items more : List A) (n : ℕ) → n ≡ length items → take n (items ++ more) ≡ items
  take_all_of [] more n e = ap (λ n. take n more) e
  take_all_of (item ∷ items) more zero e = absurd (omega (arith, e))
  take_all_of (item ∷ items) more (suc n) e = ap (λ items. item ∷ items) (take_all_of items more n (omega (arith, e)))

  index_after : (items : List A) (last : A) (n : ℕ) (d : A) → n ≡ length items → slice_index_or (items ++ last ∷ []) n d ≡ last
  index_after [] last n d e = ap (λ n. slice_index_or (last ∷ []) n d) e
  index_after (item ∷ items) last zero d e = absurd (omega (arith, e))
  index_after (item ∷ items) last (suc n) d e = index_after items last n d (omega (arith, e))

module _ (half : ℕ) (texts : List (List ℕ)) (last : List ℕ) (defined : List (List ℕ × Value)) (lines : List KnownLine) (end : KnownLine) (spot : Spot) (is : AreKnown (2 * half) texts last defined lines end spot) where
  abbrev look : List ℕ → Option Value
  look = looks defined

  abbrev every : List Line
  every = final half texts last defined lines end spot is ∷ front half texts last defined lines end spot is

  -- a line after lines that are placed
  is_at_by : (index : ℕ) (some : List (List ℕ)) (text : List ℕ) (before : List Line) (line : KnownLine)
      → take index (texts ++ last ∷ []) ≡ some → slice_index_or (texts ++ last ∷ []) index [] ≡ text
      → line_layout check (numbered 1 some) ≡ Ok before → known_line look (location before) text ≡ Ok line
      → check before (index + 1) text ≡ Ok (line_of (index + 1) line.found) → IsAssembledAt (texts ++ last ∷ []) index line.at line.outcome
  is_at_by index some text before line taken there are known is_checked =
      let p = parts_of look (location before) text line known in
      let same : look ≡ look_up (names every) = looked half texts last defined lines end spot is in
      record {
        before = before;
        earlier_layout = ap (λ texts. line_layout check (numbered 1 texts)) taken ∙ are;
        line = line_of (index + 1) line.found;
        checked = ap (check before (index + 1)) there ∙ is_checked;
        place_is = sym p.place_is;
        all = every;
        whole_layout = whole_layout half texts last defined lines end spot is;
        comes = subst (λ look. outcome look line.at line.found.statement ≡ Ok line.outcome) same p.comes;
      }

  module _ (d : KnownLine) where
    plain_is_at : (index : ℕ) → Split look d texts lines start index → IsAssembledAt (texts ++ last ∷ []) index (slice_index_or lines index d).at (slice_index_or lines index d).outcome
    plain_is_at index s =
        let line = slice_index_or lines index d in
        let text = slice_index_or texts index [] in
        let plain = plain_parts s.front line s.rest (subst (λ lines. are_plain lines ≡ true) s.is is.plain) in
        let new : are_new registers (all_names s.front ++ (names_in line ++ all_names s.rest)) ≡ true =
        ap (are_new registers) (sym (names_of_two s.front (line ∷ s.rest)))
        ∙ subst (λ lines. are_new registers (all_names lines) ≡ true) s.is (ap (are_new registers) is.names ∙ is.new) in
        let parts = new_parts registers (all_names s.front) (names_in line ++ all_names s.rest) new in
        let layout_front = earlier_layout look (take index texts) s.front [] 1 registers s.known plain.0 registers_look_up parts.0 in
        let before = layout_list [] 1 s.front in
        let known : known_line look (location before) text ≡ Ok line = ap (λ at. known_line look at text) layout_front.at ∙ s.one in
        let fresh = new_by (names before) (names_after registers (all_names s.front)) (all_names s.rest) line.found.label line.found.move.label layout_front.names parts.1 in
        let free = plain_free line.found.statement (both (is_plain_statement line.found.statement) _ plain.1).0 in
        is_at_by index (take index texts) text before line
        (take_front texts (last ∷ []) index (omega (arith, s.inside)))
        (index_front texts (last ∷ []) index [] s.inside) layout_front.line_layout known
        (check_after look text line before (index + 1) known free.free fresh.fresh)

    last_is_at : (index : ℕ) → index ≡ length texts → IsAssembledAt (texts ++ last ∷ []) index end.at end.outcome
    last_is_at index e =
        let before = front half texts last defined lines end spot is in
        let numbers : 1 + length texts ≡ index + 1 = omega (arith, e) in
        is_at_by index texts last before end (take_all_of texts (last ∷ []) index e) (index_after texts last index [] e)
        (first half texts last defined lines end spot is).line_layout (final_known half texts last defined lines end spot is)
        (subst (λ number. check before number last ≡ Ok (line_of number end.found)) numbers (final_checked half texts last defined lines end spot is))

    is_at_place : (index : ℕ) (inside : Bool) → nat_lt index (length lines) ≡ inside → index < length (lines ++ end ∷ [])
        → IsAssembledAt (texts ++ last ∷ []) index (slice_index_or (lines ++ end ∷ []) index d).at (slice_index_or (lines ++ end ∷ []) index d).outcome
    is_at_place index true inside lt =
        let here : index < length lines = grind (arith, nat_tests, inside) in
        subst (λ line. IsAssembledAt (texts ++ last ∷ []) index line.at line.outcome) (sym (index_front lines (end ∷ []) index d here))
        (plain_is_at index (split look d texts lines start index is.known here))
    is_at_place index false inside lt =
        let size = length-append lines (end ∷ []) in
        let here : index ≡ length lines = grind (arith, nat_tests, inside, lt, size) in
        subst (λ line. IsAssembledAt (texts ++ last ∷ []) index line.at line.outcome) (sym (index_after lines end index d here))
        (last_is_at index (here ∙ same_length look d texts lines start is.known))

pub known_lines_are_assembled : KnownLinesAreAssembled
known_lines_are_assembled half texts last defined lines end spot index d is lt =
    is_at_place half texts last defined lines end spot is d index (nat_lt index (length lines)) refl lt
