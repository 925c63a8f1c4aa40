-- What plain lines place: their words, one after the other.
use Rattle.std.proofs.Common.{inl, inr, ◌≡◌, ℕ, zero, suc, ◌+◌, ◌-◌, ◌*◌, ◌<◌, ◌≤◌, Bool, true, false, List, [], ◌∷◌}
use Rattle.std.proofs.Common.{◌++◌, Some, None, length, length-append, refl, sym, ap, subst, ◌∙◌, arith}
use Rattle.std.specs.Prelude.{Option, ◌⊎◌, ◌&&◌, ◌||◌, nat_le, nat_lt, if◌then◌else◌, slice_get, map}
use Rattle.std.specs.Option.{option_map}
use Rattle.std.proofs.lemmas.Bool.Decides.{nat_tests}
use Rattle.std.proofs.lemmas.Bool.{false_from_ne_true}
use Rattle.std.proofs.lemmas.List.{length-map}
use Rattle.expression_defs.specs.Expression.{Value, Absolute}
use Rattle.object_defs.specs.declared.spot.Spot.TheVariants as spot
use Rattle.object_defs.specs.Modules.{Reference}
use Rattle.asm_defs.specs.declared.content.Content.{Content}
use Rattle.asm_defs.specs.declared.content.Content.TheVariants as content
use Rattle.asm_defs.specs.declared.location.Location.{Location}
use Rattle.asm_defs.specs.declared.location.Part.{Part}
use Rattle.asm_defs.specs.declared.location.Part.TheVariants as part
use Rattle.asm_defs.specs.SecondChecks.{Outcome, Nothing, Words}
use Rattle.asm_defs.specs.Memory.{AssembledLine, covers, same_part, is_placed, bytes_in, contents_by}
use Rattle.asm_defs.proofs.PlacedWords.{word_contents}
use Rattle.asm_defs.specs.Memory.{content_at, any_from, count_from, has_word, words_in, word_count, part_words}
use Rattle.line_laws.specs.KnownLines.{numbers_of, outcome_words, is_at, is_absolute}
use Rattle.source_defs.specs.OperandLists.{is_empty}
use Rattle.line_laws.proofs.Small.{both, chosen, get_past}
use Rattle.base_defs.specs.Counts.{one_if}

-- the bytes of absolute words
abbrev pub cells : List ℕ → List Content
cells [] = []
cells (word ∷ words) = content.First (spot.Absolute word) ∷ content.Second ∷ cells words

pub cells_length : (words : List ℕ) → length (cells words) ≡ 2 * length words
cells_length [] = refl
cells_length (word ∷ words) = let ih = cells_length words in omega (arith, ih)

cells_append : (words more : List ℕ) → cells (words ++ more) ≡ cells words ++ cells more
cells_append [] more = refl
cells_append (word ∷ words) more = ap (λ rest. content.First (spot.Absolute word) ∷ content.Second ∷ rest) (cells_append words more)

-- absolute values as they stand, by their numbers
abbrev pub AreNumbers : List Value → List ℕ → Type 0
AreNumbers values numbers = values ≡ map Absolute numbers

mapped : (number : ℕ) (values : List Value) (rest : Option (List ℕ)) (numbers : List ℕ) → option_map (λ others. number ∷ others) rest ≡ Some numbers
    → ((others : List ℕ) → rest ≡ Some others → AreNumbers values others) → AreNumbers (Absolute number ∷ values) numbers
mapped number values (Some others) numbers e each =
    let same : number ∷ others ≡ numbers = cc e in
    subst (AreNumbers (Absolute number ∷ values)) same (ap (λ values. Absolute number ∷ values) (each others refl))
mapped number values None numbers e each = cc e

pub are_numbers : (values : List Value) (numbers : List ℕ) → numbers_of values ≡ Some numbers → AreNumbers values numbers
are_numbers [] numbers e = let same : ◌≡◌ {A = List ℕ} [] numbers = cc e in ap (λ numbers. map Absolute numbers) same
are_numbers (Absolute number ∷ values) numbers e = mapped number values (numbers_of values) numbers e (are_numbers values)
are_numbers _ numbers e = cc e

contents_of_numbers : (references : List Reference) (at : ℕ) (numbers : List ℕ) → word_contents part.Absolute references at (map Absolute numbers) ≡ cells numbers
contents_of_numbers references at [] = refl
contents_of_numbers references at (number ∷ numbers) =
    ap (λ rest. content.First (spot.Absolute number) ∷ content.Second ∷ rest) (contents_of_numbers references (at + 2) numbers)

-- how many bytes such an outcome places
pub placed_size : (outcome : Outcome) (words : List ℕ) → outcome_words outcome ≡ Some words → bytes_in outcome ≡ 2 * length words
placed_size Nothing words e = let same : ◌≡◌ {A = List ℕ} [] words = cc e in ap (λ words. 2 * length words) same
placed_size (Words values) words e =
    let are = are_numbers values words e in
    ap (λ values. 2 * length values) are ∙ ap (λ n. 2 * n) (length-map words Absolute)
placed_size _ words e = cc e

-- and which
pub placed_contents : (references : List Reference) (at : Location) (outcome : Outcome) (words : List ℕ) → outcome_words outcome ≡ Some words → at.part ≡ part.Absolute
    → contents_by at references outcome ≡ cells words
placed_contents references at Nothing words e absolute = let same : ◌≡◌ {A = List ℕ} [] words = cc e in ap cells same
placed_contents references at (Words values) words e absolute =
    rw (absolute, are_numbers values words e) (contents_of_numbers references at.number words)
placed_contents references at _ words e absolute = cc e

-- what is at a place of memory that holds words from a place on
abbrev pub content_of : ℕ → List ℕ → ℕ → Option Content
content_of from words p = if nat_le from p then slice_get (cells words) (p - from) else None

get_after : {A : Type 0} (items more : List A) (k : ℕ) → slice_get (items ++ more) (length items + k) ≡ slice_get more k
get_after [] more k = let same : 0 + k ≡ k = omega arith in ap (slice_get more) same
get_after (item ∷ items) more k =
    let same : length (item ∷ items) + k ≡ suc (length items + k) = omega arith in
    ap (slice_get (item ∷ (items ++ more))) same ∙ get_after items more k

get_before : {A : Type 0} (items more : List A) (k : ℕ) → k < length items → slice_get (items ++ more) k ≡ slice_get items k
get_before [] more k lt = absurd (omega (arith, lt))
get_before (item ∷ items) more zero lt = refl
get_before (item ∷ items) more (suc k) lt = get_before items more k (omega (arith, lt))

module _ (from : ℕ) (words more : List ℕ) where
  abbrev reached : ℕ
  reached = from + 2 * length words

  -- at a place of the words that come
  content_there : (p : ℕ) → reached ≤ p → content_of from (words ++ more) p ≡ slice_get (cells more) (p - reached)
  content_there p le =
      let inside : nat_le from p ≡ true = grind (arith, nat_tests) in
      let size = cells_length words in
      let split : p - from ≡ length (cells words) + (p - reached) = omega (arith, size, le) in
      rw (inside, cells_append words more, split) (get_after (cells words) (cells more) (p - reached))

  -- at another
  content_before : (p : ℕ) → p < reached → content_of from (words ++ more) p ≡ content_of from words p
  content_before p lt = by (nat_le from p) refl
    where
      by : (b : Bool) → nat_le from p ≡ b → content_of from (words ++ more) p ≡ content_of from words p
      by true e =
          let le : from ≤ p = grind (arith, nat_tests, e) in
          let size = cells_length words in
          rw (e, cells_append words more)
          (get_before (cells words) (cells more) (p - from) (omega (arith, size, lt, le)))
      by false e = rw e refl

  content_past : (p : ℕ) → reached + 2 * length more ≤ p → content_of from (words ++ more) p ≡ content_of from words p
  content_past p le =
      let size = cells_length words in
      let more_size = cells_length more in
      let inside : nat_le from p ≡ true = grind (arith, nat_tests) in
      content_there p (omega (arith, le))
      ∙ (get_past (cells more) (p - reached) (omega (arith, le, more_size))
      ∙ sym (chosen _ true _ _ inside ∙ get_past (cells words) (p - from) (omega (arith, le, size))))

-- lines that hold words from a place on, and nothing else
pub record HoldWords (references : List Reference) (lines : List AssembledLine) (from : ℕ) (words : List ℕ) : Type 0 where
  pub absolute : (p : ℕ) → content_at references lines part.Absolute p ≡ content_of from words p
  pub relocatable : (p : ℕ) → content_at references lines part.Relocatable p ≡ None
  pub free : (p : ℕ) → from + 2 * length words ≤ p → is_placed lines part.Absolute p ≡ false
  pub none : (p : ℕ) → is_placed lines part.Relocatable p ≡ false

-- A line that places some words where the last words end, or none.
pub record ComesNext (line : AssembledLine) (at : ℕ) (more : List ℕ) : Type 0 where
  pub words : outcome_words line.outcome ≡ Some more
  pub place : (is_empty more || is_at at line.at) ≡ true

-- it has no words, or is there
abbrev pub IsAt : Location → ℕ → List ℕ → Type 0
IsAt place at more = (length more ≡ 0) ⊎ ((place.part ≡ part.Absolute) × (place.number ≡ at))

is_there : (place : Location) (at : ℕ) (found : Part) → place.part ≡ found → is_absolute found ≡ true → place.number ≡ at → (place.part ≡ part.Absolute) × (place.number ≡ at)
is_there place at part.Absolute e absolute same = (e, same)
is_there place at _ e absolute same = cc absolute

is_at_by : (place : Location) (at : ℕ) (more : List ℕ) → (is_empty more || is_at at place) ≡ true → IsAt place at more
is_at_by place at [] e = inl refl
is_at_by place at (word ∷ words) e =
    let b = both (is_absolute place.part) _ e in
    inr (is_there place at place.part refl b.0 (grind (arith, nat_tests, b.1)))

module _ (line : AssembledLine) (at : ℕ) (more : List ℕ) (next : ComesNext line at more) where
  pub size : bytes_in line.outcome ≡ 2 * length more
  size = placed_size line.outcome more next.words

  abbrev among : ℕ → Bool
  among p = nat_le line.at.number p && nat_lt p (line.at.number + bytes_in line.outcome)

  among_is : (p : ℕ) (part : Part) → covers line part p ≡ true → (line.at.number ≤ p) × (p < line.at.number + 2 * length more)
  among_is p part e =
      let b = both (same_part line.at.part part && nat_le line.at.number p) _ e in
      let c = both (same_part line.at.part part) _ b.0 in
      (grind (arith, nat_tests, c.1), grind (arith, nat_tests, b.1, size))

  pub place_is : IsAt line.at at more
  place_is = is_at_by line.at at more next.place

  -- a place that the line covers
  record Covered (p : ℕ) : Type 0 where
    part : line.at.part ≡ part.Absolute
    number : line.at.number ≡ at
    after : at ≤ p
    within : p < at + 2 * length more

  covered_by : (p : ℕ) → (line.at.number ≤ p) × (p < line.at.number + 2 * length more) → IsAt line.at at more → Covered p
  covered_by p inside (inl none) = absurd (omega (arith, inside.0, inside.1, none))
  covered_by p inside (inr there) =
      record { part = there.0; number = there.1; after = omega (arith, inside.0, there.1); within = omega (arith, inside.1, there.1) }

  covered : (p : ℕ) (part : Part) → covers line part p ≡ true → Covered p
  covered p part e = covered_by p (among_is p part e) place_is

  -- no place of relocatable code is covered
  not_relocatable : (p : ℕ) → covers line part.Relocatable p ≡ false
  not_relocatable p = false_from_ne_true _ (λ e.
      let c = covered p part.Relocatable e in
      let same : same_part line.at.part part.Relocatable ≡ false = ap (λ (found : Part). same_part found part.Relocatable) c.part in
      let also = both (same_part line.at.part part.Relocatable) _ (both (same_part line.at.part part.Relocatable && nat_le line.at.number p) _ e).0 in
      cc (same, also.0))

  -- nor one after the words
  not_after : (p : ℕ) → at + 2 * length more ≤ p → covers line part.Absolute p ≡ false
  not_after p le = false_from_ne_true _ (λ e. omega (arith, le, (covered p part.Absolute e).within))

  -- a place from there on that is not covered is after the words
  after_by : (p : ℕ) → covers line part.Absolute p ≡ false → at ≤ p → IsAt line.at at more → at + 2 * length more ≤ p
  after_by p e le (inl none) = omega (arith, le, none)
  after_by p e le (inr there) =
      let same : same_part line.at.part part.Absolute ≡ true = ap (λ (found : Part). same_part found part.Absolute) there.0 in
      let rest : among p ≡ false = sym (ap (λ b. b && nat_le line.at.number p && nat_lt p (line.at.number + bytes_in line.outcome)) same) ∙ e in
      grind (arith, nat_tests, rest, size, le, there.1)

  module _ (references : List Reference) (lines : List AssembledLine) (from : ℕ) (words : List ℕ) (ends : at ≡ from + 2 * length words) (hold : HoldWords references lines from words) where
    absolute_more : (p : ℕ) → content_at references (line ∷ lines) part.Absolute p ≡ content_of from (words ++ more) p
    absolute_more p = by (covers line part.Absolute p) refl
      where
        apart : covers line part.Absolute p ≡ false → (b : Bool) → nat_le at p ≡ b → content_of from words p ≡ content_of from (words ++ more) p
        apart e true le =
            let after = after_by p e (grind (arith, nat_tests, le)) place_is in
            sym (content_past from words more p (omega (arith, ends, after)))
        apart e false le =
            let before : p < from + 2 * length words = grind (arith, nat_tests, le, ends) in
            sym (content_before from words more p before)

        by : (b : Bool) → covers line part.Absolute p ≡ b → content_at references (line ∷ lines) part.Absolute p ≡ content_of from (words ++ more) p
        by true e =
            let c = covered p part.Absolute e in
            let same : p - line.at.number ≡ p - (from + 2 * length words) = ap (λ n. p - n) (c.number ∙ ends) in
            chosen _ true _ _ e
            ∙ (ap (λ items. slice_get items (p - line.at.number)) (placed_contents _ line.at line.outcome more next.words c.part)
            ∙ (ap (slice_get (cells more)) same ∙ sym (content_there from words more p (omega (arith, ends, c.after)))))
        by false e = chosen _ false _ _ e ∙ (hold.absolute p ∙ apart e (nat_le at p) refl)

    pub hold_more : HoldWords references (line ∷ lines) from (words ++ more)
    hold_more = record {
      absolute = absolute_more;
      relocatable = λ p. rw (not_relocatable p) (hold.relocatable p);
      free = λ p le.
          let total = length-append words more in
          rw (not_after p (omega (arith, le, total, ends))) (hold.free p (omega (arith, le, total, ends)));
      none = λ p. rw (not_relocatable p) (hold.none p);
    }

pub any_none : (f : ℕ → Bool) (from n : ℕ) → ((p : ℕ) → from ≤ p → p < from + n → f p ≡ false) → any_from f from n ≡ false
any_none f from zero free = refl
any_none f from (suc n) free =
    rw (free from (omega arith) (omega arith))
    (any_none f (from + 1) n (λ p le lt. free p (omega (arith, le)) (omega (arith, lt))))

count_none : (f : ℕ → Bool) (first n : ℕ) → ((w : ℕ) → f w ≡ false) → count_from f first n ≡ 0
count_none f first zero none = refl
count_none f first (suc n) none =
    let here = ap one_if (none first) in omega (arith, here, count_none f (first + 1) n none)

one_at_most : (b : Bool) → one_if b ≤ 1
one_at_most true = omega arith
one_at_most false = omega arith

count_most : (f : ℕ → Bool) (first n : ℕ) → count_from f first n ≤ n
count_most f first zero = omega arith
count_most f first (suc n) = omega (arith, one_at_most (f first), count_most f (first + 1) n)

none_counted : (lines : List AssembledLine) → ((p : ℕ) → is_placed lines part.Relocatable p ≡ false) → words_in lines part.Relocatable ≡ 0
none_counted lines none =
    count_none (has_word lines part.Relocatable) 0 part_words
    (λ w. ap (λ b. b || is_placed lines part.Relocatable (2 * w + 1)) (none (2 * w)) ∙ none (2 * w + 1))

few : (relocatable absolute most : ℕ) → relocatable ≡ 0 → absolute ≤ most → relocatable + absolute ≤ most
few relocatable absolute most none le = omega (arith, none, le)

-- a number of words has room
pub few_words : (lines : List AssembledLine) → ((p : ℕ) → is_placed lines part.Relocatable p ≡ false) → word_count lines ≤ 32768
unfolding part_words
few_words lines none = few _ _ _ (none_counted lines none) (count_most (has_word lines part.Absolute) 0 part_words)
