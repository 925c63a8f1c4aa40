-- What a table holds after one line more.
use Rattle.std.proofs.Common.{◌≡◌, ℕ, zero, suc, ◌+◌, ◌-◌, ◌*◌, ◌<◌, ◌≤◌, ◌≢◌, Bool, true, false, ◌&&◌, ◌||◌, List, [], ◌∷◌, Some, None, length, refl, sym, ap}
use Rattle.std.proofs.Common.{◌∙◌, arith}
use Rattle.std.specs.Prelude.{Option, is_some, nat_le, nat_lt, nat_eq, if◌then◌else◌, slice_get, slice_set}
use Rattle.std.proofs.lemmas.Bool.Decides.{nat_tests}
use Rattle.std.proofs.lemmas.List.{get_or-set_same, get_or-set_other, length-set, length-map}
use Rattle.std.proofs.lemmas.Option.{slice_get-get_or}
use Rattle.expression_defs.specs.Expression.{Value}
use Rattle.object_defs.specs.Modules.{Reference}
use Rattle.asm_defs.specs.declared.content.Content.{Content}
use Rattle.asm_defs.specs.declared.content.Content.TheVariants.{Byte, Second}
use Rattle.asm_defs.specs.declared.location.Part.{Part}
use Rattle.asm_defs.specs.declared.location.Part.TheVariants as part
use Rattle.asm_defs.specs.declared.location.Location.{Location}
use Rattle.asm_defs.specs.SecondChecks.{Outcome, Nothing, Words, Bytes, Entry}
use Rattle.asm_defs.specs.Memory.{AssembledLine, same_part, covers, is_placed, has_word, words_in, any_from, part_words, bytes_in, after_word}
use Rattle.asm_defs.proofs.PlacedWords.{word_contents}
use Rattle.asm_defs.specs.Memory.{spot_by, contents_by, contents, content_at, references_of, is_placed_in}
use Rattle.module_image.specs.Tables.{cell, put_from, is_taken, is_taken_word, words_taken}
use Rattle.module_image.proofs.TableLaws.{count_same}

-- the bytes of words are twice as many
words_length : (part : Part) (references : List Reference) (at : ℕ) (words : List Value) → length (word_contents part references at words) ≡ 2 * length words
words_length part references at [] = refl
words_length part references at (word ∷ words) =
    omega (arith, words_length part (after_word references (spot_by part at) word) (at + 2) words)

pub contents_length : (at : Location) (references : List Reference) (outcome : Outcome) → length (contents_by at references outcome) ≡ bytes_in outcome
contents_length at references Nothing = refl
contents_length at references (Words words) = words_length at.part references at.number words
contents_length at references (Bytes bytes) = length-map bytes Byte
contents_length at references (Entry entry) = refl

-- a place among some bytes from a place on
abbrev pub is_among : ℕ → ℕ → ℕ → Bool
is_among from count p = nat_le from p && nat_lt p (from + count)

empty : (from p : ℕ) → is_among from 0 p ≡ false
empty from p = grind (arith, nat_tests)

first : (from count p : ℕ) → p ≡ from → is_among from (suc count) p ≡ true
first from count p e = grind (arith, nat_tests)

not_first : (from count p : ℕ) → p ≡ from → is_among (from + 1) count p ≡ false
not_first from count p e = grind (arith, nat_tests)

others : (from count p : ℕ) (b : Bool) → p ≢ from → is_among (from + 1) count p ≡ b → is_among from (suc count) p ≡ b
others from count p true ne e = grind (arith, nat_tests)
others from count p false ne e = grind (arith, nat_tests)

pub chosen : {A : Type 0} (d b : Bool) (this that : A) → d ≡ b → (if d then this else that) ≡ (if b then this else that)
chosen d b this that e = ap (λ c. if c then this else that) e

-- what is at a place after a first byte and others
put_step : (cells after : List (Option Content)) (from p : ℕ) (content : Content) (put : List Content) (found : Option Content)
    → found ≡ (if is_among (from + 1) (length put) p then slice_get put (p - (from + 1)) else cell after p)
    → (p ≡ from → cell after p ≡ Some content) → (p ≢ from → cell after p ≡ cell cells p)
    → (b d : Bool) → nat_eq p from ≡ b → is_among (from + 1) (length put) p ≡ d
    → found ≡ (if is_among from (suc (length put)) p then slice_get (content ∷ put) (p - from) else cell cells p)
put_step cells after from p content put found ih same other true d e f =
    let at : p ≡ from = grind (arith, nat_tests, e) in
    let front : p - from ≡ 0 = omega (arith, at) in
    rw (first from (length put) p at, front) ((rw (not_first from (length put) p at) at ih) ∙ same at)
put_step cells after from p content put found ih same other false true e f =
    let ne : p ≢ from = λ at. let here : nat_eq p from ≡ true = grind (arith, nat_tests, at) in cc (here, e) in
    let gt : from + 1 ≤ p = grind (arith, nat_tests, f) in
    let next : p - from ≡ suc (p - (from + 1)) = omega (arith, gt) in
    rw (others from (length put) p true ne f, next) (rw f at ih)
put_step cells after from p content put found ih same other false false e f =
    let ne : p ≢ from = λ at. let here : nat_eq p from ≡ true = grind (arith, nat_tests, at) in cc (here, e) in
    rw (others from (length put) p false ne f) ((rw f at ih) ∙ other ne)

-- what is at a place after some bytes
pub put_cell : (cells : List (Option Content)) (from : ℕ) (put : List Content) (p : ℕ) → from + length put ≤ length cells
    → cell (put_from cells from put) p ≡ (if is_among from (length put) p then slice_get put (p - from) else cell cells p)
put_cell cells from [] p le = sym (chosen (is_among from 0 p) false None (cell cells p) (empty from p))
put_cell cells from (content ∷ put) p le =
    let after = slice_set cells from (Some content) in
    let size : length after ≡ length cells = length-set cells from (Some content) in
    put_step cells after from p content put _
    (put_cell after (from + 1) put p (omega (arith, le, size)))
    (λ at. ap (cell after) at ∙ get_or-set_same cells from (Some content) None (omega (arith, le)))
    (λ ne. get_or-set_other cells from p (Some content) None ne)
    (nat_eq p from) (is_among (from + 1) (length put) p) refl refl

pub any_same : (f g : ℕ → Bool) (from n : ℕ) → ((w : ℕ) → f w ≡ g w) → any_from f from n ≡ any_from g from n
any_same f g from zero same = refl
any_same f g from (suc n) same = rw (same from, any_same f g (from + 1) n same) refl

is_there : {A : Type 0} (items : List A) (at : ℕ) (item : A) → at < length items → is_some (slice_get items at) ≡ true
is_there items at item lt = ap is_some (slice_get-get_or items at item lt)

module _ (unused : List Reference) where
  some_by : (line : AssembledLine) (before : List AssembledLine) (part : Part) (p : ℕ) (b : Bool) → covers line part p ≡ b
      → is_some (content_at unused before part p) ≡ is_placed before part p
      → is_some (content_at unused (line ∷ before) part p) ≡ is_placed (line ∷ before) part p
  some_by line before part p true e ih =
      let size = contents_length line.at (references_of unused before) line.outcome in
      let within : p - line.at.number < length (contents unused before line) = grind (arith, nat_tests, e, size) in
      rw e (is_there (contents unused before line) (p - line.at.number) Second within)
  some_by line before part p false e ih = rw e ih

  pub content_some : (lines : List AssembledLine) (part : Part) (p : ℕ) → is_some (content_at unused lines part p) ≡ is_placed lines part p
  content_some [] part p = refl
  content_some (line ∷ before) part p = some_by line before part p (covers line part p) refl (content_some before part p)

  module _ (lines : List AssembledLine) (part : Part) (cells : List (Option Content)) (holds : (p : ℕ) → cell cells p ≡ content_at unused lines part p) where
    taken_is : (p : ℕ) → is_taken cells p ≡ is_placed lines part p
    taken_is p = ap is_some (holds p) ∙ content_some lines part p

    pub any_is : (from n : ℕ) → any_from (is_taken cells) from n ≡ any_from (is_placed lines part) from n
    any_is from n = any_same _ _ from n taken_is

    word_is : (w : ℕ) → is_taken_word cells w ≡ has_word lines part w
    word_is w = ap (λ b. b || is_taken cells (2 * w + 1)) (taken_is (2 * w)) ∙ ap (λ b. is_placed lines part (2 * w) || b) (taken_is (2 * w + 1))

    pub words_are : words_taken cells ≡ words_in lines part
    unfolding words_taken part_words
    words_are = count_same (has_word lines part) (is_taken_word cells) 0 32768 (λ w le. word_is w)

  module _ (line : AssembledLine) (earlier : List AssembledLine) (part : Part) (old : List (Option Content)) (holds : (p : ℕ) → cell old p ≡ content_at unused earlier part p) where
    -- a line of another part
    pub holds_still : same_part line.at.part part ≡ false → (p : ℕ) → cell old p ≡ content_at unused (line ∷ earlier) part p
    holds_still other p = rw other (holds p)

    -- a line of the part
    pub holds_more : same_part line.at.part part ≡ true → length old ≡ 65536 → line.at.number + bytes_in line.outcome ≤ 65536
        → (p : ℕ) → cell (put_from old line.at.number (contents unused earlier line)) p ≡ content_at unused (line ∷ earlier) part p
    holds_more same full within p =
        let put = contents unused earlier line in
        let size : length put ≡ bytes_in line.outcome = contents_length line.at (references_of unused earlier) line.outcome in
        put_cell old line.at.number put p (omega (arith, full, within, size)) ∙ rw (size, same, holds p) refl

-- nothing is placed in the part of dummy lines
never : (found : Part) → same_part found part.Dummy ≡ false
never part.Relocatable = refl
never _ = refl

dummy_free : (lines : List AssembledLine) (p : ℕ) → is_placed lines part.Dummy p ≡ false
dummy_free [] p = refl
dummy_free (line ∷ before) p = rw (never line.at.part) (dummy_free before p)

any_none : (f : ℕ → Bool) (from n : ℕ) → ((w : ℕ) → f w ≡ false) → any_from f from n ≡ false
any_none f from zero free = refl
any_none f from (suc n) free = ap (λ b. b || any_from f (from + 1) n) (free from) ∙ any_none f (from + 1) n free

pub nothing_overlaps : (lines : List AssembledLine) (at : Part) (from n : ℕ) → at ≡ part.Dummy → any_from (is_placed lines at) from n ≡ false
nothing_overlaps lines at from n e = ap (λ (found : Part). any_from (is_placed lines found) from n) e ∙ any_none (is_placed lines part.Dummy) from n (dummy_free lines)

abbrev pub are_same : Part → Part → Type 0
are_same a b = a ≡ b

pub part_same : (a b : Part) → same_part a b ≡ true → are_same a b
part_same part.Relocatable part.Relocatable e = refl
part_same part.Absolute part.Absolute e = refl
part_same _ _ e = cc e

pub part_placed : (a b : Part) → same_part a b ≡ true → is_placed_in a ≡ true
part_placed part.Dummy b e = cc e
part_placed _ b e = refl

-- bytes that are put after lines
module _ (references : List Reference) (earlier : List AssembledLine) (line : AssembledLine) (at : Location) (given : List Content) (is_at : line.at ≡ at) (is_given : is_placed_in at.part ≡ true → given ≡ contents references earlier line) (within : at.number + length given ≤ 65536) where
  size_is : is_placed_in at.part ≡ true → length given ≡ bytes_in line.outcome
  size_is placed = ap length (is_given placed) ∙ contents_length line.at (references_of references earlier) line.outcome

  pub part_holds : (part : Part) (b : Bool) (old new : List (Option Content)) → same_part at.part part ≡ b → length old ≡ 65536
      → ((p : ℕ) → cell old p ≡ content_at references earlier part p) → new ≡ (if b then put_from old at.number given else old)
      → (p : ℕ) → cell new p ≡ content_at references (line ∷ earlier) part p
  part_holds part true old new same full holds is p =
      let placed = part_placed at.part part same in
      let number : at.number ≡ line.at.number = ap (λ (at : Location). at.number) (sym is_at) in
      let put : new ≡ put_from old line.at.number (contents references earlier line) =
      is ∙ (ap (put_from old at.number) (is_given placed) ∙ ap (λ n. put_from old n (contents references earlier line)) number) in
      ap (λ cells. cell cells p) put
      ∙ holds_more references line earlier part old holds (ap (λ (at : Location). same_part at.part part) is_at ∙ same) full
      (omega (arith, within, size_is placed, number)) p
  part_holds part false old new same full holds is p =
      ap (λ cells. cell cells p) is
      ∙ holds_still references line earlier part old holds (ap (λ (at : Location). same_part at.part part) is_at ∙ same) p

  module _ (part : Part) (cells : List (Option Content)) (holds : (p : ℕ) → cell cells p ≡ content_at references earlier part p) where
    pub any_there : at.part ≡ part → is_placed_in part ≡ true
        → any_from (is_taken cells) at.number (length given) ≡ any_from (is_placed earlier line.at.part) line.at.number (bytes_in line.outcome)
    any_there there placed =
        any_is references earlier part cells holds at.number (length given)
        ∙ (ap (any_from (is_placed earlier part) at.number) (size_is (ap is_placed_in there ∙ placed))
        ∙ (ap (λ (found : Part). any_from (is_placed earlier found) at.number (bytes_in line.outcome)) (sym there)
        ∙ ap (λ (at : Location). any_from (is_placed earlier at.part) at.number (bytes_in line.outcome)) (sym is_at)))

  pub any_nowhere : at.part ≡ part.Dummy → false ≡ any_from (is_placed earlier line.at.part) line.at.number (bytes_in line.outcome)
  any_nowhere there =
      sym (nothing_overlaps earlier line.at.part line.at.number (bytes_in line.outcome) (ap (λ (at : Location). at.part) is_at ∙ there))
