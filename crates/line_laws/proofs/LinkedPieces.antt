-- The pieces of words that come one after the other, and their linked memory.
use Rattle.std.proofs.Common.{◌≡◌, ℕ, zero, suc, ◌+◌, ◌-◌, ◌*◌, ◌/◌, ◌%◌, ◌<◌, ◌≤◌, Bool, true, false, cond, List, []}
use Rattle.std.proofs.Common.{◌∷◌, ◌++◌, Some, None, Ok, length, refl, sym, ap, ◌∙◌, arith, nat_cmp, eqb-true}
use Rattle.std.specs.Prelude.{Option, ◌&&◌, not, ◌==◌, nat_le, if◌then◌else◌, map, slice_get}
use Rattle.std.specs.List.{list_all}
use Rattle.std.proofs.lemmas.Bool.Decides.{nat_tests}
use Rattle.std.proofs.lemmas.Cmp.{nat_cmp_total}
use Rattle.std.specs.Ordering.{eq_by_cmp}
use Rattle.std.specs.Cmp.{unsigned_tied}
use Rattle.std.specs.FinMap.{find, get, from_entries, get-from_entries}
use Rattle.std.specs.FinMap.Entries.{find-append}
use Rattle.std.proofs.lemmas.List.{append-nil}
use Rattle.std.proofs.Common.{append_assoc}
use Rattle.object_defs.specs.declared.spot.Spot.{Spot}
use Rattle.object_defs.specs.declared.spot.Spot.TheVariants as spot
use Rattle.object_defs.specs.declared.spot.Piece.{Piece}
use Rattle.object_defs.specs.Modules.{Module}
use Rattle.asm_defs.specs.declared.content.Content.{Content}
use Rattle.asm_defs.specs.declared.location.Part.{Part}
use Rattle.asm_defs.specs.declared.location.Part.TheVariants as part
use Rattle.asm_defs.specs.Memory.{AssembledLine, content_at, spot_by, joined, pieces, pieces_at, pieces_from, part_words}
use Rattle.link_defs.specs.Placing.{sections, first_base, word_at, section_words, value_of}
use Rattle.link_defs.specs.First.{first, first_after}
use Rattle.link_defs.specs.LinkedMemory.{LinkedMemory, linked, linked_parts, filled, is_outside, is_taken, is_loadable}
use Rattle.line_laws.specs.KnownLines.{pieces_of}
use Rattle.line_laws.proofs.PlacedWords.{HoldWords, content_of, cells, cells_length}
use Rattle.line_laws.proofs.Small.{both, get_past}

abbrev piece_at : Part → ℕ → Spot → Piece
piece_at found w word = record { at = spot_by found (2 * w); word = word }

module _ (f : ℕ → Option Content) where
  pub pieces_split : (found : Part) (first m n : ℕ) → pieces_from f found first (m + n) ≡ pieces_from f found first m ++ pieces_from f found (first + m) n
  pieces_split found first zero n =
      let same : first ≡ first + 0 = omega arith in
      let sum : 0 + n ≡ n = omega arith in
      ap (pieces_from f found first) sum ∙ ap (λ first. pieces_from f found first n) same
  pieces_split found first (suc m) n =
      let sum : suc m + n ≡ suc (m + n) = omega arith in
      let next : first + 1 + m ≡ first + suc m = omega arith in
      rw (sum, ← next, pieces_split found (first + 1) m n, append_assoc) refl

  pub at_word : (found : Part) (w : ℕ) (high low : Option Content) → f (2 * w) ≡ high → f (2 * w + 1) ≡ low → pieces_at f found w ≡ map (piece_at found w) (joined high low)
  at_word found w high low a b = rw (a, b) refl

  pub none_from : (found : Part) (first n : ℕ) → ((p : ℕ) → 2 * first ≤ p → p < 2 * (first + n) → f p ≡ None) → pieces_from f found first n ≡ []
  none_from found first zero none = refl
  none_from found first (suc n) none =
      rw (none (2 * first) (omega arith) (omega arith), none (2 * first + 1) (omega arith) (omega arith))
      (none_from found (first + 1) n (λ p le lt. none p (omega (arith, le)) (omega (arith, lt))))

-- what comes after the first word
content_after : (a : ℕ) (word : ℕ) (words : List ℕ) (p : ℕ) → 2 * (a + 1) ≤ p → content_of (2 * a) (word ∷ words) p ≡ content_of (2 * (a + 1)) words p
content_after a word words p le =
    let here : nat_le (2 * a) p ≡ true = grind (arith, nat_tests, le) in
    let there : nat_le (2 * (a + 1)) p ≡ true = grind (arith, nat_tests, le) in
    let place : p - 2 * a ≡ suc (suc (p - 2 * (a + 1))) = omega (arith, le) in
    rw (here, there, place) refl

content_first : (a : ℕ) (word : ℕ) (words : List ℕ) (k p : ℕ) → p ≡ 2 * a + k → content_of (2 * a) (word ∷ words) p ≡ slice_get (cells (word ∷ words)) k
content_first a word words k p e =
    let here : nat_le (2 * a) p ≡ true = grind (arith, nat_tests, e) in
    let place : p - 2 * a ≡ k = omega (arith, e) in
    rw (here, place) refl

pub pieces_there : (f : ℕ → Option Content) (a : ℕ) (words : List ℕ) → ((p : ℕ) → 2 * a ≤ p → f p ≡ content_of (2 * a) words p)
    → pieces_from f part.Absolute a (length words) ≡ pieces_of (2 * a) words
pieces_there f a [] same = refl
pieces_there f a (word ∷ words) same =
    let high = same (2 * a) (omega arith) ∙ content_first a word words 0 (2 * a) (omega arith) in
    let low = same (2 * a + 1) (omega arith) ∙ content_first a word words 1 (2 * a + 1) refl in
    let next : 2 * (a + 1) ≡ 2 * a + 2 = omega arith in
    ap (λ pieces. pieces ++ pieces_from f part.Absolute (a + 1) (length words)) (at_word f part.Absolute a _ _ high low)
    ∙ (ap (λ rest. record { at = spot.Absolute (2 * a); word = spot.Absolute word } ∷ rest)
    (pieces_there f (a + 1) words (λ p le. same p (omega (arith, le)) ∙ content_after a word words p le))
    ∙ ap (λ from. record { at = spot.Absolute (2 * a); word = spot.Absolute word } ∷ pieces_of from words) next)

pub content_none : (from : ℕ) (words : List ℕ) (p : ℕ) → from + 2 * length words ≤ p → content_of from words p ≡ None
content_none from words p le =
    let size = cells_length words in
    let here : nat_le from p ≡ true = grind (arith, nat_tests, le) in
    rw here (get_past (cells words) (p - from) (omega (arith, le, size)))

pub content_not_yet : (from : ℕ) (words : List ℕ) (p : ℕ) → p < from → content_of from words p ≡ None
content_not_yet from words p lt =
    let here : nat_le from p ≡ false = grind (arith, nat_tests, lt) in rw here refl

pub nothing_before : (front pieces : List Piece) → front ≡ [] → front ++ pieces ≡ pieces
nothing_before front pieces e = ap (λ front. front ++ pieces) e

nothing_after : (pieces rest : List Piece) → rest ≡ [] → pieces ++ rest ≡ pieces
nothing_after pieces rest e = rw e (append-nil pieces)

all_pieces : (f : ℕ → Option Content) (a rest most : ℕ) (words : List ℕ) → a + (length words + rest) ≡ most
    → ((p : ℕ) → f p ≡ content_of (2 * a) words p) → pieces_from f part.Absolute 0 most ≡ pieces_of (2 * a) words
all_pieces f a rest most words size same =
    let zero_more : 0 + a ≡ a = omega arith in
    ap (pieces_from f part.Absolute 0) (sym size)
    ∙ (pieces_split f part.Absolute 0 a (length words + rest)
    ∙ (nothing_before _ _ (none_from f part.Absolute 0 a (λ p le lt. same p ∙ content_not_yet (2 * a) words p (omega (arith, lt))))
    ∙ (ap (λ first. pieces_from f part.Absolute first (length words + rest)) zero_more
    ∙ (pieces_split f part.Absolute a (length words) rest
    ∙ (nothing_after _ _ (none_from f part.Absolute (a + length words) rest (λ p le lt. same p ∙ content_none (2 * a) words p (omega (arith, le))))
    ∙ pieces_there f a words (λ p le. same p))))))

-- the pieces of lines that hold words
pub pieces_held : (lines : List AssembledLine) (a : ℕ) (words : List ℕ) → HoldWords [] lines (2 * a) words → a + length words ≤ 32768
    → pieces [] lines ≡ pieces_of (2 * a) words
unfolding part_words
pieces_held lines a words hold le =
    let sum : a + (length words + (32768 - (a + length words))) ≡ 32768 = omega (arith, le) in
    nothing_before _ _ (none_from (content_at [] lines part.Relocatable) part.Relocatable 0 32768 (λ p from to. hold.relocatable p))
    ∙ all_pieces (content_at [] lines part.Absolute) a (32768 - (a + length words)) 32768 words sum hold.absolute

-- the words of such pieces after their addresses
abbrev pub pairs_of : ℕ → List ℕ → List (ℕ × ℕ)
pairs_of from [] = []
pairs_of from (word ∷ words) = (from, word) ∷ pairs_of (from + 2) words

abbrev pub are_words : List ℕ → Bool
are_words words = list_all (λ word. nat_le word 0xFFFF) words

pub pairs_there : (base from : ℕ) (words : List ℕ) → are_words words ≡ true → map (word_at base) (pieces_of from words) ≡ pairs_of from words
pairs_there base from [] fit = refl
pairs_there base from (word ∷ words) fit =
    let b = both (nat_le word 0xFFFF) (are_words words) fit in
    let same : word % 65536 ≡ word = grind (arith, nat_tests, b.0) in
    rw (same, pairs_there base (from + 2) words b.1) refl

-- the words of low memory expansion
loadable : (a : ℕ) → 0x1000 ≤ a → a < 0x2000 → is_loadable (2 * a) ≡ true
loadable a from to = let even : 2 * a % 2 ≡ 0 = omega arith in grind (arith, nat_tests, even, from, to)

none_outside : (before : List (ℕ × ℕ)) (a : ℕ) (words : List ℕ) → 0x1000 ≤ a → a + length words ≤ 0x2000 → first_after is_outside before (pairs_of (2 * a) words) ≡ None
none_outside before a [] from to = refl
none_outside before a (word ∷ words) from to =
    let inside : not (is_loadable (2 * a)) ≡ false = ap not (loadable a from (omega (arith, to))) in
    let next : 2 * (a + 1) ≡ 2 * a + 2 = omega arith in
    rw (inside, ← next)
    (none_outside (before ++ (2 * a, word) ∷ []) (a + 1) words (omega (arith, from)) (omega (arith, to)))

not_tied : (at other : ℕ) → other < at → eq_by_cmp nat_cmp at other ≡ false
not_tied at other lt = grind (arith, nat_tests)

pub none_taken : (before : List (ℕ × ℕ)) (from : ℕ) (words : List ℕ) → ((at : ℕ) → from ≤ at → find nat_cmp at before ≡ None) → first_after is_taken before (pairs_of from words) ≡ None
none_taken before from [] free = refl
none_taken before from (word ∷ words) free =
    let none : find nat_cmp from before ≡ None = free from (omega arith) in
    let next : (at : ℕ) → from + 2 ≤ at → find nat_cmp at (before ++ (from, word) ∷ []) ≡ None = λ at le.
    find-append nat_cmp nat_cmp_total before from word at none
    ∙ (ap (λ tied. cond tied (Some word) (find nat_cmp at before)) (not_tied at from (omega (arith, le))) ∙ free at (omega (arith, le))) in
    rw none (none_taken (before ++ (from, word) ∷ []) (from + 2) words next)

pub all_filled : (from : ℕ) (words : List ℕ) → map (filled [] []) (pairs_of from words) ≡ pairs_of from words
all_filled from [] = refl
all_filled from (word ∷ words) = ap (λ rest. (from, word) ∷ rest) (all_filled (from + 2) words)

abbrev pub memory_of : ℕ → List ℕ → ℕ → LinkedMemory
memory_of from words entry = record { words = from_entries (pairs_of from words); names = []; entry = entry }

parts_linked : (a : ℕ) (words : List ℕ) (entry : ℕ) → 0x1000 ≤ a → a + length words ≤ 0x2000
    → linked_parts [] (pairs_of (2 * a) words) [] (entry ∷ []) ≡ Ok (memory_of (2 * a) words entry)
parts_linked a words entry from to =
    rw (none_outside [] a words from to, none_taken [] (2 * a) words (λ at le. refl), all_filled (2 * a) words) refl

pub append_empty : (pairs : List (ℕ × ℕ)) → pairs ++ [] ≡ pairs
append_empty pairs = append-nil pairs

-- a module of such pieces alone is linked
pub module_linked : (m : Module) (a : ℕ) (words : List ℕ) (entry : Spot) → m.pieces ≡ pieces_of (2 * a) words → m.defs ≡ [] → m.refs ≡ [] → m.entry ≡ Some entry
    → are_words words ≡ true → 0x1000 ≤ a → a + length words ≤ 0x2000
    → linked (m ∷ []) ≡ Ok (memory_of (2 * a) words (value_of first_base entry))
unfolding linked
module_linked m a words entry pieces defs refs entered fit from to =
    let own : section_words (sections (m ∷ [])) ≡ pairs_of (2 * a) words =
    append_empty (map (word_at first_base) m.pieces) ∙ (ap (map (word_at first_base)) pieces ∙ pairs_there first_base (2 * a) words fit) in
    rw (defs, refs, entered, own) (parts_linked a words (value_of first_base entry) from to)

-- the word of such memory at an address
pub word_found : (from : ℕ) (words : List ℕ) (entry : ℕ) (at : ℕ) → get (memory_of from words entry).words at ≡ find nat_cmp at (pairs_of from words)
word_found from words entry at = get-from_entries nat_cmp_total (pairs_of from words) at

abbrev is_assembled_at : ℕ → ℕ → Bool
is_assembled_at from at = nat_le from at && ((at - from) % 2 == 0)

absent : (b : Bool) (k : ℕ) → ◌≡◌ {A = Option ℕ} None (if b then slice_get [] k else None)
absent true k = refl
absent false k = refl

pub pair_found : (from : ℕ) (words : List ℕ) (at : ℕ) → find nat_cmp at (pairs_of from words) ≡ (if is_assembled_at from at then slice_get words ((at - from) / 2) else None)
pair_found from [] at = absent (is_assembled_at from at) ((at - from) / 2)
pair_found from (word ∷ words) at = by (eq_by_cmp nat_cmp at from) refl (pair_found (from + 2) words at)
  where
    later : (at ≡ from → ⊥) → (b c : Bool) → is_assembled_at (from + 2) at ≡ b → is_assembled_at from at ≡ c
        → (if b then slice_get words ((at - (from + 2)) / 2) else None) ≡ (if c then slice_get (word ∷ words) ((at - from) / 2) else None)
    later apart true true x y =
        let bound : from + 2 ≤ at = grind (arith, nat_tests, x) in
        let place : (at - from) / 2 ≡ suc ((at - (from + 2)) / 2) = omega (arith, bound) in
        sym (ap (slice_get (word ∷ words)) place)
    later apart false false x y = refl
    later apart true false x y = let wrong : is_assembled_at from at ≡ true = grind (arith, nat_tests, x) in cc (wrong, y)
    later apart false true x y =
        let wrong : is_assembled_at (from + 2) at ≡ true = grind (arith, nat_tests, y, apart) in cc (wrong, x)

    by : (tied : Bool) → eq_by_cmp nat_cmp at from ≡ tied → find nat_cmp at (pairs_of (from + 2) words) ≡ (if is_assembled_at (from + 2) at then slice_get words ((at - (from + 2)) / 2) else None)
        → cond tied (Some word) (find nat_cmp at (pairs_of (from + 2) words)) ≡ (if is_assembled_at from at then slice_get (word ∷ words) ((at - from) / 2) else None)
    by true e ih =
        let same : at ≡ from = eqb-true at from (sym (unsigned_tied at from) ∙ e) in
        let here : is_assembled_at from at ≡ true = grind (arith, nat_tests, same) in
        let place : (at - from) / 2 ≡ 0 = omega (arith, same) in
        rw (here, place) refl
    by false e ih =
        let apart : at ≡ from → ⊥ = λ same. let tied : eq_by_cmp nat_cmp at from ≡ true = unsigned_tied at from ∙ grind (arith, nat_tests, same) in cc (tied, e) in
        ih ∙ later apart (is_assembled_at (from + 2) at) (is_assembled_at from at) refl refl
