-- The listing of memory is assembled to its words, or refused for a jump that wraps; its lines copy no file; and no jump
-- wraps far from the ends of memory.
use Rattle.std.proofs.lemmas.List.{map-append}
use Rattle.std.proofs.Common.{◌≡◌, inr, ℕ, zero, suc, ◌+◌, ◌-◌, ◌*◌, ◌/◌, ◌%◌, ◌<◌, ◌≤◌, true, List, [], ◌∷◌, ◌++◌}
use Rattle.std.proofs.Common.{length, length-drop, drop, refl, ap, sym, subst, ◌∙◌, Ok, Some, None, arith, Bool, false, Option}
use Rattle.std.specs.Prelude.{Result, Option, map, nat_le, slice_index, codes}
use Rattle.std.specs.List.{list_all, concat, AllByRecursion}
use Rattle.std.proofs.lemmas.Bool.Decides.{nat_tests}
use Rattle.source_defs.specs.Refusals.{Refusal, ◌>>=◌}
use Rattle.source_defs.specs.Digits.{hex_word, hex_byte, word_digits}
use Rattle.source_defs.specs.ListedLines.{listed, listing_line}
use Rattle.source_defs.specs.Operands.{operand_texts}
use Rattle.expression_defs.specs.Expression.{Relocatable}
use Rattle.expression_defs.specs.Layout.{assembled_lines}
use Rattle.expression_defs.specs.Symbols.{predefined}
use Rattle.tms_defs.specs.Words.{join, words_of_bytes}
use Rattle.object_defs.specs.Digits.{padded}
use Rattle.object_defs.specs.Modules.{Module}
use Rattle.instruction_defs.specs.Printed.{printed}
use Rattle.instruction_defs.proofs.Windows.{count_within}
use Rattle.asm_defs.specs.declared.causes.AsmCause.{AsmCause}
use Rattle.asm_defs.specs.Directives.{directive}
use Rattle.asm_defs.specs.Statements.{Aorg, statement_in, Statement, operation_statement}
use Rattle.asm_defs.specs.Locations.{Line, start}
use Rattle.asm_defs.specs.FirstChecks.{Checked, parsed, moved, check, line_of, names, set_to, is_end}
use Rattle.asm_defs.specs.SecondChecks.{Nothing, outcome, Outcome}
use Rattle.asm_defs.specs.Modules.{assembled_line, module_by, module_after, module_of_source}
use Rattle.line_laws.proofs.PlacedWords.{HoldWords}
use Rattle.line_laws.proofs.Whole.{none_by, room_still, hold_still}
use Rattle.word_listings.specs.Listing.{memory_listing, lines_from, word_lines, odd_byte_lines}
use Rattle.listed_lines.proofs.DigitLaws.{word_passes}
use Rattle.listed_lines.proofs.OperandLines.{whole, one_text}
use Rattle.listed_lines.proofs.Scans.{all_both}
use Rattle.listed_lines.proofs.LineTexts.{plain_byte, number_fit, Cut, Fit, cut_listed, in_line, listed_in_line, joined, lines_joined, clean, clean_lines}
use Rattle.listed_lines.proofs.LineTexts.{text_of}
use Rattle.word_listings.specs.Modules.{padded_words, module_of_words, wrapping_from, first_wrapping, unless_far}
use Rattle.word_listings.specs.Law.{AreFromEvenAddress, listed_module, WordListingsComeBack, EnteredListingsComeBack}
use Rattle.word_listings.proofs.Slots.{known, word_value}
use Rattle.word_listings.proofs.Instructions.{AreWords, instr_at-signed}
use Rattle.word_listings.proofs.LineBacks.{absolute_at, byte_line, end_text, end_line, IsEntry, words_back, LineBack}
use Rattle.word_listings.proofs.After.{IsAt, Holds, Ends, same_place, texts_from, drop_words, goes_from, Closes}
use Rattle.word_listings.proofs.LastLines.{closes_end, breaks_end, closes_byte, breaks_byte, words_held}
use Rattle.source_defs.specs.Names.{is_word}
use Rattle.std.specs.Prelude.{ℤ, pos, negsuc, FitsSigned, IfSome, if◌then◌else◌}
use Rattle.std.specs.Int.{w8}
use Rattle.std.proofs.lemmas.Int.{ints}
use Rattle.tms_defs.specs.Instructions.{instr_at, HasSignedByte}
use Rattle.tms_defs.specs.declared.instruction.JumpOp.{JumpOp}
use Rattle.tms_defs.specs.declared.instruction.JumpOp.TheVariants.{SBO, SBZ, TB}
use Rattle.tms_defs.specs.declared.instruction.Instr.{Instr}
use Rattle.tms_defs.specs.declared.instruction.Instr.TheVariants.{Jump}
use Rattle.word_listings.specs.Modules.{leads_out, jump_wraps, wraps}
use Rattle.word_listings.specs.Law.{InnerListingsComeBack}

-- ---- the first line

hold_none : (half : ℕ) → HoldWords [] [] (2 * half) []
hold_none half = record {
  absolute = λ p. none_by (nat_le (2 * half) p) (p - 2 * half);
  relocatable = λ p. refl;
  free = λ p le. refl;
  none = λ p. refl;
}

module _ (at : ℕ) (inside : at < 65536) where
  abbrev pub aorg_text : List ℕ
  aorg_text = codes "AORG " ++ hex_word at

  aorg_fit : Fit (codes "AORG") (hex_word at)
  unfolding word_digits
  aorg_fit = number_fit _ _ (omega arith) (omega arith) refl (omega arith) (word_passes plain_byte at refl refl)

  pub aorg_cut : Cut (listed aorg_text) (codes "AORG") (hex_word at)
  unfolding word_digits
  aorg_cut = cut_listed (codes "AORG") (Some (hex_word at)) aorg_fit (inr (omega arith))

  aorg_clean : list_all in_line (listed aorg_text) ≡ true
  aorg_clean = listed_in_line (codes "AORG") (Some (hex_word at)) aorg_fit

  abbrev aorg_found : Checked
  aorg_found = record { label = None; statement = Aorg (hex_word at); move = set_to (absolute_at at) }

  abbrev aorg_line : Line
  aorg_line = line_of 1 aorg_found

  pub aorg_operands : operand_texts (hex_word at) ≡ hex_word at ∷ []
  unfolding word_digits
  aorg_operands = one_text (hex_word at) (omega arith) (word_passes whole at refl refl)

  aorg_check : check [] 1 (listed aorg_text) ≡ Ok aorg_line
  unfolding parsed moved statement_in directive
  aorg_check =
      let in_part : nat_le (at + 0) 65536 ≡ true = grind (arith, nat_tests, inside) in
      rw (aorg_cut.fields_are, aorg_cut.name_is, aorg_cut.field_is, aorg_operands) (rw (word_value known (Relocatable 0) at inside, in_part) refl)

  aorg_is_at : IsAt (aorg_line ∷ []) at
  aorg_is_at = record {
    names_are = refl;
    location_is = same_place (at + 0) at (omega arith);
    refs_are = refl;
    defs_are = refl;
    reached_is = refl;
    title_is = refl;
  }

  aorg_holds : (half : ℕ) → Holds (aorg_line ∷ []) (record { at = start; outcome = Nothing } ∷ []) (2 * half) []
  unfolding outcome
  aorg_holds half = record {
    assembled_are = rw (room_still (record { at = start; outcome = Nothing }) refl [] (2 * half) [] (hold_none half)) refl;
    hold = hold_still (record { at = start; outcome = Nothing }) refl [] (2 * half) [] (hold_none half);
    entry_is = refl;
  }

  from_first : (texts : List (List ℕ)) (answer : Result Module (Refusal AsmCause)) → Ends (aorg_line ∷ []) 2 texts answer → Ends [] 1 (aorg_text ∷ texts) answer
  from_first texts answer ends = record {
    all = ends.all;
    layout_is = rw aorg_check ends.layout_is;
    names_are = ends.names_are;
    module_is = ends.module_is;
  }

-- ---- bytes and words

abbrev pub odd_texts : List ℕ → List (List ℕ)
odd_texts [] = []
odd_texts (byte ∷ []) = (codes "BYTE " ++ hex_byte byte) ∷ []
odd_texts (more ∷ less ∷ rest) = odd_texts rest

abbrev tail_texts : List ℕ → Option ℕ → List (List ℕ)
tail_texts bytes entered = odd_texts bytes ++ end_text entered ∷ []

abbrev pub AllBytes : List ℕ → Type 0
AllBytes bytes = (k : ℕ) → slice_index bytes k < 256

pub are_words : (bytes : List ℕ) → AllBytes bytes → AreWords (words_of_bytes bytes)
are_words (more ∷ less ∷ rest) all zero = let a = all 0 in let b = all 1 in omega (arith, a, b)
are_words (more ∷ less ∷ rest) all (suc k) = are_words rest (λ k. all (suc (suc k))) k
are_words _ all k = omega arith

-- they take no more bytes
pub words_fit : (bytes : List ℕ) → 2 * length (words_of_bytes bytes) ≤ length bytes
words_fit (more ∷ less ∷ rest) = let ih = words_fit rest in omega (arith, ih)
words_fit _ = omega arith

-- the bytes after the words: none, or one
data Rest (bytes : List ℕ) : Type 0 where
  Even : odd_texts bytes ≡ [] → padded_words bytes ≡ words_of_bytes bytes → length bytes ≡ 2 * length (words_of_bytes bytes) → Rest bytes
  Odd : (byte : ℕ) → byte < 256 → odd_texts bytes ≡ (codes "BYTE " ++ hex_byte byte) ∷ [] → padded_words bytes ≡ words_of_bytes bytes ++ join byte 0 ∷ []
      → length bytes ≡ suc (2 * length (words_of_bytes bytes)) → Rest bytes

rest_of : (bytes : List ℕ) → AllBytes bytes → Rest bytes
rest_of [] all = Even refl refl refl
rest_of (byte ∷ []) all = Odd byte (all 0) refl refl refl
rest_of (more ∷ less ∷ rest) all = by (rest_of rest (λ k. all (suc (suc k))))
  where
    by : Rest rest → Rest (more ∷ less ∷ rest)
    by (Even a b c) = Even a (ap (λ words. join more less ∷ words) b) (omega (arith, c))
    by (Odd byte lt a b c) = Odd byte lt a (ap (λ words. join more less ∷ words) b) (omega (arith, c))

module _ (half : ℕ) (bytes : List ℕ) (entered : Option ℕ) (all : AllBytes bytes) (inside : 2 * half < 65536) (fits : 2 * half + length bytes ≤ 65536)
    (is_entry : IsEntry entered) where
  abbrev words : List ℕ
  words = words_of_bytes bytes

  abbrev answer : Result Module (Refusal AsmCause)
  answer = unless_far (first_wrapping 2 (2 * half) words) (module_of_words (2 * half) (padded_words bytes) entered)

  abbrev texts : List (List ℕ)
  texts = texts_from (length words) (2 * half) words ++ tail_texts bytes entered

  all_go : (tails : List (List ℕ)) (whole : Module) (below : 2 * half + 2 * length words ≤ 65536)
      → Closes (2 * half) words tails whole (2 * half + 2 * length words) below
      → Ends (aorg_line (2 * half) inside ∷ []) 2 (texts_from (length words) (2 * half) words ++ tails) (unless_far (first_wrapping 2 (2 * half) words) whole)
  all_go tails whole below closes =
      goes_from (2 * half) words tails whole (2 * half + 2 * length words) below closes (length words) words (2 * half) 2 (aorg_line (2 * half) inside ∷ []) (Ok [])
      (omega arith) (omega arith) refl (are_words bytes all)
      (aorg_is_at (2 * half) inside) (_, aorg_holds (2 * half) inside half) (omega arith, refl)

  by_rest : Rest bytes → Ends (aorg_line (2 * half) inside ∷ []) 2 texts answer
  by_rest (Even none padded size) =
      let below : 2 * half + 2 * length words ≤ 65536 = omega (arith, fits, size) in
      subst (λ odd. Ends (aorg_line (2 * half) inside ∷ []) 2 (texts_from (length words) (2 * half) words ++ (odd ++ end_text entered ∷ [])) answer) (sym none)
      (subst (λ found. Ends (aorg_line (2 * half) inside ∷ []) 2 (texts_from (length words) (2 * half) words ++ (end_text entered ∷ []))
      (unless_far (first_wrapping 2 (2 * half) words) (module_of_words (2 * half) found entered))) (sym padded)
      (all_go (end_text entered ∷ []) (module_of_words (2 * half) words entered) below
      (λ before number after_these. (
        λ earlier holds. closes_end entered is_entry (2 * half + 2 * length words) below before earlier number _ after_these holds.assembled_are
            (words_held earlier half words holds.hold holds.entry_is (omega (arith, below))),
        λ refusal fails. breaks_end entered is_entry (2 * half + 2 * length words) below before number refusal after_these fails,
      ))))
  by_rest (Odd byte lt odd padded size) =
      let below : 2 * half + 2 * length words ≤ 65536 = omega (arith, fits, size) in
      let more : 2 * half + 2 * length words < 65536 = omega (arith, fits, size) in
      subst (λ odd. Ends (aorg_line (2 * half) inside ∷ []) 2 (texts_from (length words) (2 * half) words ++ (odd ++ end_text entered ∷ [])) answer) (sym odd)
      (subst (λ found. Ends (aorg_line (2 * half) inside ∷ []) 2 (texts_from (length words) (2 * half) words ++ ((codes "BYTE " ++ hex_byte byte) ∷ end_text entered ∷ []))
      (unless_far (first_wrapping 2 (2 * half) words) (module_of_words (2 * half) found entered))) (sym padded)
      (all_go ((codes "BYTE " ++ hex_byte byte) ∷ end_text entered ∷ []) (module_of_words (2 * half) (words ++ join byte 0 ∷ []) entered) below
      (λ before number after_these. (
        λ earlier holds. closes_byte entered is_entry (2 * half + 2 * length words) byte more lt half words
            (omega arith) before earlier number after_these holds,
        λ refusal fails. breaks_byte entered is_entry (2 * half + 2 * length words) byte more lt before number refusal after_these fails,
      ))))

  abbrev pub listing_texts : List (List ℕ)
  listing_texts = aorg_text (2 * half) inside ∷ texts

  pub listing_ends : Ends [] 1 listing_texts answer
  listing_ends = from_first (2 * half) inside texts answer (by_rest (rest_of bytes all))

  -- ---- no text has a line feed

  clean_from : (most : ℕ) (words : List ℕ) (at : ℕ) → at % 2 ≡ 0 → at + 2 * length words ≤ 65536 → AreWords words → clean (texts_from most at words) ≡ true
  clean_from (suc most) (word ∷ words) at even below are =
      let there : at < 65536 = omega (arith, below) in
      let back = words_back at there even word words are in
      let count = (printed (word ∷ words) at).count in
      let left = length-drop count (word ∷ words) in
      let within = back.1.within in
      let rest = clean_from most (drop count (word ∷ words)) (at + 2 * count) (omega (arith, even)) (omega (arith, below, left, within)) (drop_words count (word ∷ words) are) in
      rw (back.0.clean, rest) refl
  clean_from _ _ at even below are = refl

  clean_tail : Rest bytes → clean (tail_texts bytes entered) ≡ true
  clean_tail (Even none padded size) = rw (none, (end_line 0 entered is_entry).clean) refl
  clean_tail (Odd byte lt odd padded size) = rw (odd, (byte_line 0 byte lt).clean, (end_line 0 entered is_entry).clean) refl

  below_all : Rest bytes → 2 * half + 2 * length words ≤ 65536
  below_all (Even none padded size) = omega (arith, fits, size)
  below_all (Odd byte lt odd padded size) = omega (arith, fits, size)

  pub clean_all : clean listing_texts ≡ true
  clean_all =
      let rest = rest_of bytes all in
      rw (
        aorg_clean (2 * half) inside,
        all_both _ (texts_from (length words) (2 * half) words) (tail_texts bytes entered) (clean_from (length words) words (2 * half) (omega arith) (below_all rest) (are_words bytes all)) (clean_tail rest),
      )
      refl

-- the lines of a listing by their texts
lines_are : (most : ℕ) (words : List ℕ) (at : ℕ) → lines_from most at words ≡ map listing_line (texts_from most at words)
lines_are (suc most) (word ∷ words) at =
    let front = printed (word ∷ words) at in
    ap (λ rest. listing_line front.text ∷ rest) (lines_are most (drop front.count (word ∷ words)) (at + 2 * front.count))
lines_are _ _ at = refl

odd_are : (bytes : List ℕ) → odd_byte_lines bytes ≡ map listing_line (odd_texts bytes)
odd_are (more ∷ less ∷ rest) = odd_are rest
odd_are _ = refl

-- the lines of a listing with its last
abbrev pub listing_to : ℕ → List ℕ → List ℕ → List (List ℕ)
listing_to at bytes end =
    listing_line (codes "AORG " ++ hex_word at)
    ∷ (word_lines at (words_of_bytes bytes) ++ (odd_byte_lines bytes ++ listing_line end ∷ []))

pub listing_is : (at : ℕ) (bytes end : List ℕ)
    → listing_to at bytes end ≡ map listing_line ((codes "AORG " ++ hex_word at) ∷ (texts_from (length (words_of_bytes bytes)) at (words_of_bytes bytes) ++ (odd_texts bytes ++ end ∷ [])))
listing_is at bytes end =
    let words = words_of_bytes bytes in
    let texts = texts_from (length words) at words in
    rw (lines_are (length words) words at, odd_are bytes)
    (rw (map-append listing_line texts (odd_texts bytes ++ end ∷ []))
    (rw (map-append listing_line (odd_texts bytes) (end ∷ [])) refl))

pub after_layout : (all : List Line) (come : Result Module (Refusal AsmCause)) → names all ≡ predefined
    → (assembled_lines (assembled_line predefined) all >>= λ found. Ok (module_by all found)) ≡ come → module_after all ≡ come
after_layout all come names is =
    ap (λ known. assembled_lines (assembled_line known) all >>= λ found. Ok (module_by all found)) names ∙ is

-- the module of a source whose lines are accepted to the last
source_is : (texts : List (List ℕ)) (answer : Result Module (Refusal AsmCause)) → Ends [] 1 texts answer → list_all (λ line. list_all in_line line) (map listed texts) ≡ true
    → module_of_source (joined (map listed texts)) ≡ answer
source_is texts answer ends clean =
    rw (lines_joined (map listed texts) clean, ends.layout_is) (after_layout ends.all answer ends.names_are ends.module_is)

even_comes_back : (half : ℕ) (bytes : List ℕ) (entered : Option ℕ) → AllBytes bytes → 2 * half < 65536 → 2 * half + length bytes ≤ 65536 → IsEntry entered
    → module_of_source (concat (listing_to (2 * half) bytes (end_text entered))) ≡ listed_module (2 * half) bytes entered
even_comes_back half bytes entered all inside fits is_entry =
    ap (λ lines. module_of_source (concat lines)) (listing_is (2 * half) bytes (end_text entered))
    ∙ (ap module_of_source (text_of (listing_texts half bytes entered all inside fits is_entry))
    ∙ source_is (listing_texts half bytes entered all inside fits is_entry) _ (listing_ends half bytes entered all inside fits is_entry)
    (clean_lines (listing_texts half bytes entered all inside fits is_entry) (clean_all half bytes entered all inside fits is_entry)))

comes_back : (at : ℕ) (bytes : List ℕ) (entered : Option ℕ) → AreFromEvenAddress at bytes → IsEntry entered
    → module_of_source (concat (listing_to at bytes (end_text entered))) ≡ listed_module at bytes entered
comes_back at bytes entered after_these is_entry =
    let even = after_these.even in
    let below = after_these.below in
    let within = after_these.within in
    let same : 2 * (at / 2) ≡ at = omega (arith, even) in
    subst (λ at. module_of_source (concat (listing_to at bytes (end_text entered))) ≡ listed_module at bytes entered) same
    (even_comes_back (at / 2) bytes entered after_these.holds.fits (omega (arith, even, below)) (omega (arith, even, within)) is_entry)

pub word_listings_come_back : WordListingsComeBack
unfolding memory_listing
word_listings_come_back at bytes after_these = comes_back at bytes None after_these tt

pub entered_listings_come_back : EnteredListingsComeBack
entered_listings_come_back at bytes entry after_these lt = comes_back at bytes (Some entry) after_these lt

-- ---- The lines of a listing stand for themselves: none copies a file, and the last alone ends the source

-- a line that copies no file, and whether it ends the source
pub record OwnLine (last : Bool) (text : List ℕ) : Type 0 where
  pub name : List ℕ
  pub field : List ℕ
  pub cut : Cut (listed text) name field
  pub no_copy : is_word name (codes "COPY") ≡ false
  pub statement : Statement
  pub parses : operation_statement name field ≡ Ok statement
  pub last_is : is_end statement ≡ last

own_back : (at : ℕ) (text : List ℕ) (size : ℕ) (last : Bool) (answer : Result Outcome AsmCause) → LineBack at text size last answer → OwnLine last text
own_back at text size last _ back = record {
  name = back.name;
  field = back.field;
  cut = back.cut;
  no_copy = back.no_copy;
  statement = back.statement;
  parses = back.parses;
  last_is = back.own.last_is;
}

pub own_end : (entered : Option ℕ) → IsEntry entered → OwnLine true (end_text entered)
own_end entered is = own_back 0 (end_text entered) 0 true _ (end_line 0 entered is)

abbrev pub AreOwn : List (List ℕ) → Type 0
AreOwn texts = AllByRecursion (OwnLine false) texts

own_origin : (at : ℕ) (inside : at < 65536) → OwnLine false (aorg_text at inside)
unfolding directive
own_origin at inside = record {
  name = codes "AORG";
  field = hex_word at;
  cut = aorg_cut at inside;
  no_copy = refl;
  statement = Aorg (hex_word at);
  parses = rw (aorg_operands at inside) refl;
  last_is = refl;
}

own_words : (most : ℕ) (words : List ℕ) (at : ℕ) → at % 2 ≡ 0 → at + 2 * length words ≤ 65536 → AreWords words → AreOwn (texts_from most at words)
own_words (suc most) (word ∷ words) at even below are =
    let there : at < 65536 = omega (arith, below) in
    let back = words_back at there even word words are in
    let count = (printed (word ∷ words) at).count in
    let left = length-drop count (word ∷ words) in
    let within = back.1.within in (
      own_back at _ _ false _ back.0,
      own_words most (drop count (word ∷ words)) (at + 2 * count) (omega (arith, even)) (omega (arith, below, left, within)) (drop_words count (word ∷ words) are),
    )
own_words _ _ at even below are = _

own_odd : (bytes : List ℕ) → AllBytes bytes → AreOwn (odd_texts bytes)
own_odd [] all = _
own_odd (byte ∷ []) all = (own_back 0 _ 1 false _ (byte_line 0 byte (all 0)), _)
own_odd (more ∷ less ∷ rest) all = own_odd rest (λ k. all (suc (suc k)))

both_own : (xs ys : List (List ℕ)) → AreOwn xs → AreOwn ys → AreOwn (xs ++ ys)
both_own [] ys a b = b
both_own (x ∷ xs) ys a b = (a.0, both_own xs ys a.1 b)

-- the lines before the last
abbrev pub front_texts : (at : ℕ) → at < 65536 → List ℕ → List (List ℕ)
front_texts at inside bytes = aorg_text at inside ∷ (texts_from (length (words_of_bytes bytes)) at (words_of_bytes bytes) ++ odd_texts bytes)

pub own_front : (at : ℕ) (inside : at < 65536) (bytes : List ℕ) → AllBytes bytes → at % 2 ≡ 0 → at + 2 * length (words_of_bytes bytes) ≤ 65536 → AreWords (words_of_bytes bytes)
    → AreOwn (front_texts at inside bytes)
own_front at inside bytes all even below are =
    (own_origin at inside, both_own (texts_from (length (words_of_bytes bytes)) at (words_of_bytes bytes)) (odd_texts bytes) (own_words (length (words_of_bytes bytes)) (words_of_bytes bytes) at even below are) (own_odd bytes all))

-- ---- No jump wraps far from the ends of memory

stays_in : (next : ℕ) (disp : ℤ) → FitsSigned w8 disp → 256 ≤ next → next ≤ 65281 → leads_out next disp ≡ false
stays_in next (pos count) fits from to =
    let few : count < 128 = omega (arith, ints, fits) in grind (arith, nat_tests, few, to)
stays_in next (negsuc count) fits from to =
    let few : count < 128 = omega (arith, ints, fits) in grind (arith, nat_tests, few, from)

jump_stays : (op : JumpOp) (next : ℕ) (disp : ℤ) → leads_out next disp ≡ false → jump_wraps op next disp ≡ false
jump_stays SBO next disp e = refl
jump_stays SBZ next disp e = refl
jump_stays TB next disp e = refl
jump_stays _ next disp e = e

instr_stays : (at : ℕ) (found : Option Instr) → IfSome found HasSignedByte → 254 ≤ at → at + 2 ≤ 65281 → wraps at found ≡ false
instr_stays at (Some (Jump op disp)) fits from to = jump_stays op (at + 2) disp (stays_in (at + 2) disp fits (omega (arith, from)) to)
instr_stays at _ fits from to = refl

none_wraps : (most : ℕ) (words : List ℕ) (number at : ℕ) → 254 ≤ at → at + 2 * length words ≤ 65281 → wrapping_from most number at words ≡ None
none_wraps (suc most) (word ∷ words) number at from to =
    let count = (printed (word ∷ words) at).count in
    let rest = drop count (word ∷ words) in
    let left = length-drop count (word ∷ words) in
    let within = (count_within word words at).1 in
    ap (λ far. if far then Some number else wrapping_from most (number + 1) (at + 2 * count) rest)
    (instr_stays at (instr_at word) (instr_at-signed word) from (omega (arith, to)))
    ∙ none_wraps most rest (number + 1) (at + 2 * count) (omega (arith, from)) (omega (arith, to, left, within))
none_wraps _ _ number at from to = refl

pub inner_listings_come_back : InnerListingsComeBack
inner_listings_come_back at bytes after_these from to =
    let fit = words_fit bytes in
    word_listings_come_back at bytes after_these
    ∙ ap (λ far. unless_far far (module_of_words at (padded_words bytes) None)) (none_wraps (length (words_of_bytes bytes)) (words_of_bytes bytes) 2 at from (omega (arith, to, fit)))
