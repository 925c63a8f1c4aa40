-- The source gives the words that are shipped.
use Rattle.std.proofs.Common.{◌≡◌, ℕ, ◌+◌, ◌-◌, ◌*◌, ◌/◌, ◌%◌, ◌≤◌, Bool, true, false, List, [], ◌∷◌, ◌++◌, length}
use Rattle.std.proofs.Common.{None, refl, ap, subst, ◌∙◌, arith}
use Rattle.std.specs.Prelude.{◌&&◌, ◌==◌, nat_le}
use Rattle.std.specs.List.{slice_get, list_all, AllByRecursion}
use Rattle.std.proofs.lemmas.Bool.Decides.{nat_tests}
use Rattle.source_defs.specs.Lines.{line_texts, numbered}
use Rattle.object_defs.specs.declared.spot.Spot.{Spot}
use Rattle.object_defs.specs.declared.spot.Spot.TheVariants as spot
use Rattle.asm_defs.specs.Modules.{module_of}
use Rattle.link_defs.specs.Placing.{first_base, value_of}
use Rattle.link_defs.specs.LinkedMemory.{LinkedMemory}
use Rattle.line_laws.specs.KnownLines.{all_words}
use Rattle.line_laws.specs.Texts.{IsWithoutControls}
use Rattle.line_laws.specs.Laws.{HaveWords}
use Rattle.line_laws.proofs.FedTexts.{fed_texts_have_their_lines}
use Rattle.line_laws.proofs.Whole.{have_their_words}
use Rattle.line_laws.proofs.LinkedPieces.{are_words, memory_of, module_linked, word_found, pair_found}
use Rattle.native_interp.specs.Source.{lines, source}
use Rattle.native_interp.specs.Words.{words}
use Rattle.native_interp.specs.declared.addresses.TheConstants.{GBOOT, ORIGIN, WORD_COUNT}
use Rattle.native_interp.specs.declared.words.TheConstants.{INTERP}
use Rattle.interp_build_defs.specs.Building.{Links, HasShipped}
use Rattle.interp_build_defs.specs.Interpreter.{SourceGivesWords}
use Rattle.line_table.specs.Table.{defined}
use Rattle.line_table.proofs.Known.{last, ending, front_texts, front_lines, are_known, words_are, lines_are}
use Rattle.line_laws.proofs.Small.{chosen}

-- both tests ask for an even place from there on
tests_agree : (at : ℕ) (b c : Bool) → (nat_le ORIGIN at && ((at - ORIGIN) % 2 == 0)) ≡ b → (nat_le ORIGIN at && (at % 2 == 0)) ≡ c → b ≡ c
tests_agree at true true x y = refl
tests_agree at false false x y = refl
tests_agree at true false x y =
    let right : (nat_le ORIGIN at && (at % 2 == 0)) ≡ true = grind (arith, nat_tests, x) in
    cc (right, y)
tests_agree at false true x y =
    let right : (nat_le ORIGIN at && ((at - ORIGIN) % 2 == 0)) ≡ true = grind (arith, nat_tests, y) in
    cc (right, x)

-- memory that holds words from >2000 on has the words that are shipped
has_shipped : (shipped : List ℕ) (entry : ℕ) → HasShipped shipped (memory_of (2 * 0x1000) shipped entry)
has_shipped shipped entry at =
    word_found (2 * 0x1000) shipped entry at
    ∙ (pair_found (2 * 0x1000) shipped at
    ∙ chosen (nat_le ORIGIN at && ((at - ORIGIN) % 2 == 0)) (nat_le ORIGIN at && (at % 2 == 0)) (slice_get shipped ((at - ORIGIN) / 2)) None
    (tests_agree at (nat_le ORIGIN at && ((at - ORIGIN) % 2 == 0)) (nat_le ORIGIN at && (at % 2 == 0)) refl refl))

-- a source whose lines have these words
module _ (text : List ℕ) (texts : List (List ℕ)) (shipped : List ℕ) (entry : Spot) where
  gives : line_texts text ≡ numbered 1 texts → HaveWords texts (2 * 0x1000) shipped entry → are_words shipped ≡ true → 0x1000 + length shipped ≤ 0x2000
      → (memory : LinkedMemory) × Links text memory × HasShipped shipped memory
  gives numbers have fit few = (
    memory_of (2 * 0x1000) shipped (value_of first_base entry),
    record {
      unit = have.unit;
      assembled = ap module_of numbers ∙ have.assembled;
      linked = module_linked have.unit 0x1000 shipped entry have.has.pieces have.has.defs have.has.refs have.has.entered fit (omega arith) few;
    },
    has_shipped shipped (value_of first_base entry),
  )

-- what a test finds of each line
each : (texts : List (List ℕ)) → list_all (λ text. list_all (λ byte. nat_le 0x20 byte) text) texts ≡ true → AllByRecursion IsWithoutControls texts
each [] e = tt
each (text ∷ texts) e = by (list_all (λ byte. nat_le 0x20 byte) text) refl e (each texts)
  where
    by : (b : Bool) → list_all (λ byte. nat_le 0x20 byte) text ≡ b → (b && list_all (λ text. list_all (λ byte. nat_le 0x20 byte) text) texts) ≡ true
        → (list_all (λ text. list_all (λ byte. nat_le 0x20 byte) text) texts ≡ true → AllByRecursion IsWithoutControls texts) → AllByRecursion IsWithoutControls (text ∷ texts)
    by true is e rest = (is, rest e)
    by false is e rest = cc e

without_controls : list_all (λ text. list_all (λ byte. nat_le 0x20 byte) text) lines ≡ true
without_controls = refl

pub source_lines : line_texts source ≡ numbered 1 lines
source_lines = fed_texts_have_their_lines lines (each lines without_controls)

few_words : (held : List ℕ) → held ≡ words → 0x1000 + length held ≤ 32768
few_words held is =
    let size : length held ≡ WORD_COUNT = ap length is in
    omega (arith, size)

lines_have : HaveWords (front_texts ++ last ∷ []) (2 * 0x1000) (all_words front_lines) (spot.Absolute GBOOT)
lines_have = have_their_words 0x1000 front_texts last defined front_lines ending (spot.Absolute GBOOT) are_known (few_words (all_words front_lines) words_are)

source_has : HaveWords lines (2 * 0x1000) words (spot.Absolute GBOOT)
source_has =
    subst (λ texts. HaveWords texts (2 * 0x1000) words (spot.Absolute GBOOT)) lines_are
    (subst (λ held. HaveWords (front_texts ++ last ∷ []) (2 * 0x1000) held (spot.Absolute GBOOT)) words_are lines_have)

all_words_fit : are_words words ≡ true
all_words_fit = refl

-- the list of the parts is the constant of the program
are_interp : words ≡ INTERP
are_interp = refl

-- The linked memory of the interpreter's source has the interpreter's words from >2000 up, and no others.
pub source_gives_words : SourceGivesWords
source_gives_words =
    let found = gives source lines words (spot.Absolute GBOOT) source_lines source_has all_words_fit (omega arith) in
    (found.0, record { links = found.1; words = subst (λ (list : List ℕ). HasShipped list found.0) are_interp found.2 })
