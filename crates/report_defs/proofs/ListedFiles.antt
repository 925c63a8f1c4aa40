-- A listing of dis copies no file, so asm makes its words again, whatever files there are.
use Rattle.std.proofs.Common.{◌≡◌, ℕ, zero, suc, ◌+◌, ◌-◌, ◌*◌, ◌/◌, ◌<◌, ◌≤◌, Bool, true, false, List, [], ◌∷◌, ◌++◌, drop, length, append_assoc, refl, ap}
use Rattle.std.proofs.Common.{sym, subst, ◌∙◌}
use Rattle.std.proofs.Common.{Ok, Option, Some, None, arith}
use Rattle.std.specs.Prelude.{Result, map, slice_get, codes, if◌then◌else◌}
use Rattle.std.specs.Option.{unwrap_or}
use Rattle.std.specs.List.{concat}
use Rattle.tms_defs.specs.Instructions.{instr_at}
use Rattle.source_defs.specs.Refusals.{Refusal}
use Rattle.source_defs.specs.ListedLines.{listed}
use Rattle.source_defs.specs.Lines.{numbered}
use Rattle.expression_defs.specs.Layout.{line_layout}
use Rattle.object_defs.specs.Modules.{Module}
use Rattle.instruction_defs.specs.Printed.{printed}
use Rattle.asm_defs.specs.declared.causes.AsmCause.{AsmCause}
use Rattle.asm_defs.specs.Statements.{statement_in}
use Rattle.asm_defs.specs.Locations.{Line}
use Rattle.asm_defs.specs.FirstChecks.{check}
use Rattle.asm_defs.specs.Modules.{module_after}
use Rattle.shelf_defs.specs.Files.{Files, of_files}
use Rattle.shelf_defs.specs.CopyLines.{Itself, asked, ends_source}
use Rattle.shelf_defs.specs.Copied.{Place, PlacedLine, Ended, Copied, lines_in, copy_line, deepest, copied}
use Rattle.shelf_defs.specs.Assembly.{texts, places, place_of, in_place, module_of_copied, module_of_files}
use Rattle.listed_lines.proofs.LineTexts.{lines_joined, clean_lines, text_of}
use Rattle.word_listings.specs.Listing.{memory_listing}
use Rattle.word_listings.specs.Modules.{wraps, wrapping_from, first_wrapping, unless_far}
use Rattle.word_listings.specs.Law.{AreFromEvenAddress, listed_module}
use Rattle.word_listings.proofs.ListingLaw.{AllBytes, aorg_text, are_words, words_fit, listing_texts, listing_ends, clean_all, listing_is, after_layout}
use Rattle.word_listings.proofs.ListingLaw.{odd_texts}
use Rattle.word_listings.proofs.After.{texts_from}
use Rattle.word_listings.proofs.ListingLaw.{OwnLine, AreOwn, own_end, own_front, front_texts}
use Rattle.report_defs.specs.Report.{asm_report}
use Rattle.report_defs.proofs.ListedWords.{listed as written_listing, are_from_even_address, not_large}
use Rattle.report_defs.specs.FileReports.{copy_report}
use Rattle.report_defs.specs.ProgramCommands.{AsmFiles, OverFiles}
use Rattle.report_defs.specs.FileReports.{ReportWith}
use Rattle.report_defs.specs.Laws.{ListedWordsComeBackWith}
use Rattle.tms_defs.specs.Words.{words_of_bytes}

-- ---- a line that stands for itself

module _ (last : Bool) (text : List ℕ) (own : OwnLine last text) where
  asks_itself : asked (listed text) ≡ Itself
  unfolding asked
  asks_itself = rw (own.cut.fields_are, own.cut.name_is, own.no_copy) refl

  ends_as : ends_source (listed text) ≡ last
  unfolding ends_source statement_in
  ends_as = rw (own.cut.fields_are, own.cut.name_is, own.cut.field_is, own.parses) own.last_is

-- the lines of the input itself by their places
abbrev placed : ℕ → List (List ℕ) → List PlacedLine
placed number [] = []
placed number (text ∷ texts) = record { place = record { file = None; line = number }; text = text } ∷ placed (number + 1) texts

texts_placed : (number : ℕ) (lines : List (List ℕ)) → texts (placed number lines) ≡ lines
texts_placed number [] = refl
texts_placed number (line ∷ lines) = ap (λ lines. line ∷ lines) (texts_placed (number + 1) lines)

-- the place of a line that counts from 1 is its number
place_there : (lines : List (List ℕ)) (first k : ℕ) → unwrap_or (slice_get (places (placed first lines)) k) (record { file = None; line = first + k })
    ≡ record { file = None; line = first + k }
place_there [] first k = refl
place_there (line ∷ lines) first zero = let same : first ≡ first + 0 = omega arith in ap (λ number. record { file = None; line = number }) same
place_there (line ∷ lines) first (suc k) =
    let same : first + suc k ≡ first + 1 + k = omega arith in
    ap (λ number. unwrap_or (slice_get (places (placed (first + 1) lines)) k) (record { file = None; line = number })) same
    ∙ (place_there lines (first + 1) k ∙ ap (λ number. record { file = None; line = number }) (sym same))

place_is : (lines : List (List ℕ)) (number : ℕ) → 0 < number → place_of (places (placed 1 lines)) number ≡ record { file = None; line = number }
place_is lines zero lt = absurd (omega (arith, lt))
place_is lines (suc k) lt =
    let before : suc k - 1 ≡ k = omega arith in
    let same : 1 + k ≡ suc k = omega arith in
    ap (λ index. unwrap_or (slice_get (places (placed 1 lines)) index) (record { file = None; line = suc k })) before
    ∙ subst (λ number. unwrap_or (slice_get (places (placed 1 lines)) k) (record { file = None; line = number }) ≡ record { file = None; line = number }) same (place_there lines 1 k)

-- ---- lines that stand for themselves, up to the last

abbrev whole : ℕ → ℕ → List (List ℕ) → Copied
whole number copies lines = record { lines = placed number lines; copies = copies; ending = Ended }

copied_is : (copy : Place → ℕ → List ℕ → Copied) (front : List (List ℕ)) (end : List ℕ) (number copies : ℕ) → AreOwn front → OwnLine true end
    → lines_in copy None copies (numbered number (map listed (front ++ end ∷ []))) ≡ whole number copies (map listed (front ++ end ∷ []))
copied_is copy [] end number copies are own = rw (asks_itself true end own, ends_as true end own) refl
copied_is copy (text ∷ front) end number copies are own =
    rw (asks_itself false text are.0, ends_as false text are.0, copied_is copy front end (number + 1) copies are.1 own) refl

-- the module of such lines
after_copied : (lines : List (List ℕ)) (all : List Line) (answer : Result Module (Refusal AsmCause)) → line_layout check (numbered 1 lines) ≡ Ok all → module_after all ≡ answer
    → module_of_copied (whole 1 0 lines) ≡ in_place (placed 1 lines) answer
after_copied lines all answer a b = rw (texts_placed 1 lines, a, b) refl

-- ---- the report

first_from : (most : ℕ) (words : List ℕ) (number at found : ℕ) → wrapping_from most number at words ≡ Some found → number ≤ found
first_from (suc most) (word ∷ words) number at found e =
    let count = (printed (word ∷ words) at).count in
    by (wraps at (instr_at word)) (wrapping_from most (number + 1) (at + 2 * count) (drop count (word ∷ words))) e
    (first_from most (drop count (word ∷ words)) (number + 1) (at + 2 * count) found)
  where
    by : (far : Bool) (later : Option ℕ) → (if far then Some number else later) ≡ Some found → (later ≡ Some found → number + 1 ≤ found) → number ≤ found
    by true later e rest = let same : number ≡ found = cc e in omega (arith, same)
    by false later e rest = let le = rest e in omega (arith, le)
first_from _ _ number at found e = cc e

same_report : (lines : List (List ℕ)) (found : Module) (far : Option ℕ) → ((number : ℕ) → far ≡ Some number → 0 < number)
    → copy_report (in_place (placed 1 lines) (unless_far far found)) ≡ asm_report (unless_far far found)
same_report lines found None some = refl
same_report lines found (Some number) some = rw (place_is lines number (some number refl)) refl

module _ (half : ℕ) (bytes : List ℕ) (files : Files) (from_even : AreFromEvenAddress (2 * half) bytes) where
  abbrev all : AllBytes bytes
  all = from_even.holds.fits

  abbrev found_texts : List (List ℕ)
  found_texts = listing_texts half bytes None all from_even.below from_even.within tt

  abbrev found_front : List (List ℕ)
  found_front = front_texts (2 * half) from_even.below bytes

  texts_are : found_texts ≡ found_front ++ codes "END" ∷ []
  texts_are =
      ap (λ texts. aorg_text (2 * half) from_even.below ∷ texts) (sym (append_assoc (texts_from (length (words_of_bytes bytes)) (2 * half) (words_of_bytes bytes)) (odd_texts bytes) (codes "END" ∷ [])))

  copied_all : copied files (concat (memory_listing (2 * half) bytes)) ≡ whole 1 0 (map listed found_texts)
  unfolding memory_listing
  copied_all =
      let fit = words_fit bytes in
      let within = from_even.within in
      let below : 2 * half + 2 * length (words_of_bytes bytes) ≤ 65536 = omega (arith, fit, within) in
      ap (λ lines. copied files (concat lines)) (listing_is (2 * half) bytes (codes "END"))
      ∙ (ap (copied files) (text_of found_texts)
      ∙ (ap (lines_in (copy_line (of_files files) deepest) None 0) (lines_joined (map listed found_texts) (clean_lines found_texts (clean_all half bytes None all from_even.below from_even.within tt)))
      ∙ subst (λ texts. lines_in (copy_line (of_files files) deepest) None 0 (numbered 1 (map listed texts)) ≡ whole 1 0 (map listed texts)) (sym texts_are)
      (copied_is (copy_line (of_files files) deepest) found_front (codes "END") 1 0
      (own_front (2 * half) from_even.below bytes all from_even.even below (are_words bytes all)) (own_end None tt))))

  module_is : module_of_files files (concat (memory_listing (2 * half) bytes)) ≡ in_place (placed 1 (map listed found_texts)) (listed_module (2 * half) bytes None)
  module_is =
      let ends = listing_ends half bytes None all from_even.below from_even.within tt in
      ap module_of_copied copied_all
      ∙ after_copied (map listed found_texts) ends.all _ ends.layout_is (after_layout ends.all _ ends.names_are ends.module_is)

  report_is : asm_report (listed_module (2 * half) bytes None) ≡ copy_report (module_of_files files (concat (memory_listing (2 * half) bytes)))
  report_is =
      sym (
      ap copy_report module_is
      ∙ same_report (map listed found_texts) _ (first_wrapping 2 (2 * half) (words_of_bytes bytes))
      (λ number e. let le = first_from (length (words_of_bytes bytes)) (words_of_bytes bytes) 2 (2 * half) number e in omega (arith, le))
      )

report_at : (at : ℕ) (input : List ℕ) (files : Files) → AreFromEvenAddress at input
    → asm_report (listed_module at input None) ≡ copy_report (module_of_files files (concat (memory_listing at input)))
report_at at input files from_even =
    let even = from_even.even in
    let same : 2 * (at / 2) ≡ at = omega (arith, even) in
    subst (λ at. asm_report (listed_module at input None) ≡ copy_report (module_of_files files (concat (memory_listing at input)))) same
    (report_is (at / 2) input files (subst (λ at. AreFromEvenAddress at input) (sym same) from_even))

pub listed_words_come_back_with : ListedWordsComeBackWith
listed_words_come_back_with at input pieces files holds even below reports =
    let is = written_listing at input (memory_listing at input) pieces reports in
    let from_even = are_from_even_address at input holds even below is.within in
    subst (λ pieces. ReportWith (OverFiles AsmFiles) (concat pieces) files (asm_report (listed_module at input None))) (sym is.pieces_are)
    (rw (not_large at input from_even) (report_at at input files from_even))
