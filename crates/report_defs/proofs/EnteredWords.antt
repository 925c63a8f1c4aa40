-- What dis writes of an input, with an entry after END, is assembled and linked to its words.
use Rattle.std.proofs.Common.{◌≡◌, ℕ, ◌≤◌, false, List, [], ◌∷◌, length, refl, ap, sym, arith}
use Rattle.std.proofs.Common.{Result, Ok, Err, ◌∙◌}
use Rattle.std.specs.Prelude.{nat_lt}
use Rattle.std.specs.List.{concat}
use Rattle.std.proofs.lemmas.Bool.Decides.{nat_tests}
use Rattle.source_defs.specs.Refusals.{Refusal}
use Rattle.object_defs.specs.Modules.{Module}
use Rattle.object_defs.specs.Writing.{written_lines, written}
use Rattle.asm_defs.specs.declared.causes.AsmCause.{AsmCause}
use Rattle.asm_defs.specs.Modules.{module_of_source}
use Rattle.link_defs.specs.LinkedMemory.{linked}
use Rattle.word_listings.specs.Law.{AreFromEvenAddress, entered_listing}
use Rattle.word_listings.proofs.LinkLaw.{entered_listings_link}
use Rattle.word_listings.proofs.ListingLaw.{words_fit, entered_listings_come_back}
use Rattle.word_listings.proofs.ShortLaw.{word_listings_are_short, entered_size}
use Rattle.report_defs.specs.declared.status.Status.TheVariants.{Done}
use Rattle.report_defs.specs.ObjectInput.{linked_input}
use Rattle.report_defs.specs.Report.{Whole, largest_input, asm_report, link_report}
use Rattle.report_defs.specs.Laws.{EnteredWordsComeBack, EnteredWordsLink}

not_large : (at : ℕ) (input : List ℕ) (entry : ℕ) → AreFromEvenAddress at input →
    nat_lt largest_input (length (concat (entered_listing at input entry))) ≡ false
not_large at input entry from_even =
    let within = from_even.within in
    let fit = words_fit input in
    let short = word_listings_are_short at input from_even in
    let size = entered_size at input entry in
    let le : length (concat (entered_listing at input entry)) ≤ 1048576 = omega (arith, within, fit, short, size) in
    grind (arith, nat_tests, le)

pub entered_words_come_back : EnteredWordsComeBack
entered_words_come_back at input entry from_even below =
    rw (not_large at input entry from_even) (ap asm_report (sym (entered_listings_come_back at input entry from_even below)))

-- a module whose object text was written
record Assembled (found : Result Module (Refusal AsmCause)) (pieces : List (List ℕ)) : Type 0 where
  m : Module
  found_is : found ≡ Ok m
  joined : concat pieces ≡ written m

assembled : (found : Result Module (Refusal AsmCause)) (pieces : List (List ℕ)) →
    Whole Done pieces ≡ asm_report found → Assembled found pieces
assembled (Ok m) pieces is =
    let same : pieces ≡ written_lines m = cc is in record { m = m; found_is = refl; joined = ap concat same }
assembled (Err refused) pieces is = absurd (cc is)

pub entered_words_link : EnteredWordsLink
entered_words_link at input entry pieces from_even below reports le =
    let is : Whole Done pieces ≡ asm_report (module_of_source (concat (entered_listing at input entry))) =
    rw (not_large at input entry from_even) at reports in
    let it = assembled (module_of_source (concat (entered_listing at input entry))) pieces is in
    let links = entered_listings_link at input entry it.m from_even below it.found_is in
    let small : nat_lt largest_input (length (concat pieces)) ≡ false = grind (arith, nat_tests, le) in
    let read_as : link_report (linked_input (concat pieces)) ≡ link_report (linked_input (written it.m)) =
    ap (λ text. link_report (linked_input text)) it.joined in
    (linked (it.m ∷ []), links.gives, rw small (sym (read_as ∙ rw links.reads refl)))
