-- What dis writes of an input is assembled to its words, and is never too large.
use Rattle.std.proofs.Common.{◌≡◌, ℕ, ◌+◌, ◌%◌, ◌<◌, ◌≤◌, Bool, true, false, List, length, refl, ap, sym, subst, arith}
use Rattle.std.specs.Prelude.{MatchBool, nat_lt, if◌then◌else◌, None}
use Rattle.std.specs.List.{concat}
use Rattle.std.proofs.lemmas.Bool.Decides.{nat_tests}
use Rattle.tms_defs.specs.Bytes.{HoldsBytes}
use Rattle.asm_defs.specs.Modules.{module_of_source}
use Rattle.word_listings.specs.Listing.{memory_listing}
use Rattle.word_listings.specs.Law.{AreFromEvenAddress, listed_module}
use Rattle.word_listings.proofs.ListingLaw.{words_fit, word_listings_come_back}
use Rattle.word_listings.proofs.ShortLaw.{word_listings_are_short}
use Rattle.report_defs.specs.declared.command.Command.TheVariants.{Asm}
use Rattle.report_defs.specs.declared.fault.Fault.TheVariants.{TooLarge, PastEnd}
use Rattle.report_defs.specs.declared.status.Status.TheVariants.{Done}
use Rattle.report_defs.specs.Report.{Whole, Faulty, largest_input, asm_report, OnInput, ReportOn}
use Rattle.report_defs.specs.Laws.{ListedWordsComeBack}

-- bytes whose listing was written, of dis or of gdis
pub record Listed (at : ℕ) (input : List ℕ) (lines pieces : List (List ℕ)) : Type 0 where
  pub within : at + length input ≤ 65536
  pub pieces_are : pieces ≡ lines

pub listed : (at : ℕ) (input : List ℕ) (lines pieces : List (List ℕ))
    → OnInput (λ input report. report ≡ (if nat_lt 65536 (at + length input) then Faulty PastEnd else Whole Done lines)) input (Whole Done pieces)
    → Listed at input lines pieces
listed at input lines pieces reports = by (nat_lt largest_input (length input)) (nat_lt 65536 (at + length input)) refl reports
  where
    by : (large past : Bool) → nat_lt 65536 (at + length input) ≡ past
        → MatchBool large (Whole Done pieces ≡ Faulty TooLarge) (Whole Done pieces ≡ (if past then Faulty PastEnd else Whole Done lines))
        → Listed at input lines pieces
    by true past is same = absurd (cc same)
    by false true is same = absurd (cc same)
    by false false is same = record { within = grind (arith, nat_tests, is); pieces_are = cc same }

pub are_from_even_address : (at : ℕ) (input : List ℕ) → HoldsBytes (length input) input → at % 2 ≡ 0 → at < 65536 → at + length input ≤ 65536 → AreFromEvenAddress at input
are_from_even_address at input holds even below within = record { holds = holds; even = even; below = below; within = within }

pub not_large : (at : ℕ) (input : List ℕ) → AreFromEvenAddress at input → nat_lt largest_input (length (concat (memory_listing at input))) ≡ false
not_large at input from_even =
    let within = from_even.within in
    let fit = words_fit input in
    let short = word_listings_are_short at input from_even in
    let le : length (concat (memory_listing at input)) ≤ 1048576 = omega (arith, within, fit, short) in
    grind (arith, nat_tests, le)

pub listed_words_come_back : ListedWordsComeBack
listed_words_come_back at input pieces holds even below reports =
    let is = listed at input (memory_listing at input) pieces reports in
    let from_even = are_from_even_address at input holds even below is.within in
    let again : asm_report (listed_module at input None) ≡ asm_report (module_of_source (concat (memory_listing at input))) =
    ap asm_report (sym (word_listings_come_back at input from_even)) in
    subst (λ pieces. ReportOn Asm (concat pieces) (asm_report (listed_module at input None))) (sym is.pieces_are)
    (rw (not_large at input from_even) again)
