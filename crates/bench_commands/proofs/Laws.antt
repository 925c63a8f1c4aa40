-- What holds of all runs of `bench`.
use Rattle.std.proofs.Common.{◌≡◌, ℕ, ◌≤◌, List, [], ◌++◌, length, Option, Some, None, Bool, true, false, refl, sym, ap, ◌∙◌, subst, append-nil}
use Rattle.std.proofs.Common.{length-append, arith}
use Rattle.std.specs.Prelude.{MatchBool, nat_lt}
use Rattle.std.specs.Option.{option_map}
use Rattle.std.proofs.lemmas.Bool.Decides.{nat_tests}
use Rattle.bench_io.specs.Stream.{SourceState, IsAtEnd}
use Rattle.report_defs.specs.declared.fault.Fault.TheVariants.{TooLarge}
use Rattle.report_defs.specs.Report.{Report, Faulty, largest_input, OnInput}
use Rattle.line_table.proofs.Joined.{source_gives_words}
use Rattle.report_defs.proofs.OneReport.{one_report}
use Rattle.report_defs.proofs.Fronts.{fronts_begin_reports}
use Rattle.report_defs.proofs.ListedInputs.{listed_inputs_come_back}
use Rattle.report_defs.proofs.ListedBytes.{listed_bytes_come_back}
use Rattle.report_defs.proofs.ListedWords.{listed_words_come_back}
use Rattle.report_defs.proofs.EnteredWords.{entered_words_come_back, entered_words_link}
use Rattle.word_listings.proofs.LinkLaw.{entered_listings_link}
use Rattle.word_listings.proofs.ListingLaw.{entered_listings_come_back}
use Rattle.reports.proofs.Runs.{IsProgram, laws_of}
use Rattle.reports.specs.RunLaws.{OneReport}
use Rattle.bench_commands.specs.InputRun.{ReadsInput, Reads, InputCommands, Reports, Shows, input_program}
use Rattle.bench_commands.specs.Bench.{bench_input, bench_program}
use Rattle.bench_commands.specs.Laws.{LawsOfRuns}

-- a report on bytes that were taken is one on all bytes of the input
pub on_all : (Accepted : List ℕ → Report → Type 0) (before after : SourceState) (bytes input : List ℕ) (report : Report) → before.left ≡ Some input → ReadsInput before after bytes
    → OnInput Accepted bytes report → OnInput Accepted input report
on_all Accepted before after bytes input report shown reading on = left after.left refl
  where
    by : (rest : List ℕ) → after.left ≡ Some rest → input ≡ bytes ++ rest → (large : Bool) → nat_lt largest_input (length bytes) ≡ large → MatchBool large (report ≡ Faulty TooLarge) (Accepted bytes report) → OnInput Accepted input report
    by rest is all true large found =
        let above : nat_lt largest_input (length input) ≡ true = rw all (rw length-append (grind (arith, nat_tests))) in
        rw above found
    by rest is all false small found =
        let within : length bytes ≤ largest_input = grind (arith, nat_tests) in
        let P : Option (List ℕ) → Type 0 = λ l. IsAtEnd l in
        let none : rest ≡ [] = subst P is (reading.whole within) in
        let same : input ≡ bytes = all ∙ ap (λ r. bytes ++ r) none ∙ append-nil bytes in
        let Q : List ℕ → Type 0 = λ i. OnInput Accepted i report in
        subst Q (sym same) on

    left : (l : Option (List ℕ)) → after.left ≡ l → OnInput Accepted input report
    left None is =
        let e : Some input ≡ None = sym shown ∙ (reading.consumed.gave ∙ ap (option_map (λ rest. bytes ++ rest)) is) in
        absurd (cc)
    left (Some rest) is =
        let e : Some input ≡ Some (bytes ++ rest) = sym shown ∙ (reading.consumed.gave ∙ ap (option_map (λ rest. bytes ++ rest)) is) in
        let all : input ≡ bytes ++ rest = cc in
        by rest is all (nat_lt largest_input (length bytes)) refl on

-- the report of a command on what it took is the report on what was shown
pub shown : {C : Type 0} (p : InputCommands C) (command : C) (before after : SourceState) (input : List ℕ) (report : Report)
    → Shows p command before input → Reports p command before after report → OnInput (p.Accepted command) input report
shown p command before after input report shows (bytes, reading, on) = by (p.reads command) shows reading
  where
    by : (read : Bool) → MatchBool read (before.left ≡ Some input) (input ≡ []) → Reads read before after bytes
        → OnInput (p.Accepted command) input report
    by true shows reading = on_all (p.Accepted command) before after bytes input report shows reading on
    by false none (same, nothing) = subst (λ b. OnInput (p.Accepted command) b report) (nothing ∙ sym none) on

-- a program over one input, by its one report
pub over_input : {C : Type 0} (p : InputCommands C) → OneReport (input_program p) → IsProgram (input_program p)
over_input p one =
    record {
      one_report = one;
      shown = λ command before after input report. shown p command before after input report;
      fails = λ command before after failed. failed.1;
    }

pub is_program : IsProgram bench_program
is_program = over_input bench_input one_report

pub laws : LawsOfRuns
laws =
    record {
      runs = laws_of bench_program is_program;
      fronts = fronts_begin_reports;
      interpreter = source_gives_words;
      listed_bytes = listed_bytes_come_back;
      listed_words = listed_words_come_back;
      entered_words = entered_words_come_back;
      linked_words = entered_words_link;
      listed_images = listed_inputs_come_back;
      entered_modules = entered_listings_come_back;
      linked_modules = entered_listings_link;
    }
