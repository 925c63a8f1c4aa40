-- The lines of a source as a listing needs them.
use Rattle.std.proofs.Common.{◌≡◌, ℕ, ◌-◌, ◌≤◌, List, [], ◌∷◌, ◌++◌, Some, None, Ok, Err, length, map, take, refl, sym, ap, ◌∙◌, subst, arith, append_assoc}
use Rattle.std.proofs.Common.{inl, inr}
use Rattle.std.specs.Prelude.{Option, Result, IfOk, IfErr}
use Rattle.std.specs.List.{flat_map}
use Rattle.std.proofs.Math.Seq.{take-length, take-append_seam}
use Rattle.std.proofs.lemmas.List.{length-map, map-append, take-map}
use Rattle.source_defs.specs.Refusals.{Refusal, ◌>>=◌}
use Rattle.source_defs.specs.Lines.{numbered}
use Rattle.expression_defs.specs.Symbols.{Names}
use Rattle.expression_defs.specs.Layout.{line_layout, assembled_lines}
use Rattle.object_defs.specs.Modules as object
use Rattle.asm_defs.specs.declared.causes.AsmCause.{AsmCause}
use Rattle.asm_defs.specs.Locations.{Line}
use Rattle.asm_defs.specs.FirstChecks.{check, names}
use Rattle.asm_defs.specs.Memory.{AssembledLine}
use Rattle.asm_defs.specs.Modules.{assembled_line, module_by, module_after, module_of_lines}
use Rattle.shelf_defs.specs.Copied as spec
use Rattle.shelf_defs.specs.Copied.{most_bytes, most_copies, PlacedLine, CopyRefusal, Ending, Refused, Copied}
use Rattle.shelf_defs.specs.Assembly.{texts, places, place_of, in_place, unless_refused, layout_copied}
use Rattle.asm_list_defs.specs.Listed.{accepted_lines, first_answer, accepted_count, shown, paired, defined, lines_in}
use Rattle.asm_list_defs.specs.Listed.{Listing, names_of_line, listing_before, listing_after, listing_by, listing_of}
use Rattle.asm_core.specs.Building.{HasAccepted}
use Rattle.asm_core.specs.Finishing.{RefusesAt}
use Rattle.asm_core.specs.declared.error.AsmError.{AsmError}
use Rattle.asm_core.specs.declared.error.AsmError.TheVariants as asm
use Rattle.asm_core.specs.declared.lines.AsmLines.{AsmLines}
use Rattle.bench_shelf.specs.declared.run.Run.{Run}
use Rattle.bench_shelf.specs.declared.listed.RefusedLine.{RefusedLine}
use Rattle.bench_shelf.specs.Runs.{places_of}
use Rattle.bench_shelf.specs.RefusedLines.{RefusesLine}
use Rattle.bench_shelf.specs.declared.copying.Copying.{Copying}
use Rattle.bench_shelf.specs.declared.kept_line.KeptLine.{KeptLine}
use Rattle.bench_shelf.specs.declared.listed.ListedEnding.{ListedEnding}
use Rattle.bench_shelf.specs.declared.listed.ListedEnding.TheVariants.{Whole, After, Before}
use Rattle.bench_shelf.specs.declared.listed.ListedSource.{ListedSource}
use Rattle.bench_shelf.specs.declared.copy_error.CopyError.{CopyError}
use Rattle.bench_shelf.specs.declared.copy_error.CopyError.TheVariants.{At, TooLarge, Fault, Memory}
use Rattle.bench_shelf.specs.States.{ShelfState}
use Rattle.bench_shelf.specs.CopyAnswers.{CopyRefuses, model_of_cause}
use Rattle.bench_shelf.specs.Causes.{ShelfCauses, ReadWithinLimit}
use Rattle.bench_shelf.specs.Kept.{model_of_kept, shown_of, names_of, AreKept, IsKept}
use Rattle.bench_shelf.specs.Leading.{Holds, EndsAs, GoesOn, LeadsTo, Halts, Stopped, IfReported, EndsBy, Copies, IsHeld}
use Rattle.bench_shelf.specs.Listed.{GivesReport, GivesNoReport, AllAssembled, AssembledAs, RefusedAfter, FinishesBy, Finishes, StopsAt}
use Rattle.bench_shelf.specs.Listed.{listed_line, named_line, lines_by, names_by, refused_in, RefusedAs, Lists, FaultEnds, ListAnswered}
use Rattle.bench_shelf.specs.Listed.{RefusedCauses, ListCauses}
use Rattle.bench_shelf.proofs.LayoutLonger.{layout_longer}
use Rattle.bench_shelf.proofs.TakingLaws.{refusal_is}
use Rattle.bench_shelf.proofs.ModuleLaws.{whole_by, agrees_first, dialogue}

-- the lines that were taken, up to a refusal, are those up to the first that the first checks refuse
front_by : (all taken : List PlacedLine) (ending : Ending) (lines : List Line) → line_layout check (numbered 1 (texts taken)) ≡ Ok lines
    → length lines ≡ length (texts taken) → Halts all ending taken → accepted_lines all ≡ taken
front_by all taken ending lines is size (inl (are, refused)) =
    let answer : first_answer all ≡ Ok lines = ap first_answer are ∙ is in
    let count : length lines ≡ length taken = size ∙ length-map taken (λ line. line.text) in
    ap (λ answer. take (accepted_count answer) all) answer
    ∙ (ap (λ n. take n all) count ∙ (ap (take (length taken)) are ∙ take-length taken))
front_by all taken ending lines is size (inr next) =
    let longer = (layout_longer (texts next.rest) (texts (taken ++ next.line ∷ [])) [] 1 next.refusal next.is).same in
    let split : texts all ≡ texts (taken ++ next.line ∷ []) ++ texts next.rest =
    ap texts next.are
    ∙ (map-append (λ line. line.text) taken (next.line ∷ next.rest)
    ∙ (sym (append_assoc (texts taken) (next.line.text ∷ []) (texts next.rest))
    ∙ ap (λ first. first ++ texts next.rest) (sym (map-append (λ line. line.text) taken (next.line ∷ []))))) in
    let answer : first_answer all ≡ Err next.refusal = ap (λ found. line_layout check (numbered 1 found)) split ∙ longer in
    let count : next.refusal.line - 1 ≡ length taken = omega (arith, next.number) in
    ap (λ answer. take (accepted_count answer) all) answer
    ∙ (ap (λ n. take n all) count ∙ (ap (take (length taken)) next.are ∙ take-append_seam taken (next.line ∷ next.rest)))

-- items side by side, as they are made of others
side_by_side : {A B C : Type 0} (f : A → B) (g : A → C) (items : List A) → paired (map f items) (map g items) ≡ map (λ item. (f item, g item)) items
side_by_side f g [] = refl
side_by_side f g (item ∷ items) = ap (λ others. (f item, g item) ∷ others) (side_by_side f g items)

-- what is shown of kept lines, and the names that they define
module _ (taken : List PlacedLine) (lines : List Line) (kept : List KeptLine) (are : AreKept taken lines kept) where
  lines_are : (known : Option Names) → map (listed_line known) kept ≡ paired taken (shown known lines)
  lines_are known =
      sym (side_by_side model_of_kept (shown_of known) kept)
      ∙ (ap (λ taken. paired taken (map (shown_of known) kept)) are.are ∙ ap (paired taken) (are.shown known))

  names_are : map named_line kept ≡ paired taken (defined lines)
  names_are =
      sym (side_by_side model_of_kept names_of kept)
      ∙ (ap (λ taken. paired taken (map names_of kept)) are.are ∙ ap (paired taken) are.names)

reported_out : (P : Type 0) (error : CopyError) → GivesReport error → IfReported error P → P
reported_out P Fault reported holds = absurd reported
reported_out P Memory reported holds = absurd reported
reported_out P _ reported holds = holds

layout_by : (ending : Ending) (builder : AsmLines) (lines : List Line) → EndsAs ending builder → unless_refused ending lines ≡ Ok lines
layout_by (Refused refusal) builder lines ends = absurd ends
layout_by _ builder lines ends = refl

layout_is : (found : Copied) (new : Copying) (goes : GoesOn [] found new) → layout_copied found ≡ Ok goes.holds.taken.lines
layout_is found new goes =
    ap (λ answer. in_place found.lines answer >>= unless_refused found.ending) goes.holds.taken.line_layout
    ∙ layout_by found.ending new.builder goes.holds.taken.lines goes.ending

-- the listing that a source has by its second checks
record EndsAsListed (taken : List PlacedLine) (line_layout : List Line) (kept : List KeptLine) (ending : ListedEnding) : Type 0 where
  pub listing : Listing
  pub after : listing_after taken line_layout (assembled_lines (assembled_line (names line_layout)) line_layout) ≡ listing
  pub lines : lines_by kept ending ≡ listing.lines
  pub names : names_by kept ending ≡ listing.names
  pub refused : RefusedAs (refused_in ending) listing.refusal

ends_listing : (taken : List PlacedLine) (lines : List Line) (kept : List KeptLine) → AreKept taken lines kept → (ending : ListedEnding)
    → FinishesBy taken lines ending → EndsAsListed taken lines kept ending
ends_listing taken lines kept are (Whole known) (same, (assembled_as, is)) = record {
  listing = listing_after taken lines (Ok assembled_as);
  after = ap (listing_after taken lines) is;
  lines = ap (λ known. map (listed_line (Some known)) kept) same ∙ lines_are taken lines kept are (Some (names lines));
  names = ap (λ known. flat_map (names_of_line known) (map named_line kept)) same
      ∙ ap (flat_map (names_of_line (names lines))) (names_are taken lines kept are);
  refused = refl;
}
ends_listing taken lines kept are (After known number error) (same, refused) =
    let refusal : Refusal AsmCause = record { line = number; cause = refused.cause } in record {
      listing = listing_after taken lines (Err refusal);
      after = ap (listing_after taken lines) refused.assembled_lines;
      lines = ap (λ known. map (listed_line (Some known)) (take (number - 1) kept)) same
          ∙ (sym (take-map (listed_line (Some (names lines))) (number - 1) kept)
          ∙ ap (take (number - 1)) (lines_are taken lines kept are (Some (names lines))));
      names = refl;
      refused = subst (λ error. RefusedAs (Some error) (listing_after taken lines (Err refusal)).refusal) (sym refused.is)
          ((refused.own, ap (λ (place : spec.Place). Err (spec.At place (spec.Asm refused.cause))) (sym refused.place)), tt);
    }
ends_listing taken lines kept are (Before error) finishes = absurd finishes

-- an error that the definitions give is a refusal of theirs
record IsRefused {B : Type 0} (error : CopyError) (answer : Result B CopyRefusal) : Type 0 where
  pub refusal : CopyRefusal
  pub is : answer ≡ Err refusal
  pub refuses : CopyRefuses {B = Unit {0}} error (Err refusal)

is_refused : {B : Type 0} (error : CopyError) (answer : Result B CopyRefusal) → CopyRefuses error answer → GivesReport error → IsRefused error answer
is_refused (At file line cause) answer refuses reported = record {
  refusal = spec.At (record { file = file; line = line }) (model_of_cause cause);
  is = refuses.1;
  refuses = (refuses.0, refl);
}
is_refused TooLarge answer refuses reported = record { refusal = spec.TooLarge; is = refuses; refuses = refl }
is_refused Fault answer refuses reported = absurd reported
is_refused Memory answer refuses reported = absurd reported

module _ (source : List ℕ) (old new : Copying) (before after : ShelfState) (none : Holds [] old) (first : old.copies ≡ 0) (most : new.copies ≤ most_copies) where
  -- all lines were taken, and what comes after them is the answer of the second checks
  all_listed : (listed : ListedSource) (asked : ℕ) (found : Copied) (goes : GoesOn [] found new)
      → Finishes found.lines goes.holds.taken.lines (Ok listed) → asked ≡ found.copies → Lists asked listed found
  all_listed listed asked found goes (kept, finishes) number =
      let lines = goes.holds.taken.lines in
      let is = ends_listing found.lines lines listed.lines.items kept listed.ending finishes in
      let same : listing_of found ≡ is.listing = ap (listing_by found.lines) (layout_is found new goes) ∙ is.after in
      record {
        lines = is.lines ∙ sym (ap (λ listing. listing.lines) same);
        names = is.names ∙ sym (ap (λ listing. listing.names) same);
        refused = subst (λ (listing : Listing). RefusedAs (refused_in listed.ending) listing.refusal) (sym same) is.refused;
        copies = λ others line_layout. number;
      }

  pub answered_all : (result : Result ListedSource CopyError) → Copies old new (whole_by old.copies source) None before after
      → ((done : List PlacedLine) → (holds : Holds done new) → Finishes done holds.taken.lines result) → IsHeld new → ListAnswered Lists before after source result
  answered_all result found finishes held = record {
    questions = found.questions;
    dialogue = dialogue source old new before after none first most None found;
    ends = no_fault result (finishes held.0 held.1);
    gives = λ contents agrees.
        let goes = found.leads contents (agrees_first old contents found.questions first agrees) [] none in
        let whole = whole_by old.copies source contents in
        let number : length found.questions ≡ whole.copies = omega (arith, first, goes.copies, found.asking.number) in
        let gives = by_result result (length found.questions) whole goes (finishes whole.lines goes.holds) number in
        subst (λ copies. IfOk result (λ listed. Lists (length found.questions) listed (whole_by copies source contents))) first gives;
  }
    where
      no_fault : (result : Result ListedSource CopyError) → Finishes held.0 held.1.taken.lines result → FaultEnds result found.questions
      no_fault (Err Fault) finishes = cc finishes
      no_fault _ finishes = tt

      by_result : (result : Result ListedSource CopyError) (asked : ℕ) (whole : Copied) (goes : GoesOn [] whole new)
          → Finishes whole.lines goes.holds.taken.lines result → asked ≡ whole.copies → IfOk result (λ listed. Lists asked listed whole)
      by_result (Ok listed) asked whole goes finishes number = all_listed listed asked whole goes finishes number
      by_result (Err error) asked whole goes finishes number = tt

  -- one is refused before
  before_listed : (error : CopyError) (found : Copied) (listed : ListedSource) (asked : ℕ) → Stopped [] found new
      → new.kept ≡ Some listed.lines → listed.ending ≡ Before error → GivesReport error → IsRefused error (layout_copied found)
      → Lists asked listed found
  before_listed error found listed asked stopped kept ending reported refused =
      let taken = stopped.taken in
      let lines = stopped.holds.taken.lines in
      let kept = subst (IsKept taken lines) kept stopped.holds.kept in
      let count : length lines ≡ length (texts taken) = stopped.holds.taken.all in
      let all : accepted_lines found.lines ≡ taken = front_by found.lines taken found.ending lines stopped.holds.taken.line_layout count stopped.halts in
      let answer : first_answer taken ≡ Ok lines = stopped.holds.taken.line_layout in
      let same : listing_of found ≡ listing_before taken refused.refusal =
      ap (listing_by found.lines) refused.is ∙ ap (λ all. listing_before all refused.refusal) all in
      let shown_lines : (listing_of found).lines ≡ paired taken (shown None lines) =
      ap (λ listing. listing.lines) same ∙ ap (λ answer. paired taken (shown None (lines_in answer))) answer in
      record {
        lines = ap (lines_by listed.lines.items) ending ∙ (lines_are taken lines listed.lines.items kept None ∙ sym shown_lines);
        names = ap (names_by listed.lines.items) ending ∙ sym (ap (λ listing. listing.names) same);
        refused = subst (λ (ending : ListedEnding). RefusedAs (refused_in ending) (listing_of found).refusal) (sym ending)
            (subst (λ (listing : Listing). RefusedAs (Some error) listing.refusal) (sym same) (refused.refuses, reported));
        copies = λ others line_layout. absurd (ok_not_err (sym line_layout ∙ refused.is));
      }
    where
      ok_not_err : {A B : Type 0} {a : A} {b : B} → Ok a ≡ Err b → ⊥
      ok_not_err e = cc e

  pub answered_before : (error : CopyError) (result : Result ListedSource CopyError) → Copies old new (whole_by old.copies source) (Some error) before after
      → StopsAt new.kept error result → ListAnswered Lists before after source result
  answered_before error result found stops = record {
    questions = found.questions;
    dialogue = dialogue source old new before after none first most (Some error) found;
    ends = fault result error stops found.ends;
    gives = λ contents agrees.
        let here = agrees_first old contents found.questions first agrees in
        subst (λ copies. IfOk result (λ listed. Lists (length found.questions) listed (whole_by copies source contents))) first
        (by_result result stops (whole_by old.copies source contents) (found.leads contents here [] none));
  }
    where
      fault : (result : Result ListedSource CopyError) (error : CopyError) → StopsAt new.kept error result → EndsBy (Some error) found.questions
          → FaultEnds result found.questions
      fault (Err Fault) error stops ends = subst (λ error. EndsBy (Some error) found.questions) (sym stops.0) ends
      fault _ error stops ends = tt

      by_result : (result : Result ListedSource CopyError) → StopsAt new.kept error result → (whole : Copied) → LeadsTo (Some error) [] whole new
          → IfOk result (λ listed. Lists (length found.questions) listed whole)
      by_result (Err other) stops whole refused = tt
      by_result (Ok listed) (kept, ending, reported) whole refused =
          before_listed error whole listed (length found.questions) (reported_out _ error reported refused.1) kept ending reported
          (is_refused error (layout_copied whole) refused.0 reported)

-- an error without a definition, and the causes of all
pub no_report_all : (done : List PlacedLine) (lines : List Line) (result : Result ListedSource CopyError) → Finishes done lines result → IfErr result GivesNoReport
no_report_all done lines (Ok listed) finishes = tt
no_report_all done lines (Err error) finishes = subst GivesNoReport (sym finishes) tt

pub causes_all : (a b : ShelfState) (done : List PlacedLine) (lines : List Line) (result : Result ListedSource CopyError) → Finishes done lines result
    → ReadWithinLimit most_bytes a b → ListCauses result a b
causes_all a b done lines (Ok listed) finishes within = by_ending listed.ending finishes.1
  where
    by_ending : (ending : ListedEnding) → FinishesBy done lines ending → RefusedCauses (refused_in ending) a b
    by_ending (Whole known) finishes = within
    by_ending (After known number error) finishes =
        subst (λ error. ShelfCauses error a b) (sym finishes.1.is) (finishes.1.own, within)
    by_ending (Before error) finishes = absurd finishes
causes_all a b done lines (Err error) finishes within = subst (λ error. ShelfCauses error a b) (sym finishes) within

abbrev module_answers : Result object.Module (Refusal AsmCause) → Result object.Module (Refusal AsmCause) → Type 0
module_answers a b = a ≡ b

-- what the second checks make of lines that were taken
assembled_by : (answer : Result (List AssembledLine) (Refusal AsmCause)) (lines : List Line) (module_ : object.Module)
    → (answer >>= λ found. Ok (module_by lines found)) ≡ Ok module_ → (found : List AssembledLine) × (answer ≡ Ok found)
assembled_by (Ok found) lines module_ e = (found, refl)
assembled_by (Err refusal) lines module_ e = cc e

assembled_not : (answer : Result (List AssembledLine) (Refusal AsmCause)) (lines : List Line) (refusal : Refusal AsmCause)
    → module_answers (answer >>= λ found. Ok (module_by lines found)) (Err refusal) → answer ≡ Err refusal
assembled_not (Ok found) lines refusal e = cc e
assembled_not (Err found) lines refusal e = cc e

module _ (done : List PlacedLine) (builder : AsmLines) (has : HasAccepted (texts done) builder) where
  after_is : module_of_lines (texts done) ≡ module_after has.lines
  after_is = ap (λ answer. answer >>= module_after) has.line_layout

  pub all_assembled : (module_ : object.Module) → module_of_lines (texts done) ≡ Ok module_ → AllAssembled has.lines
  all_assembled module_ e = assembled_by (assembled_lines (assembled_line (names has.lines)) has.lines) has.lines module_ (sym after_is ∙ e)

  pub refused_reported : (runs : List Run) (error : AsmError) (found : RefusedLine) → places_of runs ≡ places done → RefusesAt error (module_of_lines (texts done))
      → RefusesLine runs error (Ok found) → RefusedAfter done has.lines found.number found.error
  refused_reported runs asm.Memory found kept refuses reported = absurd reported
  refused_reported runs (asm.At line cause) found kept refuses reported =
      let is = refusal_is line cause _ refuses in
      record {
        at = reported.at;
        cause = cause;
        is = reported.is;
        own = is.0;
        assembled_lines = subst (λ n. AssembledAs has.lines n cause) (sym reported.number)
            (assembled_not (assembled_lines (assembled_line (names has.lines)) has.lines) has.lines (record { line = line; cause = cause }) (sym after_is ∙ is.1));
        place = reported.place ∙ ap (λ places. place_of places found.number) kept;
      }
