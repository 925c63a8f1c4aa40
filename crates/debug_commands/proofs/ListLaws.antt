-- The report of an assembler source with the files that it copies.
use Rattle.std.proofs.Common.{◌≡◌, ℕ, List, refl, sym, ap}
use Rattle.std.specs.Prelude.{Ok, Err, Option, Some, None, IfSome}
use Rattle.shelf_defs.specs.Copied as copied
use Rattle.shelf_defs.specs.Copied.{CopyRefusal, most_bytes}
use Rattle.bench_shelf.specs.States.{ShelfState}
use Rattle.bench_shelf.specs.CopyAnswers.{model_of_cause}
use Rattle.bench_shelf.specs.Causes.{ShelfCauses}
use Rattle.bench_shelf.specs.Listed.{GivesReport, as_result, RefusedAs, RefusedCauses, ListAnswered}
use Rattle.bench_shelf.specs.declared.copy_error.CopyCause.{CopyCause}
use Rattle.bench_shelf.specs.declared.copy_error.CopyCause.TheVariants.{Asm, BadCopy, TooDeep, TooMany, Missing}
use Rattle.bench_shelf.specs.declared.copy_error.CopyError.{CopyError}
use Rattle.bench_shelf.specs.declared.copy_error.CopyError.TheVariants.{At, TooLarge, Fault, Memory}
use Rattle.bench_shelf.proofs.AskedLaws.{some_contents}
use Rattle.file_commands.specs.Reported.{CopyCauses}
use Rattle.asm_list.specs.declared.listing.AsmListing.{AsmListing}
use Rattle.asm_list.specs.Listings.{rows_of, Lists}
use Rattle.debug_report_defs.specs.Listings.{rows_report}
use Rattle.debug_commands.specs.Listed.{RefusalCauses, ListReported, model_of_refusal}

-- the refusal is one that the definitions have
reported_if : (refused : Option CopyError) (defined : Option CopyRefusal) → RefusedAs refused defined → IfSome refused GivesReport
reported_if None defined none = tt
reported_if (Some error) defined (refuses, reported) = reported

same_refusal : (refusal : CopyRefusal) (defined : Option CopyRefusal) → as_result defined ≡ Err refusal → Some refusal ≡ defined
same_refusal refusal None e = absurd cc
same_refusal refusal (Some other) e = let same : other ≡ refusal = cc e in ap Some (sym same)

is_refusal : (refused : Option CopyError) (defined : Option CopyRefusal) → RefusedAs refused defined → model_of_refusal refused ≡ defined
is_refusal None defined none = sym none
is_refusal (Some (At file line cause)) defined (refuses, reported) = same_refusal _ defined refuses.1
is_refusal (Some TooLarge) defined (refuses, reported) = same_refusal copied.TooLarge defined refuses
is_refusal (Some Fault) defined (refuses, reported) = absurd reported
is_refusal (Some Memory) defined (refuses, reported) = absurd reported

module _ (before after : ShelfState) (source : List ℕ) where
  line_causes : (file : Option (List ℕ)) (line : ℕ) (cause : CopyCause) → ShelfCauses (At file line cause) before after
      → CopyCauses (Err (copied.At (record { file = file; line = line }) (model_of_cause cause))) before after
  line_causes file line (Asm cause) causes = causes
  line_causes file line BadCopy causes = causes.1
  line_causes file line TooDeep causes = causes.1
  line_causes file line TooMany causes = causes.1
  line_causes file line (Missing name) causes = causes

  refusal_causes : (refused : Option CopyError) → IfSome refused GivesReport → RefusedCauses refused before after
      → RefusalCauses (model_of_refusal refused) before after
  refusal_causes None reported causes = causes
  refusal_causes (Some (At file line cause)) reported causes = line_causes file line cause causes
  refusal_causes (Some TooLarge) reported causes = causes
  refusal_causes (Some Fault) reported causes = absurd reported
  refusal_causes (Some Memory) reported causes = absurd reported

  pub is_reported : (listing : AsmListing) → ListAnswered Lists before after source (Ok listing) → IfSome listing.refused GivesReport
  is_reported listing answered =
      let some = some_contents most_bytes answered.questions in
      reported_if listing.refused _ (answered.gives some.0 some.1).refused

  pub listing_reported : (listing : AsmListing) → ListAnswered Lists before after source (Ok listing) → RefusedCauses listing.refused before after
      → ListReported before after source (rows_report (rows_of listing) (model_of_refusal listing.refused))
  listing_reported listing answered causes = record {
    questions = answered.questions;
    dialogue = answered.dialogue;
    rows = rows_of listing;
    refusal = model_of_refusal listing.refused;
    gives = λ contents agrees.
        let lists = answered.gives contents agrees in
        record { rows_are = lists.rows; refusal_is = is_refusal listing.refused _ lists.refused; copies = lists.copies };
    causes = refusal_causes listing.refused (is_reported listing answered) causes;
    is = refl;
  }
