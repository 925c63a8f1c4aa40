-- What `asm` reports of a source stands for the source's module.
use Rattle.std.proofs.Common.{◌≡◌, ℕ, ◌≤◌, Bool, true, false, List, [], ◌∷◌, Ok, Err, length, refl, sym, ap, subst, ◌∙◌, arith}
use Rattle.std.specs.Prelude.{Result, nat_lt}
use Rattle.std.specs.List.{concat}
use Rattle.std.proofs.lemmas.Bool.Decides.{nat_tests}
use Rattle.source_defs.specs.Refusals.{Refusal}
use Rattle.source_defs.specs.Lines.{line_texts}
use Rattle.object_defs.specs.Modules.{Module, HasText}
use Rattle.object_defs.specs.Writing.{written_lines, written}
use Rattle.object_defs.specs.Reading.{read}
use Rattle.object_defs.specs.Laws.{IsModule}
use Rattle.object_laws.proofs.Written.{written_modules_are_read}
use Rattle.asm_defs.specs.declared.causes.AsmCause.{AsmCause}
use Rattle.asm_defs.specs.Modules.{module_of_source}
use Rattle.asm_core.proofs.TextLaws.{module_has_text}
use Rattle.report_defs.specs.declared.command.Command.TheVariants.{Asm}
use Rattle.report_defs.specs.declared.status.Status.TheVariants.{Done}
use Rattle.report_defs.specs.ObjectInput.{linked_input, linked_modules}
use Rattle.report_defs.specs.Report.{Whole, largest_input, asm_report, link_report, ExecReport, ReportOn}
use Rattle.source_modules.specs.Laws.{linked_alone, IsTextOf, AssembledTextsAreRead}
use Rattle.source_modules.proofs.Bytes.{bytes_of}
use Rattle.source_modules.proofs.Modules.{source_module}

-- an input that may be read
pub small : (text : List ℕ) → length text ≤ largest_input → nat_lt largest_input (length text) ≡ false
small text le = grind (arith, nat_tests, le)

-- the text of a module stands for it
pub is_text_of : (m : Module) (text : List ℕ) → IsModule m → HasText m → text ≡ written m → length text ≤ largest_input → IsTextOf m text
is_text_of m text is has same le =
    let reads : read text ≡ Ok (m ∷ []) = ap read same ∙ written_modules_are_read m is has in
    let links : linked_input text ≡ linked_alone m = ap linked_modules reads in
    let fits = small text le in
    record {
      reads = reads;
      links = links;
      link = rw fits (ap link_report (sym links));
      exec = λ limit report reported. subst (λ memory. ExecReport limit memory report) links (rw fits at reported);
      runs = λ limit report runs. rw fits (subst (λ memory. ExecReport limit memory report) (sym links) runs);
    }

-- a module whose text was written
pub record WasWritten (found : Result Module (Refusal AsmCause)) (pieces : List (List ℕ)) : Type 0 where
  pub m : Module
  pub found_is : found ≡ Ok m
  pub joined : concat pieces ≡ written m

was_written : (found : Result Module (Refusal AsmCause)) (pieces : List (List ℕ)) → Whole Done pieces ≡ asm_report found → WasWritten found pieces
was_written (Ok m) pieces is =
    let same : pieces ≡ written_lines m = cc is in record { m = m; found_is = refl; joined = ap concat same }
was_written (Err refused) pieces is = absurd (cc is)

large_not : (large : Bool) (source : List ℕ) (pieces : List (List ℕ)) → nat_lt largest_input (length source) ≡ large → ReportOn Asm source (Whole Done pieces)
    → Whole Done pieces ≡ asm_report (module_of_source source)
large_not true source pieces e reported = absurd (cc (rw e at reported))
large_not false source pieces e reported = rw e at reported

pub assembled_texts_are_read : AssembledTextsAreRead
assembled_texts_are_read source pieces bytes reported le =
    let is = large_not (nat_lt largest_input (length source)) source pieces refl reported in
    let it = was_written (module_of_source source) pieces is in
    let whole = source_module source it.m (bytes_of source bytes.fits) it.found_is in
    (it.m, it.found_is, is_text_of it.m (concat pieces) whole (module_has_text (line_texts source) it.m it.found_is) it.joined le)
