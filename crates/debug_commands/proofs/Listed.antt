-- How a listing ends that is written.
use Rattle.std.proofs.Common.{◌≡◌, ℕ, List, Ok, Err, true, false, refl, sym, subst, inl, inr}
use Rattle.std.specs.Prelude.{Result}
use Rattle.std.specs.Result.{is_err}
use Rattle.source_defs.specs.Refusals.{Refusal}
use Rattle.gpl_source_defs.specs.declared.causes.GplCause.{GplCause}
use Rattle.bench_io.specs.Written.{Wrote, Missed, Written}
use Rattle.report_defs.specs.declared.status.Status.{Status}
use Rattle.report_defs.specs.declared.status.Status.TheVariants as status
use Rattle.report_defs.specs.Report.{RejectedAfter}
use Rattle.reports.specs.Outputs.{Outputs, EndsWith}
use Rattle.reports.specs.Answers.{EndsByLine}
use Rattle.gpl_list_defs.specs.Listing.{report_by}

-- the rows were not written
rows_left : {T E : Type 0} (r : Result T E) (o : Outputs) (lines : List (List ℕ)) → is_err r ≡ true → Written r o.out o.out' lines
    → Missed o.out o.out' lines
rows_left (Ok value) o lines failed written = absurd cc
rows_left (Err error) o lines failed missed = missed

missed_rows : (o : Outputs) (lines : List (List ℕ)) (refused : Result Unit (Refusal GplCause)) → Missed o.out o.out' lines → o.err' ≡ o.err
    → EndsWith o (report_by lines refused) status.WriteFault
missed_rows o lines (Ok done) missed same = (missed, same)
missed_rows o lines (Err refused) missed same = inl (missed, same)

pub rows_missed : {T E : Type 0} (r : Result T E) (o : Outputs) (lines : List (List ℕ)) (refused : Result Unit (Refusal GplCause)) → is_err r ≡ true
    → Written r o.out o.out' lines → o.err' ≡ o.err → EndsWith o (report_by lines refused) status.WriteFault
rows_missed r o lines refused failed written same = missed_rows o lines refused (rows_left r o lines failed written) same

-- the rows were written
pub rows_written : {T E : Type 0} (r : Result T E) (o : Outputs) (lines : List (List ℕ)) → is_err r ≡ false → Written r o.out o.out' lines
    → Wrote o.out o.out' lines
rows_written (Ok value) o lines whole wrote = wrote
rows_written (Err error) o lines whole missed = absurd cc

-- the rows were written, and then the line of what is refused is written
pub line_written : (o : Outputs) (lines : List (List ℕ)) (line : List ℕ) (end : Status) → Wrote o.out o.out' lines
    → EndsByLine line status.Refused o.err o.err' end → EndsWith o (RejectedAfter lines line) end
line_written o lines line end wrote (inl (is, reported)) =
    subst (λ (end : Status). EndsWith o (RejectedAfter lines line) end) (sym is) (refl, (wrote, reported))
line_written o lines line end wrote (inr (is, missed)) =
    subst (λ (end : Status). EndsWith o (RejectedAfter lines line) end) (sym is) (inr (wrote, missed))
