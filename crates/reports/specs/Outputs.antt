-- How the writing of a report ends, and what the two outputs are then.
use Rattle.std.specs.Prelude.{◌≡◌, ◌⊎◌, [], ◌∷◌}
use Rattle.bench_io.specs.Stream.{SinkState}
use Rattle.bench_io.specs.Written.{Wrote, Missed}
use Rattle.report_defs.specs.declared.status.Status.{Status}
use Rattle.report_defs.specs.declared.status.Status.TheVariants.{ReadFault, WriteFault}
use Rattle.report_defs.specs.declared.status.Status.TheVariants.{Memory}
use Rattle.report_defs.specs.FaultLine.{fault_line}
use Rattle.report_defs.specs.Report.{Report, Whole, Faulty, Rejected, RejectedAfter, status_of}

-- the output and the error output before and after the run
pub record Outputs : Type 0 where
  pub out : SinkState
  pub out' : SinkState
  pub err : SinkState
  pub err' : SinkState

-- the report was written to the one output that it goes to, and nothing to the other; or its pieces to the first output
-- and its line to the other
abbrev pub WroteReport : Outputs → Report → Type 0
WroteReport o (Whole status pieces) = Wrote o.out o.out' pieces × (o.err' ≡ o.err)
WroteReport o (Faulty fault) = Wrote o.err o.err' (fault_line fault ∷ []) × (o.out' ≡ o.out)
WroteReport o (Rejected line) = Wrote o.err o.err' (line ∷ []) × (o.out' ≡ o.out)
WroteReport o (RejectedAfter pieces line) = Wrote o.out o.out' pieces × Wrote o.err o.err' (line ∷ [])

-- The output that the report goes to failed: it grew by a front of what it was to get. Of one that goes to both the
-- first failed, and the other is as it was; or the first got all pieces, and the other failed at the line.
abbrev pub MissedReport : Outputs → Report → Type 0
MissedReport o (Whole status pieces) = Missed o.out o.out' pieces × (o.err' ≡ o.err)
MissedReport o (Faulty fault) = Missed o.err o.err' (fault_line fault ∷ []) × (o.out' ≡ o.out)
MissedReport o (Rejected line) = Missed o.err o.err' (line ∷ []) × (o.out' ≡ o.out)
MissedReport o (RejectedAfter pieces line) =
    (Missed o.out o.out' pieces × (o.err' ≡ o.err)) ⊎ (Wrote o.out o.out' pieces × Missed o.err o.err' (line ∷ []))

-- How the writing of a report ends: by its own status if it was written, else by a write fault. No report has the
-- status of a failed read or of a lack of memory.
abbrev pub EndsWith : Outputs → Report → Status → Type 0
EndsWith o report ReadFault = ⊥
EndsWith o report Memory = ⊥
EndsWith o report WriteFault = MissedReport o report
EndsWith o report end = (status_of report ≡ end) × WroteReport o report
