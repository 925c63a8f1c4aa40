-- Runs over streams, by runs over the adapters, and what the streams hold after them.
use Rattle.std.proofs.Common.{◌≡◌, ℕ, List, [], ◌++◌, Option, Some, Bool, true, false, sym, ap, ◌∙◌, subst, append-nil}
use Rattle.std.specs.Prelude.{if◌then◌else◌, IfSome}
use Rattle.bench_io.specs.Stream.{SourceState, SinkState}
use Rattle.bench_io.specs.Shown.{ShowsStream, Unbuffered}
use Rattle.report_defs.specs.declared.status.Status.{Status}
use Rattle.report_defs.specs.declared.status.Status.TheVariants as status
use Rattle.report_defs.specs.FaultLine.{fault_line}
use Rattle.report_defs.specs.Report.{Report, Whole, Faulty, Rejected, RejectedAfter, status_of}
use Rattle.reports.specs.Outputs.{Outputs, WroteReport}
use Rattle.reports.specs.Run.{Program, EndsBy}
use Rattle.reports.specs.Streams.{Ending, Streams, EndsOver, EndsThrough, IsWhole, StreamsHoldTheReport, StreamsGetTheReport}
use Rattle.reports.specs.Streams.{new_source, new_sink, read_once, output_of, error_output_of, run_ending}
use Rattle.reports.specs.RunLaws.{OneReport}

-- a run over adapters that were just made
pub run_ends : (Ends : Ending) (a b after : SourceState) (x y out' u v err' : SinkState) (end : Status)
    → a ≡ b → x ≡ y → u ≡ v
    → Ends (read_once a) after (record { out = x; out' = out'; err = u; err' = err' }) end
    → Ends (read_once b) after (record { out = y; out' = out'; err = v; err' = err' }) end
run_ends Ends a b after x y out' u v err' end same out err ends =
    subst (λ (s : SourceState). Ends (read_once s) after (record { out = y; out' = out'; err = v; err' = err' }) end) same
    (subst (λ (s : SinkState). Ends (read_once a) after (record { out = s; out' = out'; err = v; err' = err' }) end) out
    (subst (λ (s : SinkState). Ends (read_once a) after (record { out = x; out' = out'; err = s; err' = err' }) end) err ends))

module _ (out_before err_before : List ℕ) (out err : SinkState) where
  abbrev outputs : Outputs
  outputs = record { out = new_sink (Some out_before); out' = out; err = new_sink (Some err_before); err' = err }

  -- a writer that got nothing
  same_held : (bytes : List ℕ) (after : SinkState) → after ≡ new_sink (Some bytes) → after.held ≡ Some (bytes ++ [])
  same_held bytes after same = ap (λ (s : SinkState). s.held) same ∙ sym (ap Some (append-nil bytes))

  -- one that got a line in one piece
  line_held : (bytes line : List ℕ) (after : SinkState) → after.held ≡ Some (bytes ++ (line ++ []))
      → after.held ≡ Some (bytes ++ line)
  line_held bytes line after is = is ∙ ap (λ text. Some (bytes ++ text)) (append-nil line)

  out_holds : (report : Report) → WroteReport outputs report → out.held ≡ Some (out_before ++ output_of report)
  out_holds (Whole status pieces) wrote = wrote.0.held
  out_holds (Faulty fault) wrote = same_held out_before out wrote.1
  out_holds (Rejected line) wrote = same_held out_before out wrote.1
  out_holds (RejectedAfter pieces line) wrote = wrote.0.held

  err_holds : (report : Report) → WroteReport outputs report → err.held ≡ Some (err_before ++ error_output_of report)
  err_holds (Whole status pieces) wrote = same_held err_before err wrote.1
  err_holds (Faulty fault) wrote = line_held err_before (fault_line fault) err wrote.0.held
  err_holds (Rejected line) wrote = line_held err_before line err wrote.0.held
  err_holds (RejectedAfter pieces line) wrote = line_held err_before line err wrote.1.held

-- reports on what was read are reports on what was shown
abbrev ReportsOnShown : {C W X : Type 0} → Program C W X → Type 0
ReportsOnShown {C} {W} {X} p =
    (command : C) (before after : W) (read : X) (report : Report) → p.Shows command before read
    → p.Reports command before after report → p.ReportOn command read report

module _ {C W X : Type 0} (p : Program C W X) (one_report : OneReport p) (shown : ReportsOnShown p) (command : C)
    (enter leave : SourceState → W) (read : X) (bytes out_before err_before : List ℕ)
    (shows : p.Shows command (enter (new_source (Some bytes))) read) where
  abbrev streams : Streams
  streams = record { left = Some bytes; out = Some out_before; err = Some err_before }

  holds : (source : SourceState) (out err : SinkState) (end : Status) (report : Report)
      → p.Reports command (enter (new_source (Some bytes))) (leave (read_once source)) report
      → status_of report ≡ end → WroteReport (outputs out_before err_before out err) report
      → StreamsHoldTheReport (p.ReportOn command read) out_before err_before out err end
  holds source out err end report on same wrote =
      let reported = shown command (enter (new_source (Some bytes))) (leave (read_once source)) read report shows on in
      record {
        report = report;
        reported = reported;
        only = λ other also. one_report command read other report also reported;
        status_is = sym same;
        out_holds = out_holds out_before err_before out err report wrote;
        err_holds = err_holds out_before err_before out err report wrote;
      }

  over : (source : SourceState) (out err : SinkState) (end : Status) → IsWhole end
      → EndsOver (run_ending p command enter leave) streams source out err end
      → StreamsHoldTheReport (p.ReportOn command read) out_before err_before out err end
  over source out err status.Done whole (report, on, (same, wrote)) = holds source out err status.Done report on same wrote
  over source out err status.Refused whole (report, on, (same, wrote)) =
      holds source out err status.Refused report on same wrote
  over source out err status.Usage whole ends = absurd whole
  over source out err status.ReadFault whole ends = absurd whole
  over source out err status.WriteFault whole ends = absurd whole
  over source out err status.Memory whole ends = absurd whole
  over source out err status.Stopped whole (report, on, (same, wrote)) =
      holds source out err status.Stopped report on same wrote

  -- what came through a buffer that was written out
  came_through : (wrote out err : SinkState) (end last : Status) → last ≡ end → ShowsStream wrote.held out.held
      → StreamsHoldTheReport (p.ReportOn command read) out_before err_before wrote err end
      → StreamsHoldTheReport (p.ReportOn command read) out_before err_before out err last
  came_through wrote out err end last same shown had = record {
    report = had.report;
    reported = had.reported;
    only = had.only;
    status_is = same ∙ had.status_is;
    out_holds = subst (λ (o : Option (List ℕ)). IfSome o (λ held. out.held ≡ Some held)) had.out_holds shown;
    err_holds = had.err_holds;
  }

  through : (source : SourceState) (out err wrote : SinkState) (end last : Status) (is_written : Bool)
      → IsWhole last → EndsOver (run_ending p command enter leave) streams source wrote err end
      → Unbuffered wrote out is_written → last ≡ (if is_written then end else status.WriteFault)
      → StreamsHoldTheReport (p.ReportOn command read) out_before err_before out err last
  through source out err wrote end last true whole ends came same =
      came_through wrote out err end last same came.0 (over source wrote err end (subst IsWhole same whole) ends)
  through source out err wrote end last false whole ends came same = absurd (subst IsWhole same whole)

pub streams_get_the_report : {C W X : Type 0} (p : Program C W X) → OneReport p → ReportsOnShown p → StreamsGetTheReport p
streams_get_the_report p one_report shown = record {
  over = λ command enter leave read bytes out_before err_before source out err end shows whole ends.
      over p one_report shown command enter leave read bytes out_before err_before shows source out err end whole ends;
  through = λ command enter leave read bytes out_before err_before source out err end shows whole ends.
      through p one_report shown command enter leave read bytes out_before err_before shows source out err ends.wrote ends.end
      end ends.is_written whole ends.ends ends.came ends.status_is;
}

-- the runs of a program under words that say a command, or none
abbrev pub parsed_ending : {C W X : Type 0} → Program C W X → Option C → (SourceState → W) → (SourceState → W) → Ending
parsed_ending p parsed enter leave before after outputs end =
    EndsBy p (record { parsed = parsed; before = enter before; after = leave after; outputs = outputs }) end

-- Runs over a slice and two vectors, which were empty. They hold the report, if it was written whole.
pub vectors_hold_the_report : {C W X : Type 0} (p : Program C W X) → StreamsGetTheReport p
    → (enter leave : SourceState → W) (parsed : Option C) (bytes out_bytes err_bytes : List ℕ) (held : Option (List ℕ))
    (source : SourceState) (out err : SinkState) (end : Status) → held ≡ Some [] → IsWhole end
    → EndsThrough (parsed_ending p parsed enter leave) (record { left = Some bytes; out = held; err = Some [] }) source out err end
    → ShowsStream out.held (Some out_bytes) → ShowsStream err.held (Some err_bytes)
    → (command : C) (read : X) → parsed ≡ Some command → p.Shows command (enter (new_source (Some bytes))) read
    → StreamsHoldTheReport (p.ReportOn command read) [] [] (new_sink (Some out_bytes)) (new_sink (Some err_bytes)) end
vectors_hold_the_report {C} p get enter leave parsed bytes out_bytes err_bytes held source out err end none whole ends shown
    shown' command read is shows =
    let Ends : Option C → Option (List ℕ) → Type 0 = λ s h.
    EndsThrough (parsed_ending p s enter leave) (record { left = Some bytes; out = h; err = Some [] }) source out err end
    in
    let over = subst (λ s. Ends s (Some [])) is (subst (λ h. Ends parsed h) none ends) in
    let had = get.through command enter leave read bytes [] [] source out err end shows whole over in
    record {
      report = had.report;
      reported = had.reported;
      only = had.only;
      status_is = had.status_is;
      out_holds = subst (λ (o : Option (List ℕ)). IfSome o (λ bytes. Some out_bytes ≡ Some bytes)) had.out_holds shown;
      err_holds = subst (λ (o : Option (List ℕ)). IfSome o (λ bytes. Some err_bytes ≡ Some bytes)) had.err_holds shown';
    }
