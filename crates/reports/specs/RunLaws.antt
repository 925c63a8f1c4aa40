-- What holds of all runs of a program that end as `EndsBy` says.
use Rattle.std.specs.Prelude.{◌≡◌, ◌≢◌, Some}
use Rattle.base_defs.specs.Counts.{Rose}
use Rattle.report_defs.specs.declared.status.Status.{Status}
use Rattle.report_defs.specs.declared.status.Status.TheVariants.{Memory}
use Rattle.report_defs.specs.Report.{Report, status_of}
use Rattle.reports.specs.Outputs.{Outputs, WroteReport}
use Rattle.reports.specs.Run.{Program, Run, EndsBy}
use Rattle.reports.specs.Streams.{StreamsGetTheReport}

-- there is at most one report of each command on what it reads
abbrev pub OneReport : {C W X : Type 0} → Program C W X → Type 0
OneReport {C} {W} {X} p =
    (command : C) (read : X) (first second : Report)
    → p.ReportOn command read first → p.ReportOn command read second → first ≡ second

-- no count of faults rose in a run
pub record HasNoFault {C W X : Type 0} (p : Program C W X) (run : Run C W) : Type 0 where
  pub reading : p.Fails run.before run.after → ⊥
  pub out : Rose run.outputs.out.faults run.outputs.out'.faults → ⊥
  pub err : Rose run.outputs.err.faults run.outputs.err'.faults → ⊥

-- There is a report, and it is the only one; it was written whole, and the status is its own.
pub record WroteTheReport (Reports : Report → Type 0) (outputs : Outputs) (status : Status) : Type 0 where
  pub report : Report
  pub reported : Reports report
  pub only : (other : Report) → Reports other → other ≡ report
  pub status_is : status ≡ status_of report
  pub wrote : WroteReport outputs report

-- Where the words say a command, what it reads is shown and no count rose, there is one report on this, it was written
-- whole, and the status is its own; or memory ran out.
abbrev pub Completeness : {C W X : Type 0} → Program C W X → Type 0
Completeness {C} {W} {X} p =
    (run : Run C W) (command : C) (read : X) (end : Status)
    → run.parsed ≡ Some command → p.Shows command run.before read → HasNoFault p run
    → EndsBy p run end → end ≢ Memory
    → WroteTheReport (p.ReportOn command read) run.outputs end

-- the words of two runs say the same, and what their command reads is shown and is the same
pub record BeginAlike {C W X : Type 0} (p : Program C W X) (first second : Run C W) : Type 0 where
  pub parsed : first.parsed ≡ second.parsed
  pub read : X
  pub one : (command : C) → first.parsed ≡ Some command → p.Shows command first.before read
  pub other : (command : C) → second.parsed ≡ Some command → p.Shows command second.before read

-- two such runs in which no count rose have one status, if memory runs out in neither
abbrev pub OneAnswer : {C W X : Type 0} → Program C W X → Type 0
OneAnswer {C} {W} {X} p =
    (first second : Run C W) (one other : Status)
    → BeginAlike p first second → HasNoFault p first → HasNoFault p second
    → EndsBy p first one → EndsBy p second other → one ≢ Memory → other ≢ Memory
    → one ≡ other

-- The laws of a program, which are proved of each.
pub record LawsOfProgram {C W X : Type 0} (p : Program C W X) : Type 0 where
  pub one_report : OneReport p
  pub completeness : Completeness p
  pub one_answer : OneAnswer p
  pub streams : StreamsGetTheReport p
