-- One run of a program: how it may end, and what it reads and the two outputs are then.
use Rattle.std.specs.Prelude.{◌≡◌, ◌⊎◌, ℕ, List, Option, Some, None}
use Rattle.report_defs.specs.declared.status.Status.{Status}
use Rattle.report_defs.specs.declared.status.Status.TheVariants.{Usage, ReadFault, WriteFault}
use Rattle.report_defs.specs.declared.status.Status.TheVariants.{Memory}
use Rattle.report_defs.specs.Report.{Report}
use Rattle.reports.specs.Outputs.{Outputs, EndsWith, MissedReport}
use Rattle.reports.specs.Answers.{EndsByLine}

-- A program, by the commands C that its words may say, and the state W of what it reads: its input, or its input and a
-- shelf of files. X is what that state may show: the bytes of the input, and the files.
pub record Program (C W X : Type 0) : Type 1 where
  -- the line that says how the program is called
  pub usage : List ℕ
  -- the reports of a command that took what it read from one state to another
  pub Reports : C → W → W → Report → Type 0
  -- what such a command may have written before the end of its report is known
  pub Begins : C → W → W → Report → Type 0
  -- what a command leaves that wrote nothing
  pub Leaves : C → W → W → Type 0
  -- a call failed of what the command reads
  pub ReadFails : C → W → W → Type 0
  -- a count of faults rose
  pub Fails : W → W → Type 0
  -- a state shows what the command reads
  pub Shows : C → W → X → Type 0
  -- the report of a command on what it reads
  pub ReportOn : C → X → Report → Type 0

-- what the words say, what is read before and after the run, and the outputs
pub record Run (C W : Type 0) : Type 0 where
  pub parsed : Option C
  pub before : W
  pub after : W
  pub outputs : Outputs

-- the run ended by the writing of its report, whole or up to where an output failed
abbrev pub EndsByReport : {C W X : Type 0} → Program C W X → C → Run C W → Status → Type 0
EndsByReport p command run end =
    (report : Report) × p.Reports command run.before run.after report × EndsWith run.outputs report end

-- An output failed: it got a front of the report, or of what is written before the end of the report is known.
abbrev pub EndsByFault : {C W X : Type 0} → Program C W X → C → Run C W → Type 0
EndsByFault p command run =
    EndsByReport p command run WriteFault
    ⊎ (front : Report) × p.Begins command run.before run.after front × MissedReport run.outputs front

-- nothing was written
pub record WroteNothing {C W X : Type 0} (p : Program C W X) (command : C) (run : Run C W) : Type 0 where
  pub leaves : p.Leaves command run.before run.after
  pub out : run.outputs.out' ≡ run.outputs.out
  pub err : run.outputs.err' ≡ run.outputs.err

-- Words that say no command are answered by how the program is called. Nothing is read.
pub record EndsByUsage {C W X : Type 0} (p : Program C W X) (run : Run C W) (end : Status) : Type 0 where
  pub unread : run.after ≡ run.before
  pub out : run.outputs.out' ≡ run.outputs.out
  pub line : EndsByLine p.usage Usage run.outputs.err run.outputs.err' end

-- The statuses of a command, each with its cause. None is the one of usage. Memory that runs out has no cause, but it
-- is never reported after something was written.
abbrev pub EndsParsed : {C W X : Type 0} → Program C W X → Option C → Run C W → Status → Type 0
EndsParsed p None run end = EndsByUsage p run end
EndsParsed p (Some command) run Usage = ⊥
EndsParsed p (Some command) run ReadFault = WroteNothing p command run × p.ReadFails command run.before run.after
EndsParsed p (Some command) run WriteFault = EndsByFault p command run
EndsParsed p (Some command) run Memory = WroteNothing p command run
EndsParsed p (Some command) run end = EndsByReport p command run end

abbrev pub EndsBy : {C W X : Type 0} → Program C W X → Run C W → Status → Type 0
EndsBy p run end = EndsParsed p run.parsed run end
