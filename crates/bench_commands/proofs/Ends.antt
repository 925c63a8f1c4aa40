-- How a run of a command ends, of a program over one input.
use Rattle.std.proofs.Common.{◌≡◌, List, length, Bool, true, false, [], refl, sym, subst, inl, inr, arith, rules}
use Rattle.std.proofs.Common.{ℕ, ◌≤◌, ◌∙◌, Some, None, Result, Ok, Err}
use Rattle.std.specs.Prelude.{nat_lt, IsTrue}
use Rattle.std.proofs.lemmas.Bool.Decides.{nat_tests}
use Rattle.bench_io.specs.Stream.{SourceState}
use Rattle.bench_io.specs.ReadAll.{Consumed, GaveUp}
use Rattle.bench_io.specs.declared.whole.ReadError.{ReadError}
use Rattle.bench_io.specs.declared.whole.ReadError.TheVariants as error
use Rattle.report_defs.specs.declared.fault.Fault.TheVariants as fault
use Rattle.report_defs.specs.declared.status.Status.{Status}
use Rattle.report_defs.specs.declared.status.Status.TheVariants as status
use Rattle.report_defs.specs.FaultLine.{fault_line}
use Rattle.report_defs.specs.Report as spec
use Rattle.reports.specs.Outputs.{Outputs, MissedReport, EndsWith}
use Rattle.reports.specs.Answers.{Ends, read_answer, WantsMemory, Reported, EndsByLine}
use Rattle.reports.specs.Run.{Run, EndsBy, WroteNothing}
use Rattle.reports.proofs.Runs as runs
use Rattle.reports.proofs.NoUsage.{IsNoUsage}
use Rattle.bench_commands.specs.InputRun.{ReadsInput, Reads, TakesWhole, InputCommands, Reports, Begins, Leaves, input_program}

-- an input that was taken whole
pub reads_whole : (reading : Bool) (before after : SourceState) (bytes : List ℕ) → TakesWhole reading before after bytes → Reads reading before after bytes
reads_whole true before after bytes whole =
    let within = whole.within in
    let below : nat_lt spec.largest_input (length bytes) ≡ false = grind (arith, nat_tests) in
    record { consumed = rw below whole.consumed; within = omega arith; whole = λ le. whole.end }
reads_whole false before after bytes nothing = nothing

pub takes_within : (reading : Bool) (before after : SourceState) (bytes : List ℕ) → TakesWhole reading before after bytes → length bytes ≤ spec.largest_input
takes_within true before after bytes whole = whole.within
takes_within false before after bytes nothing = rw nothing.1 (omega arith)

consumed_nothing : (input : SourceState) → Consumed input input [] 0
consumed_nothing input = search rules

-- no report of a command has the status of words that say no command
abbrev pub HasNoUsage : {C : Type 0} → InputCommands C → Type 0
HasNoUsage {C} p =
    (command : C) (input : List ℕ) (report : spec.Report) → spec.OnInput (p.Accepted command) input report → IsNoUsage report

-- the run of a command
module _ {C : Type 0} (p : InputCommands C) (no_usage : HasNoUsage p) (command : C) (input input' : SourceState) (o : Outputs) where
  abbrev pub run_of : Run C SourceState
  run_of = record { parsed = Some command; before = input; after = input'; outputs = o }

  -- it ends as the writing of its report
  pub by_report : (report : spec.Report) (end : Status) → Reports p command input input' report → EndsWith o report end
      → EndsBy (input_program p) run_of end
  by_report report end (bytes, reading, on) ends =
      runs.by_report (input_program p) command run_of report end (bytes, reading, on) (no_usage command bytes report on) ends

  -- or its output failed at a front of it
  pub by_front : (front : spec.Report) → Begins p command input input' front → MissedReport o front
      → EndsBy (input_program p) run_of status.WriteFault
  by_front front begins missed = inr (front, begins, missed)

  -- an input that is too large
  reads_too_much : IsTrue (p.reads command) → GaveUp error.TooLarge spec.largest_input input input'
      → Reports p command input input' (spec.Faulty fault.TooLarge)
  reads_too_much reading (bytes, long, consumed, most) =
      let above : nat_lt spec.largest_input (length bytes) ≡ true = grind (arith, nat_tests) in
      let reads_it : ReadsInput input input' bytes = record { consumed = rw above consumed; within = omega arith; whole = λ le. absurd (omega arith) } in
      (bytes, rw reading reads_it, rw above refl)

  -- what was taken of an input that is read
  leaves : (bytes : List ℕ) (empty : ℕ) → IsTrue (p.reads command) → length bytes ≤ spec.largest_input → empty ≤ 1
      → Consumed input input' bytes empty → Leaves p command input input'
  leaves bytes empty reading within one consumed =
      (record { bytes = bytes; within = within; empty = empty; one = one; consumed = consumed }, λ unread. absurd cc)

  wrote_none : Leaves p command input input' → o.out' ≡ o.out → o.err' ≡ o.err → WroteNothing (input_program p) command run_of
  wrote_none leaves out err = record { leaves = leaves; out = out; err = err }

  -- or it was taken whole
  pub wrote_nothing : (bytes : List ℕ) → TakesWhole (p.reads command) input input' bytes → o.out' ≡ o.out → o.err' ≡ o.err
      → WroteNothing (input_program p) command run_of
  wrote_nothing bytes takes out err = wrote_none (by (p.reads command) refl takes) out err
    where
      by : (reading : Bool) → p.reads command ≡ reading → TakesWhole reading input input' bytes → Leaves p command input input'
      by true reading whole = leaves bytes 1 reading whole.within (omega arith) whole.consumed
      by false reading nothing =
          let consumed : Consumed input input' [] 0 = subst (λ (after : SourceState). Consumed input after [] 0) (sym nothing.0) (consumed_nothing input) in
          (record { bytes = []; within = omega arith; empty = 0; one = omega arith; consumed = consumed }, λ unread. nothing.0)

  -- the input was not read
  pub by_unread : (unread : ReadError) (end : Status) → IsTrue (p.reads command) → GaveUp unread spec.largest_input input input'
      → Ends o (read_answer unread) end → EndsBy (input_program p) run_of end
  by_unread error.TooLarge end reading gave ends = by_report (spec.Faulty fault.TooLarge) end (reads_too_much reading gave) ends
  by_unread error.Fault end reading (bytes, within, consumed, rose) (is, out, err) =
      subst (EndsBy (input_program p) run_of) (sym is)
      (wrote_none (leaves bytes 1 reading within (omega arith) consumed) out err, (reading, rose))
  by_unread error.Memory end reading (bytes, within, consumed) (is, out, err) =
      subst (EndsBy (input_program p) run_of) (sym is)
      (wrote_none (leaves bytes 0 reading within (omega arith) consumed) out err)

  -- the input was taken whole
  module _ (bytes : List ℕ) (takes : TakesWhole (p.reads command) input input' bytes) where
    pub reading : Reads (p.reads command) input input' bytes
    reading = reads_whole (p.reads command) input input' bytes takes

    pub within : length bytes ≤ spec.largest_input
    within = takes_within (p.reads command) input input' bytes takes

    -- the run ends as what was made of it
    pub by_answer : (answer : Result spec.Report Status) (end : Status) → Reported (p.Accepted command bytes) WantsMemory answer
        → Ends o answer end → EndsBy (input_program p) run_of end
    by_answer (Ok report) end accepted ends =
        let below : nat_lt spec.largest_input (length bytes) ≡ false = let le = within in grind (arith, nat_tests) in
        by_report report end (bytes, reading, rw below accepted) ends
    by_answer (Err own) end memory (is, out, err) =
        subst (EndsBy (input_program p) run_of) (sym (is ∙ memory)) (wrote_nothing bytes takes out err)

-- words that say no command
pub by_usage : {C : Type 0} (p : InputCommands C) (input : SourceState) (o : Outputs) (end : Status)
    → EndsByLine p.usage status.Usage o.err o.err' end → o.out' ≡ o.out
    → EndsBy (input_program p) (record { parsed = None; before = input; after = input; outputs = o }) end
by_usage p input o end line out = record { unread = refl; out = out; line = line }

-- the same, by the fault that is reported of them
pub line_of_usage : (o : Outputs) (end : Status) → EndsWith o (spec.Faulty fault.Usage) end
    → EndsByLine (fault_line fault.Usage) status.Usage o.err o.err' end × (o.out' ≡ o.out)
line_of_usage o status.Done ends = absurd (let is = ends.0 in cc)
line_of_usage o status.Refused ends = absurd (let is = ends.0 in cc)
line_of_usage o status.Usage (is, (wrote, out)) = (inl (refl, wrote), out)
line_of_usage o status.ReadFault ends = absurd ends
line_of_usage o status.WriteFault (missed, out) = (inr (refl, missed), out)
line_of_usage o status.Memory ends = absurd ends
line_of_usage o status.Stopped ends = absurd (let is = ends.0 in cc)
