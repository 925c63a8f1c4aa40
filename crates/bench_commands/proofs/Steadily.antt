-- What is answered where nothing fails.
use Rattle.std.proofs.Common.{◌≡◌, ◌≢◌, ◌⊎◌, ◌<◌, ℕ, [], Option, Some, None, refl, sym, subst, inl, inr, arith}
use Rattle.std.specs.Prelude.{Bool, true, false, List, MatchBool, if◌then◌else◌}
use Rattle.bench_io.specs.Memory.{Supply}
use Rattle.bench_io.specs.Stream.{SinkCounts, SourceState}
use Rattle.base_defs.specs.Counts.{Rose}
use Rattle.report_defs.specs.declared.command.Command.{Command}
use Rattle.report_defs.specs.declared.status.Status.{Status}
use Rattle.report_defs.specs.declared.status.Status.TheVariants as status
use Rattle.report_defs.specs.Commands.{command_of, reads}
use Rattle.reports.specs.Run.{Run, EndsParsed, EndsBy}
use Rattle.reports.specs.RunLaws.{HasNoFault}
use Rattle.reports.proofs.Runs.{written, usage_answer, no_miss}
use Rattle.bench_commands.specs.InputRun.{Shows}
use Rattle.bench_commands.specs.Bench.{bench_input, bench_program}
use Rattle.bench_commands.specs.Steady.{AnswersSteadily, EndsSteadily, read_of, steady_source, steady_sink}
use Rattle.bench_commands.proofs.Laws.{is_program}

-- the run over such an input and such outputs
abbrev run_from : (words : List (List ℕ)) (input input' : Supply) (out out' err err' : ℕ) → Run Command SourceState
run_from words input input' out out' err err' =
    record {
      parsed = command_of words;
      before = steady_source input;
      after = steady_source input';
      outputs = record { out = steady_sink out; out' = steady_sink out'; err = steady_sink err; err' = steady_sink err' };
    }

abbrev run_of : (words : List (List ℕ)) (input input' : Supply) (out err : ℕ) → Run Command SourceState
run_of words input input' out err = run_from words input input' 0 out 0 err

abbrev pub new_sink : SinkCounts
new_sink = record { puts = 0; faults = 0 }

pub ends_steadily : (words : List (List ℕ)) (input input' : Supply) (out out' err err' : SinkCounts) (s : Status)
    → out ≡ new_sink → err ≡ new_sink
    → EndsBy bench_program (run_from words input input' out.puts out'.puts err.puts err'.puts) s
    → EndsSteadily words input input' s
ends_steadily words input input' out out' err err' s one other ends =
    let P : SinkCounts → SinkCounts → Type 0 = λ a b. EndsBy bench_program (run_from words input input' a.puts out'.puts b.puts err'.puts) s in
    record { out = out'.puts; err = err'.puts; ends = subst (λ b. P new_sink b) other (subst (λ a. P a err) one ends) }

none_rose : Rose 0 0 → ⊥
none_rose rose = let e : 0 < 0 = rose (omega arith) in omega (arith, e)

-- no count rises that is 0 throughout
no_fault : (words : List (List ℕ)) (input input' : Supply) (out err : ℕ)
    → HasNoFault bench_program (run_of words input input' out err)
no_fault words input input' out err = record { reading = none_rose; out = none_rose; err = none_rose }

is_memory : (s : Status) → (s ≡ status.Memory) ⊎ (s ≢ status.Memory)
is_memory status.Memory = inl refl
is_memory _ = inr (λ e. absurd cc)

-- such an input shows its bytes
shows : (command : Command) (input : Supply) → Shows bench_input command (steady_source input) (read_of command input.left)
shows command input = by (reads command)
  where
    by : (reading : Bool)
        → MatchBool reading (Some input.left ≡ Some (if reading then input.left else [])) ((if reading then input.left else []) ≡ [])
    by true = refl
    by false = refl

answers_by : (run : Run Command SourceState) (input : Supply) (s : Status) (found : Option Command)
    → run.before ≡ steady_source input → HasNoFault bench_program run → EndsParsed bench_program found run s
    → (s ≡ status.Memory) ⊎ (s ≢ status.Memory) → AnswersSteadily found input.left s
answers_by run input s None is none ends memory = usage_answer bench_program run s none ends
answers_by run input s (Some command) is none ends (inl memory) = inr memory
answers_by run input s (Some command) is none ends (inr some) =
    let shown = subst (λ source. Shows bench_input command source (read_of command input.left)) (sym is) (shows command input) in
    let w = written bench_program is_program command run (read_of command input.left) s shown none ends some in
    inl (w.report, w.reported, w.status_is)

pub answers_steadily : (words : List (List ℕ)) (input input' : Supply) (s : Status) → EndsSteadily words input input' s
    → AnswersSteadily (command_of words) input.left s
answers_steadily words input input' s e =
    answers_by (run_of words input input' e.out e.err) input s (command_of words) refl
    (no_fault words input input' e.out e.err) e.ends (is_memory s)

-- no fault is reported where none rose
none_read : (run : Run Command SourceState) (found : Option Command) → HasNoFault bench_program run
    → EndsParsed bench_program found run status.ReadFault → ⊥
none_read run None none ends = let is = usage_answer bench_program run status.ReadFault none ends in absurd (cc)
none_read run (Some command) none (nothing, failed) = none.reading failed.1

none_write : (run : Run Command SourceState) (found : Option Command) → HasNoFault bench_program run
    → EndsParsed bench_program found run status.WriteFault → ⊥
none_write run None none ends = let is = usage_answer bench_program run status.WriteFault none ends in absurd (cc)
none_write run (Some command) none (inl (report, on, missed)) = no_miss run.outputs report none.out none.err missed
none_write run (Some command) none (inr (front, on, missed)) = no_miss run.outputs front none.out none.err missed

pub no_read_fault : (words : List (List ℕ)) (input input' : Supply) (s : Status) → EndsSteadily words input input' s
    → s ≢ status.ReadFault
no_read_fault words input input' s e is =
    let run = run_of words input input' e.out e.err in
    none_read run (command_of words) (no_fault words input input' e.out e.err)
    (subst (λ (t : Status). EndsBy bench_program run t) is e.ends)

pub no_write_fault : (words : List (List ℕ)) (input input' : Supply) (s : Status) → EndsSteadily words input input' s
    → s ≢ status.WriteFault
no_write_fault words input input' s e is =
    let run = run_of words input input' e.out e.err in
    none_write run (command_of words) (no_fault words input input' e.out e.err)
    (subst (λ (t : Status). EndsBy bench_program run t) is e.ends)
