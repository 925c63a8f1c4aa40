-- Programs whose commands read one input or nothing: what they read of it, report and leave.
use Rattle.std.specs.Prelude.{◌≡◌, ℕ, ◌+◌, ◌≤◌, nat_lt, Bool, IsTrue, IsFalse, MatchBool, if◌then◌else◌}
use Rattle.std.specs.Prelude.{List, [], length, Some}
use Rattle.base_defs.specs.Counts.{Rose}
use Rattle.bench_io.specs.Stream.{SourceState, IsAtEnd}
use Rattle.bench_io.specs.ReadAll.{Consumed, ReadWhole}
use Rattle.report_defs.specs.Report.{Report, largest_input, OnInput}
use Rattle.reports.specs.Run.{Program}

-- These bytes of the input were taken: all of them, and then the last call gave none; or one more than the most that an
-- input may have.
pub record ReadsInput (before after : SourceState) (bytes : List ℕ) : Type 0 where
  pub consumed : Consumed before after bytes (if nat_lt largest_input (length bytes) then 0 else 1)
  pub within : length bytes ≤ largest_input + 1
  pub whole : length bytes ≤ largest_input → IsAtEnd after.left

-- nothing was taken of the input
abbrev pub ReadsNothing : SourceState → SourceState → List ℕ → Type 0
ReadsNothing before after bytes = (after ≡ before) × (bytes ≡ [])

-- what is taken of the input, by whether the command reads it
abbrev pub Reads : Bool → SourceState → SourceState → List ℕ → Type 0
Reads reading before after bytes = MatchBool reading (ReadsInput before after bytes) (ReadsNothing before after bytes)

-- an input that is not too large was taken whole, where the command reads it
abbrev pub TakesWhole : Bool → SourceState → SourceState → List ℕ → Type 0
TakesWhole reading before after bytes =
    MatchBool reading (ReadWhole largest_input before after bytes) (ReadsNothing before after bytes)

-- no more was taken of the input than an input may have, by calls of which one at most gave no byte
pub record ConsumedWithin (before after : SourceState) : Type 0 where
  pub bytes : List ℕ
  pub within : length bytes ≤ largest_input
  pub empty : ℕ
  pub one : empty ≤ 1
  pub consumed : Consumed before after bytes empty

-- The commands C of such a program.
pub record InputCommands (C : Type 0) : Type 1 where
  -- the line that says how the program is called
  pub usage : List ℕ
  -- whether a command reads the input
  pub reads : C → Bool
  -- the report of a command on bytes that are not too many
  pub Accepted : C → List ℕ → Report → Type 0
  -- what a command writes of it before its end is known
  pub PrefixOn : C → List ℕ → Report → Type 0

-- the report of a command on what it took
abbrev pub Reports : {C : Type 0} → InputCommands C → C → SourceState → SourceState → Report → Type 0
Reports p command before after report =
    (bytes : List ℕ) × Reads (p.reads command) before after bytes × OnInput (p.Accepted command) bytes report

-- a front of it, which is written before its end is known
abbrev pub Begins : {C : Type 0} → InputCommands C → C → SourceState → SourceState → Report → Type 0
Begins p command before after front =
    (bytes : List ℕ) × Reads (p.reads command) before after bytes × p.PrefixOn command bytes front

-- and nothing of it by a command that reads none
abbrev pub Leaves : {C : Type 0} → InputCommands C → C → SourceState → SourceState → Type 0
Leaves p command before after = ConsumedWithin before after × (IsFalse (p.reads command) → after ≡ before)

-- a call of the input failed
abbrev pub Fails : SourceState → SourceState → Type 0
Fails before after = Rose before.faults after.faults

abbrev pub ReadFails : {C : Type 0} → InputCommands C → C → SourceState → SourceState → Type 0
ReadFails p command before after = IsTrue (p.reads command) × Fails before after

-- the source shows the bytes of which the command reads, if it reads any
abbrev pub Shows : {C : Type 0} → InputCommands C → C → SourceState → List ℕ → Type 0
Shows p command source input = MatchBool (p.reads command) (source.left ≡ Some input) (input ≡ [])

abbrev pub input_program : {C : Type 0} → InputCommands C → Program C SourceState (List ℕ)
input_program p =
    record {
      usage = p.usage;
      Reports = Reports p;
      Begins = Begins p;
      Leaves = Leaves p;
      ReadFails = ReadFails p;
      Fails = Fails;
      Shows = Shows p;
      ReportOn = λ command. OnInput (p.Accepted command);
    }
