-- What a row makes of its operands, and views of the machine from the row's entry to the end of the step.
use Rattle.std.specs.Prelude.{ℕ, ◌≡◌, Err, None, Ok, Option, Result, Some}
use Rattle.sim_view.specs.Prelude.{Changes, ReachesWithin, finished, GplOperation, GplState, GSTEP, GSTOP, MachineState}
use Rattle.sim_view.specs.Prelude.{One, one, Place, Reason, row_entry, size_of, Source, Two, two}
use Rattle.sim_view.specs.Prelude.{unchanged, value_at, View, view, Width, with_value}
use Rattle.sim_operands.specs.Values.{of_register}
use Rattle.sim_operands.specs.Subroutines.{grom_at, marked_by}
use Rattle.sim_rows.specs.States.{operation_in, ShowsState, StoppedBy}
use Rattle.sim_rows.specs.Rows.{AtRow, gone_on, operands_of, row_width, StoresTo}
use Rattle.sim_view.specs.Bounds.{bound_of_result, bound_of_show, bound_to_row, bound_to_row_stop}

-- What an operation changes, by the place of its destination, its value and its source.
abbrev pub result_of : GplOperation → Width → Place → ℕ → Source → Changes → Result Changes Reason
result_of (One op) width at x source c = one op width at x c
result_of (Two op) width at x source c = Ok (two op width at x source c)
result_of operation width at x source c = Ok c

abbrev pub row_result : GplOperation → GplState → Place → Source → Result Changes Reason
row_result operation s place source =
    result_of operation (row_width s) place (value_at s (row_width s) place) source (unchanged (gone_on s))

-- The changes so far: they are seen, GROM gives the byte of the next instruction, both ports are idle, and register 13
-- is a mark where a byte was stored at the character's cell.
pub record ShowsChanges (c : Changes) (w : View) : Type 0 where
  pub cells : w.cells ≡ c.state.cells
  pub vdp : w.vdp.memory ≡ c.state.vdp
  pub registers : w.vdp.registers ≡ c.state.registers
  pub held : w.vdp.held ≡ None
  pub grom : w.grom ≡ grom_at c.state.image c.state.pc
  pub mark : w.r.r13 ≡ marked_by c.shows 0

-- STORE, or STO, is asked for a number of a width at a place, after some changes.
pub record Storing (c : Changes) (width : Width) (place : Place) (number : ℕ) (w : View) : Type 0 where
  pub changed : ShowsChanges c w
  pub bytes_are : w.r.r3 ≡ size_of width
  pub to_place : StoresTo place w
  pub value : of_register width w.r.r9 ≡ number

-- The step has ended with these changes.
abbrev pub SeesFinished : Changes → View → Type 0
SeesFinished c w = ShowsState (finished c) (finished c).pc w

abbrev pub SeesResult : Result Changes Reason → View → Type 0
SeesResult (Ok c) w = SeesFinished c w
SeesResult (Err reason) w = ⊥

-- The end of a row from SHOW on, whatever was changed: the character goes to the screen if it is due.
abbrev pub EndsRow : MachineState → MachineState → ℕ → ℕ → Type 0
EndsRow x y before after =
    (c : Changes) → ShowsChanges c (view x) → ReachesWithin bound_of_show x y before after GSTEP (SeesFinished c)

-- The end of a row from STO on: the result is stored, and the row ends.
abbrev pub StoresResult : MachineState → MachineState → ℕ → ℕ → Type 0
StoresResult x y before after =
    (c : Changes) → (width : Width) → (place : Place) → (number : ℕ) → Storing c width place number (view x)
    → ReachesWithin bound_of_result x y before after GSTEP (SeesFinished (with_value width place number c))

-- A row's operands are loaded, and its operation is known; or it stops.
abbrev pub StartsRow : GplState → MachineState → MachineState → ℕ → ℕ → Option GplOperation
    → Result (Place × Source) Reason → Type 0
StartsRow s x y before after returned (Ok operands) =
    (returned ≡ operation_in s)
    × ReachesWithin bound_to_row x y before after (row_entry (operation_in s)) (AtRow s operands.0 operands.1)
StartsRow s x y before after returned (Err reason) =
    (returned ≡ None) × ReachesWithin bound_to_row_stop x y before after GSTOP (StoppedBy s reason)

pub record HasStarted (s : GplState) (x y : MachineState) (before after : ℕ) (returned : Option GplOperation)
    : Type 0 where
  pub starts : StartsRow s x y before after returned (operands_of s)

-- A row from its entry to the end of the step, for all operands that may be there: at most a given number of
-- instructions.
abbrev pub RunsRow : GplOperation → ℕ → MachineState → MachineState → ℕ → ℕ → Type 0
RunsRow operation most x y before after =
    (s : GplState) → (place : Place) → (source : Source) → operation_in s ≡ Some operation
    → AtRow s place source (view x) → operands_of s ≡ Ok (place, source)
    → ReachesWithin most x y before after GSTEP (SeesResult (row_result operation s place source))
