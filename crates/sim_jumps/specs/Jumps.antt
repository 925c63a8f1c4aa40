-- The ends of steps that go on elsewhere in GROM, for all states and changes that may be there.
use Rattle.std.specs.Prelude.{ℕ, ◌≡◌, false}
use Rattle.sim_rows.specs.Prelude.{ShowsChanges, Changes, ReachesWithin, GplState, GSTEP, MachineState, ShowsState}
use Rattle.sim_rows.specs.Prelude.{SeesFinished}
use Rattle.sim_rows.specs.Prelude.{unchanged, view, with_condition, with_pc}
use Rattle.sim_rows.specs.sim_view.Bounds.{bound_to_go_on, bound_to_resume, bound_to_take_branch}

-- A state is seen but for where GROM is: its pc is in register 6. The step ends with it.
abbrev pub GoesOn : MachineState → MachineState → ℕ → ℕ → Type 0
GoesOn x y before after =
    (s : GplState) → (next : ℕ) → ShowsState s next (view x) → (view x).r.r6 ≡ s.pc
    → ReachesWithin bound_to_go_on x y before after GSTEP (ShowsState s s.pc)

-- The same, and the condition is cleared.
abbrev pub TakesBranch : MachineState → MachineState → ℕ → ℕ → Type 0
TakesBranch x y before after =
    (s : GplState) → (next : ℕ) → ShowsState s next (view x) → (view x).r.r6 ≡ s.pc
    → ReachesWithin bound_to_take_branch x y before after GSTEP (SeesFinished (with_condition false (unchanged s)))

-- Changes are made, and the pc is in register 14. The row ends with them: the character
-- goes to the screen if it is due.
abbrev pub ResumesRow : MachineState → MachineState → ℕ → ℕ → Type 0
ResumesRow x y before after =
    (c : Changes) → (next : ℕ) → ShowsChanges (with_pc next c) (view x) → (view x).r.r14 ≡ c.state.pc
    → ReachesWithin bound_to_resume x y before after GSTEP (SeesFinished c)
