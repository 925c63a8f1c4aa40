-- A run is its first step, and then the rest.
use Rattle.std.proofs.Common.{◌≡◌, ℕ, zero, suc, ◌-◌, ◌<◌, true, false, List, refl, arith}
use Rattle.std.specs.Prelude.{if◌then◌else◌}
use Rattle.console_defs.specs.Machine.{MachineState, machine_step}
use Rattle.tms_defs.specs.declared.step_end.StepEnd.{StepEnd}
use Rattle.tms_defs.specs.declared.step_end.StepEnd.TheVariants.{Done, Refused, Port}
use Rattle.tms_step.specs.Turns.{executed_by}
use Rattle.sim_view.specs.Running.{Ran, one_more, is_last, ran}

pub ran_none : (ends : List ℕ) (most : ℕ) (x : MachineState) → most ≡ 0 → ran ends most x ≡ record { count = 0; left = x }
unfolding ran
ran_none ends zero x none = refl
ran_none ends (suc most) x none = absurd (omega arith)

pub ran_last : (ends : List ℕ) (most : ℕ) (x : MachineState) → 0 < most →
    is_last ends (machine_step x).0 (machine_step x).1.cpu.pc ≡ true →
    ran ends most x ≡ record { count = executed_by (machine_step x).0; left = (machine_step x).1 }
unfolding ran
ran_last ends zero x some last = absurd (omega arith)
ran_last ends (suc most) x some last = rw last refl

pub ran_more : (ends : List ℕ) (most : ℕ) (x : MachineState) → 0 < most →
    is_last ends (machine_step x).0 (machine_step x).1.cpu.pc ≡ false →
    ran ends most x ≡ one_more (ran ends (most - 1) (machine_step x).1)
unfolding ran
ran_more ends zero x some last = absurd (omega arith)
ran_more ends (suc most) x some last =
    let rest : suc most - 1 ≡ most = omega arith in
    rw (last, rest) refl

-- A step that is not the last executes an instruction.
pub executed_one : (ends : List ℕ) (end : StepEnd) (pc : ℕ) → is_last ends end pc ≡ false → executed_by end ≡ 1
executed_one ends (Done word) pc last = refl
executed_one ends (Refused address) pc last = absurd (cc)
executed_one ends (Port address) pc last = absurd (cc)

-- What a run makes of its first step.
abbrev pub turn : List ℕ → ℕ → StepEnd × MachineState → Ran
turn ends most stepped =
    if is_last ends stepped.0 stepped.1.cpu.pc
    then record { count = executed_by stepped.0; left = stepped.1 }
    else one_more (ran ends most stepped.1)

pub ran_turn : (ends : List ℕ) (most : ℕ) (x : MachineState) → ran ends (suc most) x ≡ turn ends most (machine_step x)
unfolding ran
ran_turn ends most x = refl
