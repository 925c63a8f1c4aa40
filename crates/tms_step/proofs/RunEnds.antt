-- A run that goes on, and its ends.
use Rattle.std.proofs.Common.{◌≡◌, ◌<◌, ℕ, ◌+◌, Bool, true, false, refl, sym, ap, ◌∙◌, arith, add-one, below_more}
use Rattle.std.proofs.Common.{Option, Some, None}
use Rattle.std.proofs.lemmas.Bool.Decides.{nat_tests}
use Rattle.std.specs.Prelude.{eqb, if◌then◌else◌}
use Rattle.tms_defs.specs.Accesses.{Answer, Gives, AtPort, NoInstruction}
use Rattle.console_defs.specs.Memory.{Memory, console}
use Rattle.tms_defs.specs.Operand.{Cpu}
use Rattle.tms_defs.specs.Step.{step_end, execution, step}
use Rattle.console_defs.specs.Machine.{MachineState, counted, machine_step}
use Rattle.console_defs.specs.Runs.{is_reached, is_self_jump, end_of_step, after_steps, self_jumped, end_before, end_at}
use Rattle.console_defs.specs.Runs.{IsRun}
use Rattle.tms_defs.specs.declared.step_end.StepEnd.{StepEnd}
use Rattle.tms_defs.specs.declared.step_end.StepEnd.TheVariants.{Done, Refused, Port}
use Rattle.console_defs.specs.declared.run_end.RunEnd.{RunEnd}
use Rattle.console_defs.specs.declared.run_end.RunEnd.TheVariants as run
use Rattle.tms_step.specs.Turns.{executed_by, end_of_turn, end_at_limit}

-- So many steps led from x to y, and nothing has ended the run.
pub record Going (stop : Option ℕ) (limit made : ℕ) (x y : MachineState) : Type 0 where
  pub left : y ≡ after_steps made x
  pub first : (before : ℕ) → before < made → end_at stop limit before x ≡ None
  pub fresh : self_jumped made x ≡ false

pub going_start : (stop : Option ℕ) (limit : ℕ) (x : MachineState) → Going stop limit 0 x x
going_start stop limit x = record { left = refl; first = λ before lt. absurd (omega arith); fresh = refl }

-- the ends by their tests
abbrev by_tests : Bool → Bool → Option RunEnd → Option RunEnd
by_tests reached limited rest =
    if reached then Some run.Reached else if limited then Some run.Limit else rest

abbrev by_jump : Bool → Option RunEnd → Option RunEnd
by_jump jumped rest = if jumped then Some run.SelfJump else rest

end_here : (stop : Option ℕ) (limit made : ℕ) (x y : MachineState) → Going stop limit made x y →
    end_at stop limit made x ≡ by_tests (is_reached stop y.cpu.pc) (eqb made limit) (end_of_step (machine_step y).0)
end_here stop limit made x y going =
    ap (λ (jumped : Bool). by_jump jumped (end_before stop limit made (after_steps made x))) going.fresh
    ∙ ap (λ (c : MachineState). end_before stop limit made c) (sym going.left)

-- a test of two numbers
unequal : (m n : ℕ) (test : Bool) → eqb m n ≡ test → m < n → test ≡ false
unequal m n true e lt = absurd (grind (arith, nat_tests))
unequal m n false e lt = refl

equal : (m n : ℕ) (test : Bool) → eqb m n ≡ test → m ≡ n → test ≡ true
equal m n true e same = refl
equal m n false e same = absurd (grind (arith, nat_tests))

pub run_reached : (stop : Option ℕ) (limit made : ℕ) (x y : MachineState) → Going stop limit made x y →
    is_reached stop y.cpu.pc ≡ true → IsRun stop limit made x run.Reached y
run_reached stop limit made x y going reached =
    record {
      ends =
          end_here stop limit made x y going
          ∙ ap (λ (test : Bool). by_tests test (eqb made limit) (end_of_step (machine_step y).0)) reached;
      first = going.first;
      left = going.left;
    }

pub run_limit : (stop : Option ℕ) (limit made : ℕ) (x y : MachineState) → Going stop limit made x y → made ≡ limit →
    is_reached stop y.cpu.pc ≡ false → IsRun stop limit made x run.Limit y
run_limit stop limit made x y going all reached =
    let rest = end_of_step (machine_step y).0 in
    let ends =
    end_here stop limit made x y going
    ∙ ap (λ (test : Bool). by_tests test (eqb made limit) rest) reached
    ∙ ap (λ (test : Bool). by_tests false test rest) (equal made limit (eqb made limit) refl all) in
    record { ends = ends; first = going.first; left = going.left }

-- A run that is at its limit has ended.
pub run_at_limit : (stop : Option ℕ) (limit made : ℕ) (x y : MachineState) → Going stop limit made x y →
    made ≡ limit → IsRun stop limit made x (end_at_limit stop y.cpu.pc) y
run_at_limit stop limit made x y going all = by (is_reached stop y.cpu.pc) refl
  where
    by : (reached : Bool) → is_reached stop y.cpu.pc ≡ reached →
        IsRun stop limit made x (if reached then run.Reached else run.Limit) y
    by true e = run_reached stop limit made x y going e
    by false e = run_limit stop limit made x y going all e

-- where neither the address nor the limit is met, the step decides
end_step : (stop : Option ℕ) (limit made : ℕ) (x y : MachineState) → Going stop limit made x y → made < limit →
    is_reached stop y.cpu.pc ≡ false → end_at stop limit made x ≡ end_of_step (machine_step y).0
end_step stop limit made x y going lt reached =
    end_here stop limit made x y going
    ∙ ap (λ (test : Bool). by_tests test (eqb made limit) (end_of_step (machine_step y).0)) reached
    ∙ ap (λ (test : Bool). by_tests false test (end_of_step (machine_step y).0))
    (unequal made limit (eqb made limit) refl lt)

after_more : (made : ℕ) (x y z : MachineState) → y ≡ after_steps made x → z ≡ (machine_step y).1 → z ≡ after_steps (made + 1) x
after_more made x y z left stepped = rw (add-one) (stepped ∙ ap (λ (c : MachineState). (machine_step c).1) left)

jumped_more : (made : ℕ) (x y : MachineState) (end : StepEnd) → y ≡ after_steps made x → (machine_step y).0 ≡ end →
    self_jumped (made + 1) x ≡ is_self_jump end
jumped_more made x y end left e =
    rw (add-one) (ap (λ (c : MachineState). is_self_jump (machine_step c).0) (sym left) ∙ ap is_self_jump e)

first_more : (stop : Option ℕ) (limit made word : ℕ) (x y : MachineState) → Going stop limit made x y → made < limit →
    is_reached stop y.cpu.pc ≡ false → (machine_step y).0 ≡ Done word → (before : ℕ) → before < made + 1 →
    end_at stop limit before x ≡ None
first_more stop limit made word x y going lt reached e =
    below_more (λ before. end_at stop limit before x ≡ None) made going.first
    (end_step stop limit made x y going lt reached ∙ ap end_of_step e)

goes_on : (word : ℕ) (test : Bool) → eqb word 0x10FF ≡ test →
    (if test then Some run.SelfJump else None) ≡ None → test ≡ false
goes_on word true e ends = absurd (cc)
goes_on word false e ends = refl

-- A step that does not end the run.
pub going_more : (stop : Option ℕ) (limit made : ℕ) (x y z : MachineState) → Going stop limit made x y → made < limit →
    is_reached stop y.cpu.pc ≡ false → end_of_turn (machine_step y).0 ≡ None → z ≡ (machine_step y).1 →
    Going stop limit (made + 1) x z
going_more stop limit made x y z going lt reached ends stepped = by (machine_step y).0 refl ends
  where
    by : (end : StepEnd) → (machine_step y).0 ≡ end → end_of_turn end ≡ None → Going stop limit (made + 1) x z
    by (Done word) e none =
        record {
          left =
              after_more made x y z going.left stepped;
          first = first_more stop limit made word x y going lt reached e;
          fresh = jumped_more made x y (Done word) going.left e
              ∙ goes_on word (eqb word 0x10FF) refl none;
        }
    by (Refused address) e none = absurd (cc)
    by (Port address) e none = absurd (cc)

-- a step that executes no instruction leaves the machine
refused_left : (y : Cpu Memory) (address : ℕ) (answer : Answer (ℕ × Cpu Memory)) →
    (step_end Memory console y answer).0 ≡ Refused address → (step_end Memory console y answer).1 ≡ y
refused_left y address (Gives done) e = absurd (cc)
refused_left y address (AtPort port) e = refl
refused_left y address NoInstruction e = refl

port_left : (y : Cpu Memory) (address : ℕ) (answer : Answer (ℕ × Cpu Memory)) →
    (step_end Memory console y answer).0 ≡ Port address → (step_end Memory console y answer).1 ≡ y
port_left y address (Gives done) e = absurd (cc)
port_left y address (AtPort port) e = refl
port_left y address NoInstruction e = refl

abbrev machine_of : Cpu Memory → ℕ → MachineState
machine_of cpu count = record { cpu = cpu; count = count }

same_machine : (y : MachineState) (end : StepEnd) (cpu : Cpu Memory) → cpu ≡ y.cpu → counted end y.count ≡ y.count →
    machine_of cpu (counted end y.count) ≡ y
same_machine y end cpu same count =
    ap (λ (c : Cpu Memory). machine_of c (counted end y.count)) same ∙ ap (machine_of y.cpu) count

refused_same : (y : MachineState) (address : ℕ) → (machine_step y).0 ≡ Refused address → (machine_step y).1 ≡ y
refused_same y address e =
    same_machine y (machine_step y).0 (step Memory console y.cpu).1
    (refused_left y.cpu address (execution Memory console y.cpu) e)
    (ap (λ (end : StepEnd). counted end y.count) e)

port_same : (y : MachineState) (address : ℕ) → (machine_step y).0 ≡ Port address → (machine_step y).1 ≡ y
port_same y address e =
    same_machine y (machine_step y).0 (step Memory console y.cpu).1
    (port_left y.cpu address (execution Memory console y.cpu) e)
    (ap (λ (end : StepEnd). counted end y.count) e)

jumps : (word : ℕ) (ending : RunEnd) (test : Bool) →
    (if test then Some run.SelfJump else None) ≡ Some ending →
    (test ≡ true) × (Some run.SelfJump ≡ Some ending)
jumps word ending true ends = (refl, ends)
jumps word ending false ends = absurd (cc)

-- A step that ends the run.
pub run_ended : (stop : Option ℕ) (limit made : ℕ) (x y z : MachineState) (ending : RunEnd) →
    Going stop limit made x y → made < limit → is_reached stop y.cpu.pc ≡ false →
    end_of_turn (machine_step y).0 ≡ Some ending → z ≡ (machine_step y).1 →
    IsRun stop limit (made + executed_by (machine_step y).0) x ending z
run_ended stop limit made x y z ending going lt reached ends stepped = by (machine_step y).0 refl ends
  where
    none : made + 0 ≡ made
    none = omega arith

    by : (end : StepEnd) → (machine_step y).0 ≡ end → end_of_turn end ≡ Some ending →
        IsRun stop limit (made + executed_by end) x ending z
    by (Done word) e some =
        let jump = jumps word ending (eqb word 0x10FF) some in
        record {
          ends =
              ap (λ (test : Bool). by_jump test (end_before stop limit (made + 1) (after_steps (made + 1) x))) (jumped_more made x y (Done word) going.left e ∙ jump.0)
              ∙ jump.1;
          first = first_more stop limit made word x y going lt reached e;
          left = after_more made x y z going.left stepped;
        }
    by (Refused address) e some =
        rw none (record {
          ends =
              end_step stop limit made x y going lt reached ∙ ap end_of_step e ∙ some;
          first = going.first;
          left = stepped
              ∙ refused_same y address e ∙ going.left;
        })
    by (Port address) e some =
        rw none (record {
          ends =
              end_step stop limit made x y going lt reached ∙ ap end_of_step e ∙ some;
          first = going.first;
          left = stepped
              ∙ port_same y address e ∙ going.left;
        })
