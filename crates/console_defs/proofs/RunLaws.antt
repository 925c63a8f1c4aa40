-- Laws about steps in a row, and about runs.
use Rattle.std.proofs.Common.{◌≡◌, ◌<◌, ℕ, zero, suc, ◌+◌, Bool, true, false, refl, sym, ap, ◌∙◌, arith, Option, Some}
use Rattle.std.proofs.Common.{None}
use Rattle.std.specs.Prelude.{eqb, if◌then◌else◌}
use Rattle.base_defs.specs.Counts.{saturating_sum}
use Rattle.tms_defs.specs.Accesses.{Answer, Gives, AtPort, NoInstruction, ◌>>=◌}
use Rattle.console_defs.specs.Memory.{Memory, IsMemory, console}
use Rattle.tms_defs.specs.Operand.{Cpu}
use Rattle.tms_defs.specs.Step.{step}
use Rattle.console_defs.specs.Machine.{MachineState, IsMachine, new_machine, counted, machine_step, given_by, done_step, steps}
use Rattle.console_defs.specs.Runs.{is_reached, end_of_step, after_steps, self_jumped, end_at, IsRun}
use Rattle.tms_defs.specs.declared.step_end.StepEnd.{StepEnd}
use Rattle.tms_defs.specs.declared.step_end.StepEnd.TheVariants.{Done, Refused, Port}
use Rattle.console_defs.specs.declared.run_end.RunEnd.{RunEnd}
use Rattle.console_defs.specs.declared.run_end.RunEnd.TheVariants as run

next_add : (j k : ℕ) (a : Answer MachineState) →
    ((y : MachineState) → steps (j + k) y ≡ (steps j y >>= steps k)) →
    (a >>= steps (j + k)) ≡ ((a >>= steps j) >>= steps k)
next_add j k (Gives y) all = all y
next_add j k (AtPort address) all = refl
next_add j k NoInstruction all = refl

-- Steps in a row are some of them, and then the others.
pub steps-add : (j k : ℕ) (x : MachineState) → steps (j + k) x ≡ (steps j x >>= steps k)
steps-add zero k x = ap (λ n. steps n x) (omega arith)
steps-add (suc j) k x =
    let more : suc j + k ≡ suc (j + k) = omega arith in
    ap (λ n. steps n x) more ∙ next_add j k (done_step x) (λ y. steps-add j k y)

-- One step more, at the end.
pub steps-more : (made : ℕ) (x y z : MachineState) → steps made x ≡ Gives y → done_step y ≡ Gives z →
    steps (suc made) x ≡ Gives z
steps-more made x y z led next =
    let more : suc made ≡ made + 1 = omega arith in
    ap (λ n. steps n x) more ∙ steps-add made 1 x ∙ ap (λ (a : Answer MachineState). a >>= steps 1) led
    ∙ ap (λ (a : Answer MachineState). a >>= steps 0) next

given : {X : Type 0} (a b : X) → Gives a ≡ Gives b → a ≡ b
given a b e = cc

-- What a step that gives a machine has counted.
given_count : (end : StepEnd) (cpu : Cpu Memory) (count : ℕ) (z : MachineState) →
    given_by (end, record { cpu = cpu; count = counted end count }) ≡ Gives z → z.count ≡ saturating_sum count 1
given_count (Done word) cpu count z gives = sym (ap (λ (x : MachineState). x.count) (given _ z gives))
given_count (Refused address) cpu count z gives = absurd (cc)
given_count (Port address) cpu count z gives = absurd (cc)

next_count : (count : ℕ) (x z : MachineState) (a : Answer MachineState) →
    ((y : MachineState) → a ≡ Gives y → y.count ≡ saturating_sum x.count 1) →
    ((y : MachineState) → steps count y ≡ Gives z → z.count ≡ saturating_sum y.count count) →
    (a >>= steps count) ≡ Gives z → z.count ≡ saturating_sum x.count (suc count)
next_count count x z (Gives y) one all led =
    let first : y.count ≡ saturating_sum x.count 1 = one y refl in
    let rest : z.count ≡ saturating_sum y.count count = all y led in
    omega arith
next_count count x z (AtPort address) one all led = absurd (cc)
next_count count x z NoInstruction one all led = absurd (cc)

-- So many steps raise the count by their number.
pub steps-count : (count : ℕ) (x z : MachineState) → steps count x ≡ Gives z → z.count ≡ saturating_sum x.count count
steps-count zero x z led = sym (ap (λ (y : MachineState). y.count) (given x z led)) ∙ omega arith
steps-count (suc count) x z led =
    next_count count x z (done_step x)
    (λ y. given_count (step Memory console x.cpu).0 (step Memory console x.cpu).1 x.count y)
    (λ y. steps-count count y z)
    led

-- A step that ends no run is executed.
abbrev ends_by : Bool → Bool → Bool → StepEnd → Option RunEnd
ends_by jumped reached limited end =
    if jumped then Some run.SelfJump
    else if reached then Some run.Reached
    else if limited then Some run.Limit
    else end_of_step end

goes_on : (jumped reached limited : Bool) (end : StepEnd) (left : MachineState) →
    ends_by jumped reached limited end ≡ None → given_by (end, left) ≡ Gives left
goes_on true reached limited end left none = absurd (cc)
goes_on false true limited end left none = absurd (cc)
goes_on false false true end left none = absurd (cc)
goes_on false false false (Done word) left none = refl
goes_on false false false (Refused address) left none = absurd (cc)
goes_on false false false (Port address) left none = absurd (cc)

all_executed : (stop : Option ℕ) (limit made : ℕ) (x : MachineState) →
    ((before : ℕ) → before < made → end_at stop limit before x ≡ None) → steps made x ≡ Gives (after_steps made x)
all_executed stop limit zero x first = refl
all_executed stop limit (suc made) x first =
    let led = all_executed stop limit made x (λ before lt. first before (omega arith)) in
    let here = after_steps made x in
    let next : done_step here ≡ Gives (machine_step here).1 =
    goes_on (self_jumped made x) (is_reached stop here.cpu.pc) (eqb made limit) (machine_step here).0 (machine_step here).1
    (first made (omega arith)) in
    steps-more made x here (machine_step here).1 led next

-- A run is as many steps that all executed an instruction.
pub run_is_steps : (stop : Option ℕ) (limit made : ℕ) (x y : MachineState) (ending : RunEnd) →
    IsRun stop limit made x ending y → steps made x ≡ Gives y
run_is_steps stop limit made x y ending run =
    all_executed stop limit made x run.first ∙ ap Gives (sym run.left)

-- A run raises the count by the number of its instructions.
pub run_counts : (stop : Option ℕ) (limit made : ℕ) (x y : MachineState) (ending : RunEnd) →
    IsRun stop limit made x ending y → y.count ≡ saturating_sum x.count made
run_counts stop limit made x y ending run = steps-count made x y (run_is_steps stop limit made x y ending run)

-- A new machine is one.
pub new_machine_is : (memory : Memory) (wp pc : ℕ) → IsMemory memory → wp < 65536 → pc < 65536 →
    IsMachine (new_machine memory wp pc)
new_machine_is memory wp pc is wp_fits pc_fits = record {
  memory = is;
  status = omega arith;
  even_pc = omega arith;
  even_wp = omega arith;
  pc = omega arith;
  wp = omega arith;
  count = omega arith;
}
