use Rattle.std.proofs.Common.{◌≡◌, rules, ap, sym, subst, ◌∙◌}
use Rattle.tms_defs.specs.Operand.{Cpu}
use Rattle.tms_defs.specs.Step.{step}
use Rattle.console_defs.specs.Memory.{Memory, console}
use Rattle.console_defs.specs.Causes.{refused_at, refusal, MeetsPort}
use Rattle.tms_defs.specs.declared.step_end.StepEnd.{StepEnd}
use Rattle.console_defs.proofs.RefusalLaws.{step_refused, step_meets_port}
use Rattle.tms_step.proofs.machine.Machine.step_from.Goals as goal

refused_by : (x left : Cpu Memory) (end : StepEnd) → (end, left) ≡ step Memory console x → refused_at end ≡ refusal x
refused_by x left end is = ap (λ (stepped : StepEnd × Cpu Memory). refused_at stepped.0) is ∙ step_refused x

meets_by : (x left : Cpu Memory) (end : StepEnd) → (end, left) ≡ step Memory console x → MeetsPort end
meets_by x left end is =
    let P : StepEnd × Cpu Memory → Type 0 = λ stepped. MeetsPort stepped.0 in
    subst P (sym is) (step_meets_port x)

pub returns-in-Done-clause-refused : goal.returns-in-Done-clause-refused
returns-in-Done-clause-refused c =
    refused_by c.args.self.now.cpu c.step-end.new.self c.step-end.result (search rules)

pub returns-in_default-clause-refused : goal.returns-in_default-clause-refused
returns-in_default-clause-refused c =
    refused_by c.args.self.now.cpu c.step-end.new.self c.step-end.result (search rules)

pub returns-in_default-clause-port : goal.returns-in_default-clause-port
returns-in_default-clause-port c =
    meets_by c.args.self.now.cpu c.step-end.new.self c.step-end.result (search rules)
