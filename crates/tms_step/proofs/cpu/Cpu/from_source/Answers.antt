use Rattle.std.proofs.Common.{◌∙◌, sym}
use Rattle.tms_step.proofs.PortLast.{port_last}
use Rattle.tms_step.proofs.cpu.Cpu.from_source.Goals as goal

pub returns-then-is_port-clause-value : goal.returns-then-is_port-clause-value
returns-then-is_port-clause-value c =
    rw c.if-byte.true
    (c.from_port.ensures.value ∙ port_last c.args.op c.args.source c.args.dst c.args.self.now (sym c.is_port.ensures ∙ c.if-is_port.true))
