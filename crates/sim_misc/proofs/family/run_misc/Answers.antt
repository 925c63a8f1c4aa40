use Rattle.std.proofs.Common.{◌∙◌, ap, Some, sym}
use Rattle.sim_misc.proofs.Dispatch.{exchange_here}
use Rattle.sim_misc.proofs.family.run_misc.Goals as goal

pub run_exchange_row-requires : goal.run_exchange_row-requires
run_exchange_row-requires g c = exchange_here c.requires (sym c.current_operation.ensures ∙ c.in-Some-Two.is ∙ ap Some c.in-Some-Two.field-0-is)
