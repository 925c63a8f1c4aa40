use Rattle.std.proofs.Common.{subst}
use Rattle.sim_view.proofs.Common.{Exit, Exits, view}
use Rattle.sim_operands.proofs.Ready.{fetches, ready}
use Rattle.sim_operands.proofs.fetch.run_fetch.Goals as goal

pub returns : goal.returns
returns g c =
    let x = c.args.machine.now in
    let e = fetches (view x) (ready x.cpu.memory c.requires.idle c.requires.fetched) in
    subst (λ (e : Exit). Exits x c.fetch_byte.new.machine c.args.steps.now c.fetch_byte.new.steps e) e c.fetch_byte.ensures
