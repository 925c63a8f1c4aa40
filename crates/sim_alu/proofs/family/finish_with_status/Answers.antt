use Rattle.sim_alu.proofs.StoredResults.{status_idle, with_status_stored}
use Rattle.sim_alu.proofs.family.finish_with_status.Goals as goal

pub end_row-requires-clause-idle : goal.end_row-requires-clause-idle
end_row-requires-clause-idle g c =
    let q = c.requires in
    status_idle c.args.machine.now c.run_store.new.machine c.store_status.new.machine c.args.steps.now c.run_store.new.steps c.store_status.new.steps q.idle
    (c.run_store.ensures.value q.space) c.store_status.ensures

pub returns : goal.returns
returns g c =
    let q = c.requires in
    with_status_stored c.args.machine.now c.run_store.new.machine c.store_status.new.machine c.end_row.new.machine c.args.steps.now c.run_store.new.steps
    c.store_status.new.steps c.end_row.new.steps
    q.link (c.run_store.ensures.value q.space) c.store_status.ensures c.end_row.ensures
