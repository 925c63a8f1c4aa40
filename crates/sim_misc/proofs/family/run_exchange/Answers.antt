use Rattle.sim_misc.proofs.Exchanges
use Rattle.sim_misc.proofs.family.run_exchange.Goals as goal

pub run_store-requires-clause-idle : goal.run_store-requires-clause-idle
run_store-requires-clause-idle g c =
    Exchanges.idle_asked c.keep_destination.ensures c.requires.entry.idle

pub turn_to_source-requires : goal.turn_to_source-requires
turn_to_source-requires g c =
    let x = c.args.machine.now in
    let y = c.keep_destination.new.machine in
    let z = c.run_store.new.machine in
    Exchanges.at_stored x y z c.args.steps.now c.keep_destination.new.steps c.run_store.new.steps c.keep_destination.ensures c.requires.entry.space
    c.run_store.ensures.value

pub finish_row-requires-clause-idle : goal.finish_row-requires-clause-idle
finish_row-requires-clause-idle g c =
    Exchanges.idle_turned c.keep_destination.ensures c.requires.entry.space c.run_store.ensures.value c.turn_to_source.ensures c.requires.entry.idle

pub finish_row-requires-clause-space : goal.finish_row-requires-clause-space
finish_row-requires-clause-space g c =
    Exchanges.near_source c.keep_destination.ensures c.requires.entry.space c.run_store.ensures.value c.turn_to_source.ensures c.requires.source_space

pub finish_row-requires-clause-visible : goal.finish_row-requires-clause-visible
finish_row-requires-clause-visible g c =
    Exchanges.visible_source c.keep_destination.ensures c.requires.entry.space c.run_store.ensures.value c.turn_to_source.ensures c.requires.source_visible

pub returns : goal.returns
returns g c =
    λ s place source known a is.
    Exchanges.exchanges c.keep_destination.ensures c.requires.entry.space c.run_store.ensures.value c.turn_to_source.ensures
    s place source known a is c.requires.entry.is_at.machine c.finish_row.new.machine c.finish_row.new.steps c.finish_row.ensures
