use Rattle.std.proofs.Common.{◌≡◌, arith, Some}
use Rattle.sim_rows.proofs.Common.{row_entry, STO}
use Rattle.sim_alu.proofs.StoredResults
use Rattle.sim_alu.proofs.family.run_row.Goals as goal

pub finish_row-requires-clause-idle : goal.finish_row-requires-clause-idle
finish_row-requires-clause-idle g c =
    StoredResults.result_idle c.args.operation c.args.machine.now c.make_result.new.machine c.args.steps.now c.make_result.new.steps c.requires.family
    c.requires.idle c.make_result.ensures

pub finish_with_status-requires-clause-idle : goal.finish_with_status-requires-clause-idle
finish_with_status-requires-clause-idle g c =
    StoredResults.result_idle c.args.operation c.args.machine.now c.make_result.new.machine c.args.steps.now c.make_result.new.steps c.requires.family
    c.requires.idle c.make_result.ensures

pub returns-then-pc-eq-STO : goal.returns-then-pc-eq-STO
returns-then-pc-eq-STO g c =
    let x = c.args.machine.now in
    let y = c.make_result.new.machine in
    let at : y.cpu.pc ≡ STO = let a = c.pc.ensures.value in let b = c.if-pc-eq-STO.true in omega arith in
    StoredResults.by_sto c.args.operation x y c.finish_row.new.machine c.args.steps.now c.make_result.new.steps c.finish_row.new.steps c.requires.family
    (row_entry (Some c.args.operation)) c.requires.is_at
    c.make_result.ensures at c.finish_row.ensures

pub returns-else-pc-eq-STO : goal.returns-else-pc-eq-STO
returns-else-pc-eq-STO g c =
    let x = c.args.machine.now in
    let y = c.make_result.new.machine in
    let away : y.cpu.pc ≡ STO → ⊥ = λ here. let a = c.pc.ensures.value in let b = c.if-pc-eq-STO.false in absurd (omega arith) in
    StoredResults.by_store c.args.operation x y c.finish_with_status.new.machine c.args.steps.now c.make_result.new.steps c.finish_with_status.new.steps
    c.requires.family (row_entry (Some c.args.operation)) c.requires.is_at
    c.make_result.ensures away c.finish_with_status.ensures
