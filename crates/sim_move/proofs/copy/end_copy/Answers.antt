use Rattle.std.proofs.Common.{◌≡◌, arith}
use Rattle.sim_rows.proofs.Common.{SHOW}
use Rattle.sim_move.proofs.CopyEnds
use Rattle.sim_move.proofs.copy.end_copy.Goals as goal

pub leave_copy-requires : goal.leave_copy-requires
leave_copy-requires g c = CopyEnds.ended_at c.requires.at c.requires.none_left

pub end_row-requires-clause-idle : goal.end_row-requires-clause-idle
end_row-requires-clause-idle g c = CopyEnds.idle_ended c.requires.at c.leave_copy.ensures

pub resume_row-requires-clause-idle : goal.resume_row-requires-clause-idle
resume_row-requires-clause-idle g c = CopyEnds.idle_ended c.requires.at c.leave_copy.ensures

pub returns-then-pc-eq-SHOW : goal.returns-then-pc-eq-SHOW
returns-then-pc-eq-SHOW g c =
    let here : c.leave_copy.new.machine.cpu.pc ≡ SHOW = let p = c.pc.ensures.value in let r = c.if-pc-eq-SHOW.true in omega arith in
    CopyEnds.ends_memory c.requires.at c.leave_copy.ensures c.end_row.new.machine c.end_row.new.steps here c.end_row.ensures

pub returns-else-pc-eq-SHOW : goal.returns-else-pc-eq-SHOW
returns-else-pc-eq-SHOW g c =
    let elsewhere : c.leave_copy.new.machine.cpu.pc ≡ SHOW → ⊥ = λ here. let p = c.pc.ensures.value in let r = c.if-pc-eq-SHOW.false in absurd (omega arith) in
    CopyEnds.ends_grom c.requires.at c.leave_copy.ensures c.resume_row.new.machine c.resume_row.new.steps elsewhere c.resume_row.ensures
