use Rattle.std.proofs.Common.{ℕ, ◌≡◌, arith, subst}
use Rattle.sim_rows.proofs.Common.{shown_by, Turn, Turned, whole_turn}
use Rattle.sim_steps.proofs.TurnRuns.{none_yet, stepped, Stepping, stopped, whole}
use Rattle.sim_steps.proofs.program.run_turns.Goals as goal

pub loop-made-init : goal.loop-made-init
loop-made-init g c = none_yet c.requires

pub gpl_turn-requires : goal.gpl_turn-requires
gpl_turn-requires g c = c.loop-made.invariant.matches.matching

pub returns-in-Stopped : goal.returns-in-Stopped
returns-in-Stopped g c =
    let z = c.loop-made.machine in
    let P : Turn → Type 0 = λ turn. Turned (shown_by z.cpu.memory) z c.gpl_turn.new.machine (whole_turn c.loop-made.steps c.gpl_turn.new.steps) turn in
    stopped c.loop-made.made c.loop-made.invariant _ _ c.args.limit c.in-Stopped.reason c.loop-made-test.true (subst P c.in-Stopped.is c.gpl_turn.ensures)

pub loop-made-preserved : goal.loop-made-preserved
loop-made-preserved g c =
    let z = c.loop-made.machine in
    let P : Turn → Type 0 = λ turn. Turned (shown_by z.cpu.memory) z c.gpl_turn.new.machine (whole_turn c.loop-made.steps c.gpl_turn.new.steps) turn in
    stepped c.loop-made.made c.loop-made.invariant _ _ (subst P c.in_default.is c.gpl_turn.ensures)

pub returns : goal.returns
returns g c =
    let x = c.args.machine.now in
    let all : c.loop-made.made ≡ c.args.limit = let a = c.loop-made-test.false in let b = c.loop-made.auto.made-end in omega arith in
    whole c.args.limit
    (subst (λ (made : ℕ). Stepping made (shown_by x.cpu.memory) x c.loop-made.machine c.args.steps.now c.loop-made.steps) all c.loop-made.invariant)
