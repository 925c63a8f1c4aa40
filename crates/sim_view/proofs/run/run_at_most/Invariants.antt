use Rattle.std.proofs.Common.{◌≡◌, ◌+◌}
use Rattle.sim_view.specs.Running.{ran}
use Rattle.sim_view.proofs.run.run_at_most.Given as goal

-- what is left of the run is the rest of it
abbrev pub invariant-loop-left : goal.invariant-loop-left
invariant-loop-left g l =
    record {
      left : (ran l.ends l.fn.most l.fn.machine).left ≡ (ran l.ends l.left l.machine).left;
      count : l.fn.steps + (ran l.ends l.fn.most l.fn.machine).count ≡ l.steps + (ran l.ends l.left l.machine).count;
    }

abbrev pub decreases-loop-left : goal.decreases-loop-left
decreases-loop-left g l = l.left
