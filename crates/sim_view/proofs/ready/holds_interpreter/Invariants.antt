use Rattle.std.proofs.Common.{◌≡◌, ◌*◌, ◌<◌, ℕ, slice_index}
use Rattle.sim_view.specs.Prelude.{INTERP, word_in}
use Rattle.sim_view.proofs.ready.holds_interpreter.Given as goal

-- the words so far are the interpreter's
abbrev pub invariant-loop-number : goal.invariant-loop-number
invariant-loop-number l = (k : ℕ) → k < l.number → word_in l.bus.low_expansion (2 * k) ≡ slice_index INTERP k
