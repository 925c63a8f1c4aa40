use Rattle.std.proofs.Common.{◌+◌, refl, length-drop, arith}
use Rattle.step_changes.proofs.Neighbours.{rest_is, no_next, begins}
use Rattle.step_changes.proofs.scan.next_difference.Goals as goal

pub returns-in-Some : goal.returns-in-Some
returns-in-Some c =
    let before = c.args.before.now in
    let now = c.args.now.now in
    let within = rw (rest_is before c.args.at, rest_is now c.args.at) at c.in-Some.ensures.within in
    let first = rw (rest_is before c.args.at, rest_is now c.args.at) at c.in-Some.ensures.first in
    begins before now c.requires.size c.args.at c.in-Some.ahead (c.args.at + c.in-Some.ahead) c.requires.at refl
    (within (omega (arith, length-drop c.args.at before, length-drop c.args.at now))) first.0 first.1

pub returns-in-None : goal.returns-in-None
returns-in-None c =
    no_next c.args.before.now c.args.now.now c.requires.size c.args.at
    (rw (rest_is c.args.before.now c.args.at, rest_is c.args.now.now c.args.at) at c.in-None.ensures.first)
