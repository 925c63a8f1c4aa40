use Rattle.std.proofs.Common.{◌≡◌, ◌+◌, ◌%◌, ◌≤◌, length, take, drop, sum}
use Rattle.object_tags.proofs.GroupSteps.{groups_further, sum_after, passed_within}
use Rattle.object_tags.proofs.groups.Groups.after.Goals as goal

pub invariant_of-result : goal.invariant_of-result
invariant_of-result c =
    let line = c.args.line.now in
    let passed : c.front-passed.result.now ≡ take c.args.left (drop c.args.at line) = rw c.after.ensures at c.front-passed.ensures in
    let within : c.args.at + length (take c.args.left (drop c.args.at line)) ≤ length line = passed_within line c.args.at c.args.left c.requires.at in
    let total : (c.args.total + sum (take c.args.left (drop c.args.at line)) % 65536) % 65536
    ≡ sum (take (c.args.at + length (take c.args.left (drop c.args.at line))) line) % 65536 = sum_after line c.args.at c.args.left c.requires.at
    c.args.total c.requires.total in
    (rw passed within, c.requires.line, rw (c.sum_of.ensures, passed) total)

pub returns : goal.returns
returns c =
    let line = c.args.line.now in
    let passed : c.front-passed.result.now ≡ take c.args.left (drop c.args.at line) = rw c.after.ensures at c.front-passed.ensures in
    rw passed (groups_further line c.args.at c.args.left c.requires.at c.args.form)
