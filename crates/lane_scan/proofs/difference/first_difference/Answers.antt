use Rattle.std.proofs.Common.{rules, ◌≡◌, ◌<◌, Some, None, IfSome, length, sym, subst}
use Rattle.base_defs.specs.Lists.{first_difference, IsFirstDifference}
use Rattle.lane_scan.proofs.First.{first_is, first_within}
use Rattle.lane_scan.proofs.difference.first_difference.Goals as goal

pub returns-then-common-b-clause-first : goal.returns-then-common-b-clause-first
returns-then-common-b-clause-first c =
    let value : None ≡ first_difference c.args.a.now c.args.b.now = search rules in
    subst (IsFirstDifference c.args.a.now c.args.b.now) (sym value) (first_is c.args.a.now c.args.b.now)

pub returns-else-common-a-clause-first : goal.returns-else-common-a-clause-first
returns-else-common-a-clause-first c =
    let value : Some c.common_length-common.result ≡ first_difference c.args.a.now c.args.b.now = search rules in
    subst (IsFirstDifference c.args.a.now c.args.b.now) (sym value) (first_is c.args.a.now c.args.b.now)

pub returns-else-common-a-clause-within : goal.returns-else-common-a-clause-within
returns-else-common-a-clause-within c =
    let value : Some c.common_length-common.result ≡ first_difference c.args.a.now c.args.b.now = search rules in
    λ same. subst (λ r. IfSome r (λ at. at < length c.args.a.now)) (sym value) (first_within c.args.a.now c.args.b.now same)
