use Rattle.std.proofs.Common.{List, ap, ◌∙◌}
use Rattle.std.proofs.lemmas.Result.{err_from_is_err_and}
use Rattle.object_defs.specs.Groups.{FoundGroup}
use Rattle.object_laws.specs.Running.{kept_groups}
use Rattle.object_tags.specs.Reads.{kept_of}
use Rattle.object_tags.specs.SeenGroups.{model_of_found}
use Rattle.object_tags.proofs.GroupSteps.{group_added, group_fails, all_added}
use Rattle.object_tags.proofs.reader.Reader.take_groups.Goals as goal

pub loop-found-preserved : goal.loop-found-preserved
loop-found-preserved c =
    let so_far = rw c.in-Some.ensures.steps at c.loop-found.invariant in
    group_added _ (kept_of c.loop-found.self) (model_of_found c.in-Some.found) c.next.new.self so_far (kept_of c.take_group.new.self)
    (c.in_ok-take_group.ensures {u = tt})

pub returns-in_err-take_group : goal.returns-in_err-take_group
returns-in_err-take_group c =
    let p = err_from_is_err_and c.from_residual.result c.from_residual.ensures.1 in
    let so_far = rw c.in-Some.ensures.steps at c.loop-found.invariant in
    rw (p.1, p.2) (group_fails _ (kept_of c.loop-found.self) (model_of_found c.in-Some.found) c.next.new.self so_far c.in_err-take_group.field-0.0
    (c.in_err-take_group.ensures {u = tt}))

pub returns : goal.returns
returns c = c.loop-found.invariant ∙ (ap (λ (groups : List FoundGroup). kept_groups (kept_of c.loop-found.self) groups) c.in-None.ensures.steps.0
    ∙ all_added (kept_of c.loop-found.self))
