use Rattle.std.proofs.Common.{◌≡◌, ◌+◌, ◌%◌, ◌<◌, ◌≤◌, cond, List, [], ◌∷◌, ◌++◌, take, drop, length, get_or, refl, sym, ap, ◌∙◌, arith, rules}
use Rattle.object_defs.specs.Digits.{complement, checksum}
use Rattle.object_defs.specs.Groups.{FoundGroup, tag_at, found_with, ends_line, size_found}
use Rattle.object_laws.specs.Running.{groups_after}
use Rattle.object_tags.specs.SeenGroups.{model_of_found}
use Rattle.object_tags.proofs.GroupSteps.{first_group, next_checksum, no_groups, none_left}
use Rattle.object_tags.proofs.groups.GroupsIterator.next.Goals.{then-ends_line, else-ends_line}
use Rattle.object_tags.proofs.groups.GroupsIterator.next.Goals as goal

pub returns-then-self-clause-steps : goal.returns-then-self-clause-steps
returns-then-self-clause-steps c =
    let none : c.args.self.now ≡ [] = sym c.self.view_is ∙ no_groups c.self.inside.form c.self.inside.line.now c.self.inside.at c.if-self.true in
    (none, none)

steps : (c : goal.After-self-2) → c.args.self.now ≡ model_of_found c.found_with-found.result ∷ c.if-ends_line.self
steps c =
    let line = c.self.inside.line.now in
    let at = c.self.inside.at in
    let within : at ≤ length line = c.self.invariant.0 in
    let inside : at < length line = omega (arith, c.if-self.false) in
    let found : FoundGroup = model_of_found c.found_with-found.result in
    let sum : complement ((c.self.inside.total + get_or line at 0) % 65536) ≡ checksum (take at line ++ get_or line at 0 ∷ []) =
    next_checksum line at inside c.self.inside.total c.self.invariant.2 in
    let is : found ≡ found_with c.self.inside.form (checksum (take at line ++ get_or line at 0 ∷ [])) (get_or line at 0)
    (tag_at c.self.inside.form at (get_or line at 0)) (drop (at + 1) line) =
    c.found_with-found.ensures ∙ rw (c.complement.ensures, c.from.ensures, sum, c.tag_at-tag.ensures, c.after-fields.ensures) refl in
    sym c.self.view_is ∙ (first_group line at inside c.self.inside.form found is ∙ ap (λ (gs : List FoundGroup). found ∷ gs) (left c))
  where
    left : (c : goal.After-self-2)
        → cond (ends_line (model_of_found c.found_with-found.result)) []
        (groups_after c.self.inside.form (take (c.self.inside.at + 1) c.self.inside.line.now)
        (size_found c.self.inside.form (model_of_found c.found_with-found.result)) (drop (c.self.inside.at + 1) c.self.inside.line.now))
        ≡ c.if-ends_line.self
    left c = elim c.if-ends_line.branch [
      | then-ends_line w ↦ rw (sym (w.if-ends_line.ensures {u = tt})) (sym (w.self-is ∙ (w.new.ensures ∙ none_left c.self.inside.form)))
      | else-ends_line w ↦ rw (sym (w.if-ends_line.ensures {u = tt}), sym w.size.ensures) (sym (w.self-is ∙ w.after.ensures))
    ]

pub returns-clause-steps : goal.returns-clause-steps
returns-clause-steps c = steps c ∙ ap (λ gs. model_of_found c.found_with-found.result ∷ gs) (sym c.self-2.view_is)

pub returns-clause-goes : goal.returns-clause-goes
returns-clause-goes c =
    let e = returns-clause-steps c in
    rw e (search rules)
