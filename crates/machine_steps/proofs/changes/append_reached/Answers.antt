use Rattle.std.proofs.Common.{◌++◌, List, ℕ, sym, ap, subst, ◌∙◌, append-nil}
use Rattle.machine_change_defs.specs.Seen.{seen_memory}
use Rattle.machine_steps.specs.declared.reach.Reach.{Reach}
use Rattle.machine_steps.specs.Reach.{Stays}
use Rattle.machine_steps.proofs.UnchangedParts.{nothing_shown}
use Rattle.machine_steps.proofs.changes.append_reached.Goals as goal

pub returns-in-Nothing-clause-text : goal.returns-in-Nothing-clause-text
returns-in-Nothing-clause-text c =
    let line = c.args.line.now in
    let seen = c.args.seen.now in
    let after = seen_memory c.args.bus.now in
    let same = subst (λ (r : Reach). Stays r seen after) c.in-Nothing.is c.requires.stays in
    sym (ap (λ (t : List ℕ). line ++ t) (nothing_shown c.args.wp seen after same) ∙ append-nil line)
