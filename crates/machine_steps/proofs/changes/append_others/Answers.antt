use Rattle.std.proofs.Common.{◌++◌, List, ℕ, ap₂, ◌∙◌, append_assoc}
use Rattle.machine_change_defs.specs.Seen.{SeenMemory, seen_memory}
use Rattle.machine_change_defs.specs.Changes.{other_changes}
use Rattle.machine_change_defs.specs.Text.{bytes_text, ports_text}
use Rattle.machine_steps.proofs.changes.append_others.Goals as goal

pub returns-clause-text : goal.returns-clause-text
unfolding ports_text
returns-clause-text c =
    let after = seen_memory c.args.bus.now in
    let made = other_changes c.args.seen.now after in
    c.append_ports.ensures.text
    ∙ ap₂ (λ (l : List ℕ) (m : SeenMemory). l ++ ports_text (other_changes m after)) c.append_bytes.ensures.text c.append_bytes.ensures.seen
    ∙ append_assoc c.args.line.now (bytes_text made) (ports_text made)
