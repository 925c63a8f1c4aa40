use Rattle.std.proofs.Common.{◌≡◌, ◌++◌, [], List, ℕ, sym, ap, ap₂, ◌∙◌, append_assoc, append-nil}
use Rattle.std.specs.List.{flat_map}
use Rattle.machine_change_defs.specs.Seen.{SeenMemory, seen_memory, workspace_place, workspace_at, with_workspace}
use Rattle.machine_change_defs.specs.Changes.{register_changes, other_changes}
use Rattle.machine_change_defs.specs.Text.{register_text, bytes_text, ports_text, changes_text}
use Rattle.machine_steps.proofs.UnchangedParts.{ports_none, workspace_keeps}
use Rattle.machine_steps.proofs.changes.append_words.Goals as goal

pub returns-clause-text : goal.returns-clause-text
unfolding changes_text
returns-clause-text c =
    let line = c.args.line.now in
    let seen = c.args.seen.now in
    let after = seen_memory c.args.bus.now in
    let place = workspace_place c.args.wp in
    let workspace = workspace_at place after in
    let made = with_workspace place workspace seen in
    let registers = flat_map register_text (register_changes (workspace_at place seen) workspace) in
    let bytes = bytes_text (other_changes made after) in
    let keeps = workspace_keeps c.args.wp workspace seen in
    let stays = c.requires.stays in
    let none : ports_text (other_changes made after) ≡ [] =
    ports_none made after (stays.0 ∙ sym keeps.video) (stays.1 ∙ sym keeps.registers) (stays.2 ∙ sym keeps.latches) in
    c.append_bytes.ensures.text
    ∙ ap₂ (λ (l : List ℕ) (m : SeenMemory). l ++ bytes_text (other_changes m after)) c.append_workspace.ensures.text c.append_workspace.ensures.seen
    ∙ append_assoc line registers bytes
    ∙ ap (λ (t : List ℕ). line ++ (registers ++ t)) (sym (append-nil bytes) ∙ ap (λ (t : List ℕ). bytes ++ t) (sym none))
