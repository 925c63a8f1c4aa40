-- What an instruction changed of the memory, and what a memory becomes by it.
use Rattle.std.specs.Prelude.{ℕ, ◌+◌, ◌*◌, ◌==◌, ◌&&◌, Bool, true, false, if◌then◌else◌, List, [], ◌∷◌, Option, Some}
use Rattle.std.specs.Prelude.{None}
use Rattle.std.specs.Prelude.{slice_index, slice_set}
use Rattle.std.specs.List.{flat_map, range_with_len}
use Rattle.std.specs.Option.{option_map}
use Rattle.change_defs.specs.Changes.{Change, changes, applied}
use Rattle.machine_change_defs.specs.declared.area.Area.{Area}
use Rattle.machine_change_defs.specs.declared.latches.Latches.{Latches}
use Rattle.machine_change_defs.specs.Seen.{SeenMemory, workspace_place, workspace_at, with_workspace}

-- A register of the workspace that changed, and the two bytes of its new word.
pub record RegisterChange : Type 0 where
  pub number : ℕ
  pub high : ℕ
  pub low : ℕ

-- of a register with a number, by the 32 bytes that the workspace had and has
abbrev pub register_change : List ℕ → List ℕ → ℕ → List RegisterChange
register_change before after number =
    let high = slice_index after (2 * number) in
    let low = slice_index after (2 * number + 1) in
    if (slice_index before (2 * number) == high) && (slice_index before (2 * number + 1) == low) then []
    else record { number = number; high = high; low = low } ∷ []

-- Profile: the registers whose words changed, in order.
abbrev pub register_changes : List ℕ → List ℕ → List RegisterChange
register_changes before after = flat_map (register_change before after) (range_with_len 0 16)

-- the 32 bytes with the registers changed
abbrev pub registers_applied : List RegisterChange → List ℕ → List ℕ
registers_applied [] workspace = workspace
registers_applied (c ∷ cs) workspace =
    registers_applied cs (slice_set (slice_set workspace (2 * c.number) c.high) (2 * c.number + 1) c.low)

-- ---- what the ports hold beside memory

-- a number where it differs from the one before
abbrev pub number_if_changed : ℕ → ℕ → Option ℕ
number_if_changed old new = if old == new then None else Some new

abbrev pub held_if_changed : Option ℕ → Option ℕ → Option (Option ℕ)
held_if_changed None None = None
held_if_changed None (Some new) = Some (Some new)
held_if_changed (Some old) None = Some None
held_if_changed (Some old) (Some new) = option_map Some (number_if_changed old new)

abbrev pub mark_if_changed : Bool → Bool → Option Bool
mark_if_changed false false = None
mark_if_changed false true = Some true
mark_if_changed true false = Some false
mark_if_changed true true = None

-- the new one, if there is one
abbrev pub renewed : {T : Type 0} → Option T → T → T
renewed None old = old
renewed (Some new) old = new

pub record LatchChanges : Type 0 where
  pub video_address : Option ℕ
  pub video_fetched : Option ℕ
  pub video_held : Option (Option ℕ)
  pub grom_counter : Option ℕ
  pub grom_fetched : Option ℕ
  pub grom_half_written : Option Bool

abbrev pub latch_changes : Latches → Latches → LatchChanges
latch_changes old new =
    record {
      video_address = number_if_changed old.video_address new.video_address;
      video_fetched = number_if_changed old.video_fetched new.video_fetched;
      video_held = held_if_changed old.video_held new.video_held;
      grom_counter = number_if_changed old.grom_counter new.grom_counter;
      grom_fetched = number_if_changed old.grom_fetched new.grom_fetched;
      grom_half_written = mark_if_changed old.grom_half_written new.grom_half_written;
    }

abbrev pub latches_applied : LatchChanges → Latches → Latches
latches_applied made old =
    record {
      video_address = renewed made.video_address old.video_address;
      video_fetched = renewed made.video_fetched old.video_fetched;
      video_held = renewed made.video_held old.video_held;
      grom_counter = renewed made.grom_counter old.grom_counter;
      grom_fetched = renewed made.grom_fetched old.grom_fetched;
      grom_half_written = renewed made.grom_half_written old.grom_half_written;
    }

-- ---- all of it

-- The changes of bytes other than those of the workspace, and of what the ports hold.
pub record OtherChanges : Type 0 where
  pub scratchpad : List Change
  pub low_expansion : List Change
  pub high_expansion : List Change
  pub video : List Change
  pub registers : List Change
  pub latches : LatchChanges

abbrev pub other_changes : SeenMemory → SeenMemory → OtherChanges
other_changes before after =
    record {
      scratchpad = changes before.scratchpad after.scratchpad;
      low_expansion = changes before.low_expansion after.low_expansion;
      high_expansion = changes before.high_expansion after.high_expansion;
      video = changes before.video after.video;
      registers = changes before.registers after.registers;
      latches = latch_changes before.latches after.latches;
    }

-- What an instruction changed: registers of the workspace that it had, and all else.
pub record MemoryChanges : Type 0 where
  pub workspace : List RegisterChange
  pub others : OtherChanges

-- The changes of an instruction, by where the workspace stands that it had: first the registers whose words changed;
-- then whatever is still different once the workspace has its new bytes.
abbrev pub changes_at : Option (Area × ℕ) → SeenMemory → SeenMemory → MemoryChanges
changes_at place before after =
    record {
      workspace = register_changes (workspace_at place before) (workspace_at place after);
      others = other_changes (with_workspace place (workspace_at place after) before) after;
    }

abbrev pub memory_changes : ℕ → SeenMemory → SeenMemory → MemoryChanges
memory_changes wp before after = changes_at (workspace_place wp) before after

-- a memory with other changes made
abbrev pub others_applied : OtherChanges → SeenMemory → SeenMemory
others_applied made m =
    record {
      scratchpad = applied made.scratchpad m.scratchpad;
      low_expansion = applied made.low_expansion m.low_expansion;
      high_expansion = applied made.high_expansion m.high_expansion;
      video = applied made.video m.video;
      registers = applied made.registers m.registers;
      latches = latches_applied made.latches m.latches;
    }

-- a memory with the changes of an instruction made, by where the workspace stands that it had
abbrev pub changes_applied : Option (Area × ℕ) → MemoryChanges → SeenMemory → SeenMemory
changes_applied place made m =
    others_applied made.others (with_workspace place (registers_applied made.workspace (workspace_at place m)) m)

abbrev pub memory_applied : ℕ → MemoryChanges → SeenMemory → SeenMemory
memory_applied wp made m = changes_applied (workspace_place wp) made m
