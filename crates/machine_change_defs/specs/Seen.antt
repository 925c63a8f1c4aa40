-- What is seen of the memory of a machine: all of it but the ROM and the bytes of the GROMs, which no instruction
-- changes.
use Rattle.std.specs.Prelude.{ℕ, ◌+◌, ◌-◌, ◌==◌, if◌then◌else◌, List, [], ◌++◌, take, drop, slice_range, Option}
use Rattle.std.specs.Prelude.{Some, None}
use Rattle.std.specs.Option.{option_map}
use Rattle.console_defs.specs.Memory.{Memory}
use Rattle.console_defs.specs.Machine.{workspace_base}
use Rattle.machine_change_defs.specs.declared.area.Area.{Area}
use Rattle.machine_change_defs.specs.declared.area.Area.TheVariants.{Scratchpad, LowExpansion, HighExpansion}
use Rattle.machine_change_defs.specs.declared.area.Area.TheVariants.{Video, Registers}
use Rattle.machine_change_defs.specs.declared.latches.Latches.{Latches}

pub record SeenMemory : Type 0 where
  pub scratchpad : List ℕ
  pub low_expansion : List ℕ
  pub high_expansion : List ℕ
  pub video : List ℕ
  pub registers : List ℕ
  pub latches : Latches

abbrev pub seen_latches : Memory → Latches
seen_latches m =
    record {
      video_address = m.vdp.address;
      video_fetched = m.vdp.fetched;
      video_held = m.vdp.held;
      grom_counter = m.grom.counter;
      grom_fetched = m.grom.fetched;
      grom_half_written = m.grom.half_written;
    }

abbrev pub seen_memory : Memory → SeenMemory
seen_memory m =
    record {
      scratchpad = m.scratchpad;
      low_expansion = m.low_expansion;
      high_expansion = m.high_expansion;
      video = m.vdp.memory;
      registers = m.vdp.registers;
      latches = seen_latches m;
    }

-- how many bytes an area has
abbrev pub size_of : Area → ℕ
size_of Scratchpad = 256
size_of LowExpansion = 8192
size_of HighExpansion = 24576
size_of Video = 16384
size_of Registers = 8

abbrev pub area_bytes : Area → SeenMemory → List ℕ
area_bytes Scratchpad m = m.scratchpad
area_bytes LowExpansion m = m.low_expansion
area_bytes HighExpansion m = m.high_expansion
area_bytes Video m = m.video
area_bytes Registers m = m.registers

abbrev pub with_bytes : Area → List ℕ → SeenMemory → SeenMemory
with_bytes Scratchpad bytes m = record m { scratchpad = bytes }
with_bytes LowExpansion bytes m = record m { low_expansion = bytes }
with_bytes HighExpansion bytes m = record m { high_expansion = bytes }
with_bytes Video bytes m = record m { video = bytes }
with_bytes Registers bytes m = record m { registers = bytes }

-- the area from an address on
abbrev pub area_from : ℕ → Area
area_from base =
    if base == 0x8300 then Scratchpad else if base == 0x2000 then LowExpansion else HighExpansion

-- where the 32 bytes of a workspace that can be shown stand: the area, and the place in it
abbrev pub workspace_place : ℕ → Option (Area × ℕ)
workspace_place wp = option_map (λ base. (area_from base, wp - base)) (workspace_base wp)

abbrev pub workspace_at : Option (Area × ℕ) → SeenMemory → List ℕ
workspace_at None m = []
workspace_at (Some (area, at)) m = slice_range (area_bytes area m) at (at + 32)

-- a list in which 32 bytes from a place on are other ones
abbrev pub replaced : ℕ → List ℕ → List ℕ → List ℕ
replaced at workspace bytes = take at bytes ++ (workspace ++ drop (at + 32) bytes)

-- a memory in which the bytes of a workspace are other ones
abbrev pub with_workspace : Option (Area × ℕ) → List ℕ → SeenMemory → SeenMemory
with_workspace None workspace m = m
with_workspace (Some (area, at)) workspace m = with_bytes area (replaced at workspace (area_bytes area m)) m
