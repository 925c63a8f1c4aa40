-- The changes of an instruction can be written.
use Rattle.std.proofs.Common.{ℕ, zero, suc, ◌+◌, ◌*◌, ◌<◌, ◌≤◌, nat_eq, ◌&&◌, List, [], ◌++◌, Option, Some, None, arith}
use Rattle.std.specs.Prelude.{slice_index, slice_range, IfSome}
use Rattle.std.specs.List.{flat_map, range_with_len}
use Rattle.std.specs.Option.{option_map}
use Rattle.std.proofs.lemmas.Grind.{common_steps}
use Rattle.tms_defs.specs.Bytes.{HoldsBytes}
use Rattle.console_defs.specs.Memory.{Memory, IsMemory}
use Rattle.change_defs.specs.Changes.{changes}
use Rattle.machine_change_defs.specs.declared.area.Area.{Area}
use Rattle.machine_change_defs.specs.declared.area.Area.TheVariants.{Scratchpad, LowExpansion, HighExpansion, Video, Registers}
use Rattle.machine_change_defs.specs.Seen.{SeenMemory, seen_memory, area_bytes, workspace_place, workspace_at}
use Rattle.machine_change_defs.specs.Changes.{register_change, number_if_changed, held_if_changed, memory_changes}
use Rattle.debug_report_defs.proofs.Digits.{cond_both}
use Rattle.debug_report_defs.proofs.Fitting.{AllInside, changes_inside}
use Rattle.debug_report_defs.proofs.MachineRead.{AllRegistersFit, FitsBelow, HeldFits, ChangesFit}

inside : (size : ℕ) (before after : List ℕ) → HoldsBytes size after → AllInside size (changes before after)
inside size before after holds = changes_inside size 0 before after holds.fits (let is = holds.size in omega (arith, is))

-- ---- registers of the workspace

slice_fits : (bytes : List ℕ) (at : ℕ) → ((k : ℕ) → slice_index bytes k < 256) → (k : ℕ) → slice_index (slice_range bytes at (at + 32)) k < 256
slice_fits bytes at fits k = let old = fits (at + k) in grind (arith, common_steps)

module _ (m : Memory) (is : IsMemory m) where
  area_fits : (area : Area) (k : ℕ) → slice_index (area_bytes area (seen_memory m)) k < 256
  area_fits Scratchpad k = is.scratchpad.fits k
  area_fits LowExpansion k = is.low_expansion.fits k
  area_fits HighExpansion k = is.high_expansion.fits k
  area_fits Video k = is.vdp.memory.fits k
  area_fits Registers k = is.vdp.registers.fits k

  workspace_fits : (place : Option (Area × ℕ)) (k : ℕ) → slice_index (workspace_at place (seen_memory m)) k < 256
  workspace_fits None k = omega arith
  workspace_fits (Some (area, at)) k = slice_fits (area_bytes area (seen_memory m)) at (area_fits area) k

registers_fit : (before after : List ℕ) → ((k : ℕ) → slice_index after k < 256) → (n count : ℕ) → n + count ≤ 16
    → AllRegistersFit (flat_map (register_change before after) (range_with_len n count))
registers_fit before after fits n zero le = tt
registers_fit before after fits n (suc count) le =
    let rest = registers_fit before after fits (n + 1) count (omega arith) in
    cond_both (λ own. AllRegistersFit (own ++ flat_map (register_change before after) (range_with_len (n + 1) count)))
    (nat_eq (slice_index before (2 * n)) (slice_index after (2 * n))
    && nat_eq (slice_index before (2 * n + 1)) (slice_index after (2 * n + 1)))
    [] _ rest (record { number = omega arith; high = fits (2 * n); low = fits (2 * n + 1) }, rest)

-- ---- what the ports hold

number_fits : (most old new : ℕ) → new < most → FitsBelow most (number_if_changed old new)
number_fits most old new lt = cond_both (FitsBelow most) (nat_eq old new) None (Some new) tt lt

held_fits : (old new : Option ℕ) → IfSome new (λ byte. byte < 256) → HeldFits (held_if_changed old new)
held_fits None (Some new) lt = lt
held_fits (Some old) (Some new) lt =
    cond_both (λ found. HeldFits (option_map Some found)) (nat_eq old new) None (Some new) tt lt
held_fits _ _ lt = tt

-- the changes to a memory
pub changes_fit : (wp : ℕ) (before : SeenMemory) (m : Memory) → IsMemory m → ChangesFit (memory_changes wp before (seen_memory m))
changes_fit wp before m is =
    let place = workspace_place wp in
    record {
      workspace = registers_fit (workspace_at place before) (workspace_at place (seen_memory m)) (workspace_fits m is place) 0 16 (omega arith);
      scratchpad = inside 256 _ m.scratchpad is.scratchpad;
      low_expansion = inside 8192 _ m.low_expansion is.low_expansion;
      high_expansion = inside 24576 _ m.high_expansion is.high_expansion;
      video = inside 16384 _ m.vdp.memory is.vdp.memory;
      registers = inside 8 _ m.vdp.registers is.vdp.registers;
      latches =
          record {
            video_address = number_fits 65536 _ m.vdp.address (let lt = is.vdp.address in omega arith);
            video_fetched = number_fits 256 _ m.vdp.fetched is.vdp.fetched;
            video_held = held_fits _ m.vdp.held is.vdp.held;
            grom_counter = number_fits 65536 _ m.grom.counter is.grom.counter;
            grom_fetched = number_fits 256 _ m.grom.fetched is.grom.fetched;
          };
    }
