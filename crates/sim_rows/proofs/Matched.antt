-- A matching machine at the beginning of a step.
use Rattle.std.proofs.Common.{ℕ, ◌<◌, ◌≡◌, arith, refl, slice_index}
use Rattle.sim_rows.specs.Prelude.{grom_at, IsMatching, IsMemory, MachineState, Memory, next_at, PortsAreIdle, ShowsState, shown_by, view}
use Rattle.sim_rows.specs.Prelude.{view_of}
use Rattle.sim_operands.proofs.Ready.{idle_video, ready}

sees_by : (m : Memory) → PortsAreIdle m → (view_of m).grom ≡ grom_at (view_of m).grom.image (next_at (view_of m)) →
    ShowsState (shown_by m) (shown_by m).pc (view_of m)
unfolding view_of
sees_by m idle g = record { cells = refl; vdp = refl; registers = refl; held = idle_video m idle; grom = g }

-- It shows its state.
pub sees_at : (x : MachineState) → IsMatching x → ShowsState (shown_by x.cpu.memory) (shown_by x.cpu.memory).pc (view x)
sees_at x m = sees_by x.cpu.memory m.idle (ready x.cpu.memory m.idle m.fetched)

pub pc_fits : (m : Memory) → IsMemory m → (shown_by m).pc < 65536
pc_fits m i = let h = i.grom.counter in omega arith

pub bytes_fit : (m : Memory) → IsMemory m → (at : ℕ) → slice_index (shown_by m).image at < 256
bytes_fit m i at = i.grom.image.fits at
