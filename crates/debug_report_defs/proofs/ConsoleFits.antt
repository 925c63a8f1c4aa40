-- Every instruction leaves a machine whose bytes and words fit.
use Rattle.std.proofs.Common.{ℕ, zero, suc, ◌+◌, ◌%◌, ◌<◌, Bool, true, false, List, Option, Some, None, arith, rules, sym, subst}
use Rattle.console_defs.proofs.MemoryLaws.{word_read_in, word_written_in, read_is_by_region, write_is_by_region}
use Rattle.std.specs.Prelude.{slice_index, IfSome}
use Rattle.tms_defs.specs.Words.{even, high, low}
use Rattle.tms_defs.specs.Bytes.{HoldsBytes, word_in, with_word_in}
use Rattle.tms_defs.proofs.WordLaws.{join-fits, high-fits, low-fits}
use Rattle.base_defs.proofs.AddressLaws.{next-fits}
use Rattle.console_defs.specs.Vdp.{VdpState, IsVdp, PairKind, ReadSetup, WriteSetup, RegisterWrite, NoOperation, pair_kind, pair_done, address_byte_taken}
use Rattle.console_defs.specs.Grom.{GromState, IsGrom, grom_fetched_ahead, grom_half_taken}
use Rattle.console_defs.specs.Memory.{Memory, IsMemory, console, Port, VdpDataRead, VdpStatusRead, VdpDataWrite, VdpAddressWrite, GromDataRead, GromAddressRead}
use Rattle.console_defs.specs.Memory.{GromAddressWrite, Region, Rom, LowExpansion, HighExpansion, Scratchpad, PortOf, Unmapped, region}
use Rattle.console_defs.specs.Memory.{byte_read_in, byte_written_in, port_read, port_written}
use Rattle.console_defs.specs.Machine.{MachineState, IsMachine}
use Rattle.console_defs.specs.Runs.{after_steps}
use Rattle.gpl_step_defs.proofs.Kept.{set_keeps}
use Rattle.machine_change_defs.proofs.Keeping.{Holds, holds}
use Rattle.debug_report_defs.proofs.StepFits.{Fit, step_fits}

word_in_fits : (count : ℕ) (bytes : List ℕ) (at : ℕ) → HoldsBytes count bytes → word_in bytes at < 65536
word_in_fits count bytes at h = join-fits _ _ (h.fits at) (h.fits (at + 1))

pub word_set : (count : ℕ) (bytes : List ℕ) (at w : ℕ) → w < 65536 → HoldsBytes count bytes → HoldsBytes count (with_word_in bytes at w)
word_set count bytes at w lt h = set_keeps count _ (at + 1) (low w) (set_keeps count bytes at (high w) h (high-fits w lt)) (low-fits w)

module _ (m : Memory) (is : IsMemory m) where
  with_vdp : (v : VdpState) → IsVdp v → IsMemory (record m { vdp = v })
  with_vdp v k = search rules

  with_grom : (g : GromState) → IsGrom g → IsMemory (record m { grom = g })
  with_grom g k = search rules

  pub with_pad : (bytes : List ℕ) → HoldsBytes 256 bytes → IsMemory (record m { scratchpad = bytes })
  with_pad bytes k = search rules

  pub with_low : (bytes : List ℕ) → HoldsBytes 8192 bytes → IsMemory (record m { low_expansion = bytes })
  with_low bytes k = search rules

  pub with_high : (bytes : List ℕ) → HoldsBytes 24576 bytes → IsMemory (record m { high_expansion = bytes })
  with_high bytes k = search rules

  read : (r : Region) (a : ℕ) → Holds (λ (w : ℕ). w < 65536) (word_read_in r m a)
  read (Rom at) a = holds _ (word_in_fits 8192 m.rom at is.rom)
  read (LowExpansion at) a = holds _ (word_in_fits 8192 m.low_expansion at is.low_expansion)
  read (HighExpansion at) a = holds _ (word_in_fits 24576 m.high_expansion at is.high_expansion)
  read (Scratchpad at) a = holds _ (word_in_fits 256 m.scratchpad at is.scratchpad)
  read (PortOf port) a = record { by = λ n e. absurd (cc) }
  read Unmapped a = holds 0 (omega arith)

  written : (r : Region) (a w : ℕ) → w < 65536 → Holds IsMemory (word_written_in r m a w)
  written (LowExpansion at) a w lt = holds _ (with_low _ (word_set 8192 m.low_expansion at w lt is.low_expansion))
  written (HighExpansion at) a w lt = holds _ (with_high _ (word_set 24576 m.high_expansion at w lt is.high_expansion))
  written (Scratchpad at) a w lt = holds _ (with_pad _ (word_set 256 m.scratchpad at w lt is.scratchpad))
  written (PortOf port) a w lt = record { by = λ n e. absurd (cc) }
  written _ a w lt = holds m is

  abbrev ByteFits : ℕ × Memory → Type 0
  ByteFits r = (r.0 < 256) × IsMemory r.1

  vdp_left : (held : Option ℕ) → IfSome held (λ byte. byte < 256) → IsVdp (record m.vdp { held = held })
  vdp_left held k = record { memory = is.vdp.memory; registers = is.vdp.registers; address = is.vdp.address; fetched = is.vdp.fetched; held = k }

  ahead : (address : ℕ) → IsVdp (record m.vdp { fetched = slice_index m.vdp.memory address; address = (address + 1) % 16384; held = None })
  ahead address = record { memory = is.vdp.memory; registers = is.vdp.registers; address = omega arith; fetched = is.vdp.memory.fits address; held = tt }

  grom_ahead : (counter : ℕ) → counter < 65536 → IsGrom (grom_fetched_ahead (record m.grom { counter = counter; half_written = false }))
  grom_ahead counter lt = record { image = is.grom.image; counter = next-fits counter lt; fetched = is.grom.image.fits counter }

  port_gave : (p : Port) → ByteFits (port_read p m)
  port_gave VdpDataRead = (is.vdp.fetched, with_vdp _ (ahead m.vdp.address))
  port_gave VdpStatusRead = (omega arith, with_vdp _ (vdp_left None tt))
  port_gave GromDataRead = (is.grom.fetched, with_grom _ (grom_ahead m.grom.counter is.grom.counter))
  port_gave GromAddressRead = (
    high-fits m.grom.counter is.grom.counter,
    with_grom _ (record { image = is.grom.image; counter = join-fits _ _ (low-fits m.grom.counter) (low-fits m.grom.counter); fetched = is.grom.fetched }),
  )
  port_gave _ = (omega arith, is)

  byte_gave : (r : Region) → ByteFits (byte_read_in r m)
  byte_gave (Rom at) = (is.rom.fits at, is)
  byte_gave (LowExpansion at) = (is.low_expansion.fits at, is)
  byte_gave (HighExpansion at) = (is.high_expansion.fits at, is)
  byte_gave (Scratchpad at) = (is.scratchpad.fits at, is)
  byte_gave (PortOf port) = port_gave port
  byte_gave Unmapped = (omega arith, is)

  pair_took : (kind : PairKind) (f b : ℕ) → f < 256 → IsMemory (record m { vdp = pair_done kind m.vdp f b })
  pair_took ReadSetup f b lt = with_vdp _ (ahead _)
  pair_took WriteSetup f b lt =
      with_vdp _ (record { memory = is.vdp.memory; registers = is.vdp.registers; address = omega arith; fetched = is.vdp.fetched; held = tt })
  pair_took RegisterWrite f b lt =
      with_vdp _ (record {
        memory = is.vdp.memory;
        registers = set_keeps 8 m.vdp.registers (b % 8) f is.vdp.registers lt;
        address = is.vdp.address;
        fetched = is.vdp.fetched;
        held = tt;
      })
  pair_took NoOperation f b lt = with_vdp _ (vdp_left None tt)

  address_took : (held : Option ℕ) (b : ℕ) → IfSome held (λ byte. byte < 256) → b < 256 → IsMemory (record m { vdp = address_byte_taken held m.vdp b })
  address_took None b k lt = with_vdp _ (vdp_left (Some b) lt)
  address_took (Some f) b k lt = pair_took (pair_kind b) f b k

  half_took : (half : Bool) (b : ℕ) → b < 256 → IsMemory (record m { grom = grom_half_taken half m.grom b })
  half_took true b lt = with_grom _ (grom_ahead _ (join-fits _ _ (high-fits m.grom.counter is.grom.counter) lt))
  half_took false b lt =
      with_grom _ (record { image = is.grom.image; counter = join-fits _ _ lt (low-fits m.grom.counter); fetched = is.grom.fetched })

  port_took : (p : Port) (b : ℕ) → b < 256 → IsMemory (port_written p m b)
  port_took VdpDataWrite b lt =
      with_vdp _ (record {
        memory = set_keeps 16384 m.vdp.memory m.vdp.address b is.vdp.memory lt;
        registers = is.vdp.registers;
        address = omega arith;
        fetched = lt;
        held = tt;
      })
  port_took VdpAddressWrite b lt = address_took m.vdp.held b is.vdp.held lt
  port_took GromAddressWrite b lt = half_took m.grom.half_written b lt
  port_took _ b lt = is

  byte_took : (r : Region) (b : ℕ) → b < 256 → IsMemory (byte_written_in r m b)
  byte_took (LowExpansion at) b lt = with_low _ (set_keeps 8192 m.low_expansion at b is.low_expansion lt)
  byte_took (HighExpansion at) b lt = with_high _ (set_keeps 24576 m.high_expansion at b is.high_expansion lt)
  byte_took (Scratchpad at) b lt = with_pad _ (set_keeps 256 m.scratchpad at b is.scratchpad lt)
  byte_took (PortOf port) b lt = port_took port b lt
  byte_took _ b lt = is

-- what the machine of a run holds fits
abbrev pub MachineFits : MachineState → Type 0
MachineFits x = Fit IsMemory x.cpu

pub runs_fit : (x : MachineState) → IsMachine x → (made : ℕ) → MachineFits (after_steps made x)
runs_fit x is zero = record { memory = is.memory; pc = is.pc; wp = is.wp; status = is.status }
runs_fit x is (suc made) =
    step_fits Memory console IsMemory
    (λ m a h.
    subst (Holds (λ (w : ℕ). w < 65536)) (sym (read_is_by_region m a)) (read m h (region (even a)) (even a)))
    (λ m a w lt h.
    subst (Holds IsMemory) (sym (write_is_by_region m a w)) (written m h (region (even a)) (even a) w lt))
    (λ m a h. holds _ (byte_gave m h (region a)))
    (λ m a b lt h. holds _ (byte_took m h (region a) b lt))
    (after_steps made x).cpu (runs_fit x is made)
