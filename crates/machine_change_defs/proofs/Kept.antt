-- What every instruction leaves: how many bytes each part of the memory has, the ROM, and the bytes of the GROMs.
use Rattle.std.proofs.Common.{◌≡◌, ℕ, zero, suc, ◌+◌, Bool, true, false, List, length, Option, Some, None, refl, ◌∙◌}
use Rattle.std.proofs.Common.{rules, sym, subst}
use Rattle.console_defs.proofs.MemoryLaws.{word_written_in, write_is_by_region}
use Rattle.std.proofs.Math.ListN.{set}
use Rattle.std.proofs.lemmas.List.{length-set}
use Rattle.tms_defs.specs.Words.{even, high, low}
use Rattle.tms_defs.specs.Instructions.{instr_at}
use Rattle.console_defs.specs.Vdp.{VdpState, PairKind, RegisterWrite, pair_kind, pair_done, address_byte_taken}
use Rattle.console_defs.specs.Grom.{GromState, grom_half_taken}
use Rattle.console_defs.specs.Memory.{Memory, console, Port, VdpDataRead, VdpStatusRead, VdpDataWrite, VdpAddressWrite, GromDataRead, GromAddressRead}
use Rattle.console_defs.specs.Memory.{GromAddressWrite, Region, LowExpansion, HighExpansion, Scratchpad, PortOf, region}
use Rattle.console_defs.specs.Memory.{byte_read_in, byte_written_in, port_read, port_written}
use Rattle.console_defs.specs.Machine.{MachineState, machine_step}
use Rattle.console_defs.specs.Runs.{after_steps}
use Rattle.machine_change_defs.specs.Laws.{Keeps}
use Rattle.machine_change_defs.proofs.Keeping.{Holds, holds, step_keeps, all_allowed}

same : (first : Memory) → Keeps first first
same first = search rules

module _ (first m : Memory) (k : Keeps first m) where
  with_vdp : (v : VdpState) → length v.memory ≡ length m.vdp.memory → length v.registers ≡ length m.vdp.registers → Keeps first (record m { vdp = v })
  with_vdp v memory registers =
      let video : length v.memory ≡ length first.vdp.memory = memory ∙ k.video in
      let others : length v.registers ≡ length first.vdp.registers = registers ∙ k.registers in
      search rules

  with_grom : (g : GromState) → g.image ≡ m.grom.image → Keeps first (record m { grom = g })
  with_grom g image = let same : g.image ≡ first.grom.image = image ∙ k.image in search rules

  with_pad : (bytes : List ℕ) → length bytes ≡ length m.scratchpad → Keeps first (record m { scratchpad = bytes })
  with_pad bytes size = let same : length bytes ≡ length first.scratchpad = size ∙ k.scratchpad in search rules

  with_low : (bytes : List ℕ) → length bytes ≡ length m.low_expansion → Keeps first (record m { low_expansion = bytes })
  with_low bytes size = let same : length bytes ≡ length first.low_expansion = size ∙ k.low_expansion in search rules

  with_high : (bytes : List ℕ) → length bytes ≡ length m.high_expansion → Keeps first (record m { high_expansion = bytes })
  with_high bytes size = let same : length bytes ≡ length first.high_expansion = size ∙ k.high_expansion in search rules

  set_twice : (bytes : List ℕ) (i j x y : ℕ) → length (set (set bytes i x) j y) ≡ length bytes
  set_twice bytes i j x y = length-set (set bytes i x) j y ∙ length-set bytes i x

  written : (r : Region) (a w : ℕ) → Holds (Keeps first) (word_written_in r m a w)
  written (LowExpansion at) a w = holds _ (with_low _ (set_twice m.low_expansion at (at + 1) (high w) (low w)))
  written (HighExpansion at) a w = holds _ (with_high _ (set_twice m.high_expansion at (at + 1) (high w) (low w)))
  written (Scratchpad at) a w = holds _ (with_pad _ (set_twice m.scratchpad at (at + 1) (high w) (low w)))
  written (PortOf port) a w = record { by = λ n e. absurd (cc) }
  written _ a w = holds m k

  port_gave : (p : Port) → Keeps first (port_read p m).1
  port_gave VdpDataRead = with_vdp _ refl refl
  port_gave VdpStatusRead = with_vdp _ refl refl
  port_gave GromDataRead = with_grom _ refl
  port_gave GromAddressRead = with_grom _ refl
  port_gave _ = k

  byte_gave : (r : Region) → Keeps first (byte_read_in r m).1
  byte_gave (PortOf port) = port_gave port
  byte_gave _ = k

  pair_took : (kind : PairKind) (first_byte b : ℕ) → Keeps first (record m { vdp = pair_done kind m.vdp first_byte b })
  pair_took RegisterWrite f b = with_vdp _ refl (length-set m.vdp.registers _ f)
  pair_took _ f b = with_vdp _ refl refl

  address_took : (held : Option ℕ) (b : ℕ) → Keeps first (record m { vdp = address_byte_taken held m.vdp b })
  address_took None b = with_vdp _ refl refl
  address_took (Some f) b = pair_took (pair_kind b) f b

  half_took : (half : Bool) (b : ℕ) → Keeps first (record m { grom = grom_half_taken half m.grom b })
  half_took true b = with_grom _ refl
  half_took false b = with_grom _ refl

  port_took : (p : Port) (b : ℕ) → Keeps first (port_written p m b)
  port_took VdpDataWrite b = with_vdp _ (length-set m.vdp.memory _ b) refl
  port_took VdpAddressWrite b = address_took m.vdp.held b
  port_took GromAddressWrite b = half_took m.grom.half_written b
  port_took _ b = k

  byte_took : (r : Region) (b : ℕ) → Keeps first (byte_written_in r m b)
  byte_took (LowExpansion at) b = with_low _ (length-set m.low_expansion at b)
  byte_took (HighExpansion at) b = with_high _ (length-set m.high_expansion at b)
  byte_took (Scratchpad at) b = with_pad _ (length-set m.scratchpad at b)
  byte_took (PortOf port) b = port_took port b
  byte_took _ b = k

-- a step keeps them
pub step_leaves : (first : Memory) (x : MachineState) → Keeps first x.cpu.memory → Keeps first (machine_step x).1.cpu.memory
step_leaves first x k =
    step_keeps Memory console (Keeps first) true
    (λ m a w h. subst (Holds (Keeps first)) (sym (write_is_by_region m a w)) (written first m h (region (even a)) (even a) w))
    (λ any m a h. holds _ (byte_gave first m h (region a)))
    (λ any m a b h. holds _ (byte_took first m h (region a) b))
    x.cpu k (λ word done. all_allowed (instr_at word))

pub steps_leave : (x : MachineState) (made : ℕ) → Keeps x.cpu.memory (after_steps made x).cpu.memory
steps_leave x zero = same x.cpu.memory
steps_leave x (suc made) = step_leaves x.cpu.memory (after_steps made x) (steps_leave x made)
