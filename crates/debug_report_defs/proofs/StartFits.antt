-- What linked memory is loaded into is a machine.
use Rattle.std.proofs.Common.{◌≡◌, ℕ, ◌<◌, List, [], ◌∷◌, Option, Ok, sym, subst, arith, rules}
use Rattle.std.specs.Prelude.{IfSome}
use Rattle.std.specs.FinMap.{entries}
use Rattle.tms_defs.specs.Words.{high, low}
use Rattle.tms_defs.specs.Bytes.{HoldsBytes, HoldsZeros}
use Rattle.console_defs.specs.Vdp.{VdpState, IsVdp, IsNewVdp}
use Rattle.console_defs.specs.Grom.{IsGrom, new_grom}
use Rattle.console_defs.specs.Memory.{Memory, IsMemory, IsNewMemory, Region, Rom, LowExpansion, HighExpansion, region}
use Rattle.console_defs.specs.Memory.{word_placed_in, cell_set}
use Rattle.console_defs.specs.Machine.{MachineState, IsMachine}
use Rattle.console_defs.proofs.RunLaws.{new_machine_is}
use Rattle.link_defs.specs.LinkedMemory.{LinkedMemory}
use Rattle.load_defs.specs.Loaded.{with_words, with_first_word}
use Rattle.gpl_step_defs.proofs.Kept.{set_keeps}
use Rattle.report_defs.specs.Exec.{IsStart}
use Rattle.report_defs.specs.ObjectInput.{linked_input}
use Rattle.debug_report_defs.proofs.LinkedFits.{AreWords, linked_fits}
use Rattle.debug_report_defs.proofs.ConsoleFits.{word_set, with_pad, with_low, with_high}

zeros_fit : (count : ℕ) (bytes : List ℕ) → HoldsZeros count bytes → HoldsBytes count bytes
zeros_fit count bytes h = record { size = h.size; fits = λ at. let is = h.zeros at in omega arith }

new_vdp_is : (v : VdpState) → IsNewVdp v → IsVdp v
new_vdp_is v h =
    record {
      memory = zeros_fit 16384 v.memory h.memory;
      registers = zeros_fit 8 v.registers h.registers;
      address = let is = h.address in omega arith;
      fetched = let is = h.fetched in omega arith;
      held = subst (λ (held : Option ℕ). IfSome held (λ byte. byte < 256)) (sym h.held) tt;
    }

new_grom_is : (image : List ℕ) → HoldsZeros 65536 image → IsGrom (new_grom image)
new_grom_is image h = record { image = zeros_fit 65536 image h; counter = omega arith; fetched = omega arith }

new_memory_is : (m : Memory) (v : VdpState) (image : List ℕ) → IsNewMemory m v (new_grom image) → IsNewVdp v → HoldsZeros 65536 image → IsMemory m
new_memory_is m v image h new zeros =
    record {
      scratchpad = zeros_fit 256 m.scratchpad h.scratchpad;
      low_expansion = zeros_fit 8192 m.low_expansion h.low_expansion;
      high_expansion = zeros_fit 24576 m.high_expansion h.high_expansion;
      rom = zeros_fit 8192 m.rom h.rom;
      vdp = subst IsVdp (sym h.vdp_given) (new_vdp_is v new);
      grom = subst IsGrom (sym h.grom_given) (new_grom_is image zeros);
    }

placed_fits : (m : Memory) → IsMemory m → (r : Region) (w : ℕ) → w < 65536 → IsMemory (word_placed_in r m w)
placed_fits m is (Rom at) w lt = let rom = word_set 8192 m.rom at w lt is.rom in search rules
placed_fits m is (LowExpansion at) w lt = with_low m is _ (word_set 8192 m.low_expansion at w lt is.low_expansion)
placed_fits m is (HighExpansion at) w lt = with_high m is _ (word_set 24576 m.high_expansion at w lt is.high_expansion)
placed_fits m is _ w lt = is

words_fit : (words : List (ℕ × ℕ)) (m : Memory) → IsMemory m → AreWords words → IsMemory (with_words words m)
words_fit [] m is fits = is
words_fit (word ∷ words) m is fits = words_fit words _ (placed_fits m is (region word.0) word.1 fits.0) fits.1

first_fits : (m : Memory) → IsMemory m → IsMemory (with_first_word 0 m)
first_fits m is =
    let once = with_pad m is _ (set_keeps 256 m.scratchpad 0xE0 (high 0) is.scratchpad (omega arith)) in
    with_pad (cell_set m 0xE0 (high 0)) once _ (set_keeps 256 _ 0xE1 (low 0) once.scratchpad (omega arith))

pub starts_are_machines : (input : List ℕ) (linked : LinkedMemory) (x : MachineState) → linked_input input ≡ Ok linked → IsStart linked x → IsMachine x
starts_are_machines input linked x is start =
    let fit = linked_fits input linked is in
    let loaded = start.machine.memory in
    let empty = new_memory_is loaded.empty loaded.vdp start.image loaded.new_memory loaded.new_vdp start.zeros in
    let memory = subst IsMemory (sym loaded.loaded) (words_fit (entries linked.words) (with_first_word 0 loaded.empty)
    (first_fits loaded.empty empty) fit.words) in
    subst IsMachine (sym start.machine.machine) (new_machine_is x.cpu.memory 0x83E0 linked.entry memory (omega arith) fit.entry)
