-- The interpreter's linked memory is loaded into the machine on which the interpreter begins.
use Rattle.std.proofs.Common.{◌≡◌, ◌<◌, ◌≤◌, ℕ, ◌*◌, inr, List, length, slice_index, refl, sym, ap, ◌∙◌, subst, arith}
use Rattle.std.specs.FinMap.{entries}
use Rattle.tms_defs.specs.Bytes.{HoldsZeros, word_in, with_word_in}
use Rattle.console_defs.specs.Vdp.{VdpState, IsNewVdp}
use Rattle.console_defs.specs.Grom.{new_grom}
use Rattle.console_defs.specs.Memory.{Memory, IsNewMemory}
use Rattle.console_defs.specs.Machine.{MachineState}
use Rattle.link_defs.specs.LinkedMemory.{LinkedMemory}
use Rattle.load_defs.specs.Loaded.{IsLoaded, IsLoadedMachine, with_words, with_first_word}
use Rattle.native_interp.specs.declared.addresses.TheConstants.{GBOOT, WORKSPACE}
use Rattle.native_interp.specs.declared.words.TheConstants.{INTERP}
use Rattle.interp_build_defs.specs.Building.{HasShipped}
use Rattle.interp_defs.specs.Boot.{HoldsEntry, HoldsWords, IsBoot, entry_cell}
use Rattle.interp_build_defs.specs.Booting.{LoadedInterpretersBoot}
use Rattle.interp_build_defs.proofs.Bytes.{length_with, other_byte, same_word}
use Rattle.interp_build_defs.proofs.Shipped.{all_belong, all_occur, has_words}
use Rattle.interp_build_defs.proofs.PlacedWords.{Placed, all_placed}

-- A list of zeros with a word at the place of register 0.
holds_entry : (entry : ℕ) (bytes : List ℕ) → HoldsZeros 256 bytes → HoldsEntry entry (with_word_in bytes entry_cell entry)
holds_entry entry bytes zeros = record {
  size = length_with bytes entry_cell entry ∙ zeros.size;
  word = same_word bytes entry_cell entry (omega (arith, zeros.size));
  before = λ at below. other_byte bytes entry_cell entry at (omega arith) (omega arith) ∙ zeros.zeros at;
  beyond = λ at past. other_byte bytes entry_cell entry at (omega arith) (omega arith) ∙ zeros.zeros at;
}

-- Low expansion memory holds words from its beginning on, and after them zeros.
record Holds (shipped : List ℕ) (bytes : List ℕ) : Type 0 where
  size : length bytes ≡ 8192
  words : (number : ℕ) → number < length shipped → word_in bytes (2 * number) ≡ slice_index shipped number
  beyond : (at : ℕ) → 2 * length shipped ≤ at → slice_index bytes at ≡ 0

-- A memory that words that are shipped are loaded into.
record WordsAreLoaded (shipped image : List ℕ) (entry : ℕ) (memory : Memory) : Type 0 where
  scratchpad : HoldsEntry entry memory.scratchpad
  low_expansion : Holds shipped memory.low_expansion
  high_expansion : HoldsZeros 24576 memory.high_expansion
  rom : HoldsZeros 8192 memory.rom
  vdp : IsNewVdp memory.vdp
  grom : memory.grom ≡ new_grom image

-- what is placed in a new memory with the entry
placed_words : (shipped image : List ℕ) (linked : LinkedMemory) (entry : ℕ) (vdp : VdpState) (empty after : Memory)
    → length shipped ≤ 4096 → HasShipped shipped linked → IsNewVdp vdp → IsNewMemory empty vdp (new_grom image)
    → Placed shipped (entries linked.words) (with_first_word entry empty) after → WordsAreLoaded shipped image entry after
placed_words shipped image linked entry vdp empty after few has new_vdp fresh placed = record {
  scratchpad = subst (HoldsEntry entry) (sym placed.scratchpad) (holds_entry entry empty.scratchpad fresh.scratchpad);
  low_expansion = record {
    size = placed.size ∙ fresh.low_expansion.size;
    words = λ number inside. placed.words number inside (inr (all_occur shipped linked has number inside));
    beyond = λ at past. placed.beyond at past ∙ fresh.low_expansion.zeros at;
  };
  high_expansion = subst (HoldsZeros 24576) (sym placed.high_expansion) fresh.high_expansion;
  rom = subst (HoldsZeros 8192) (sym placed.rom) fresh.rom;
  vdp = subst IsNewVdp (sym (placed.vdp ∙ fresh.vdp_given)) new_vdp;
  grom = placed.grom ∙ fresh.grom_given;
}

-- what linked memory is loaded into
loaded_words : (shipped image : List ℕ) (linked : LinkedMemory) (entry : ℕ) (memory : Memory) → length shipped ≤ 4096
    → HasShipped shipped linked → IsLoaded linked image entry memory → WordsAreLoaded shipped image entry memory
loaded_words shipped image linked entry memory few has loaded =
    let fresh = loaded.new_memory in
    subst (WordsAreLoaded shipped image entry) (sym loaded.loaded)
    (placed_words shipped image linked entry loaded.vdp loaded.empty (with_words (entries linked.words) (with_first_word entry loaded.empty))
    few has loaded.new_vdp fresh
    (all_placed shipped (entries linked.words) (with_first_word entry loaded.empty) few fresh.low_expansion.size
    (all_belong shipped linked has)))

-- the words alone
opaque_words : (shipped : List ℕ) × (shipped ≡ INTERP) × (length shipped ≤ 4096)
opaque_words = (INTERP, refl, omega arith)

-- the words are the interpreter's
holds_words : (shipped bytes : List ℕ) → shipped ≡ INTERP → Holds shipped bytes → HoldsWords bytes
holds_words shipped bytes same holds =
    let these : Holds INTERP bytes = subst (λ (list : List ℕ). Holds list bytes) same holds in
    record { size = these.size; words = these.words; beyond = these.beyond }

-- what the interpreter's words are loaded into
boots : (shipped image : List ℕ) (linked : LinkedMemory) (entry : ℕ) (x : MachineState) → HasShipped shipped linked → length shipped ≤ 4096
    → shipped ≡ INTERP → IsLoadedMachine linked image entry WORKSPACE GBOOT x → IsBoot image entry x
boots shipped image linked entry x has few same loaded =
    let is_loaded = loaded_words shipped image linked entry x.cpu.memory few has loaded.memory in
    record {
      scratchpad = is_loaded.scratchpad;
      low_expansion = holds_words shipped x.cpu.memory.low_expansion same is_loaded.low_expansion;
      high_expansion = is_loaded.high_expansion;
      rom = is_loaded.rom;
      vdp = is_loaded.vdp;
      grom = is_loaded.grom;
      pc = ap (λ (y : MachineState). y.cpu.pc) loaded.machine;
      wp = ap (λ (y : MachineState). y.cpu.wp) loaded.machine;
      status = ap (λ (y : MachineState). y.cpu.status) loaded.machine;
      count = ap (λ (y : MachineState). y.count) loaded.machine;
    }

pub interpreters_boot : LoadedInterpretersBoot
interpreters_boot memory image entry x is loaded =
    boots opaque_words.0 image memory entry x
    (has_words opaque_words.0 memory opaque_words.1 is) opaque_words.2 opaque_words.1 loaded
