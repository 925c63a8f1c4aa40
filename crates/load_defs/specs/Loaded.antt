-- A machine that linked memory is loaded into.
use Rattle.std.specs.Prelude.{◌≡◌, ℕ, List, [], ◌∷◌}
use Rattle.std.specs.FinMap.{entries}
use Rattle.tms_defs.specs.Words.{high, low}
use Rattle.console_defs.specs.Vdp.{VdpState, IsNewVdp}
use Rattle.console_defs.specs.Grom.{new_grom}
use Rattle.console_defs.specs.Memory.{Memory, IsNewMemory, word_placed, cell_set}
use Rattle.console_defs.specs.Machine.{MachineState, new_machine}
use Rattle.link_defs.specs.LinkedMemory.{LinkedMemory}

-- words, each placed at its address
abbrev pub with_words : List (ℕ × ℕ) → Memory → Memory
with_words [] memory = memory
with_words (word ∷ words) memory = with_words words (word_placed memory word.0 word.1)

-- Profile: one word is at >83E0, where no linked word is.
abbrev pub with_first_word : ℕ → Memory → Memory
with_first_word word memory = cell_set (cell_set memory 0xE0 (high word)) 0xE1 (low word)

-- Profile: the words of linked memory are at their addresses, the word `first` at >83E0, the GROMs hold an image, and
-- all else is as in a new console.
pub record IsLoaded (linked : LinkedMemory) (image : List ℕ) (first : ℕ) (memory : Memory) : Type 0 where
  pub vdp : VdpState
  pub empty : Memory
  pub new_vdp : IsNewVdp vdp
  pub new_memory : IsNewMemory empty vdp (new_grom image)
  pub loaded : memory ≡ with_words (entries linked.words) (with_first_word first empty)

-- a new machine over such a memory, with a workspace pointer and a program counter
pub record IsLoadedMachine (linked : LinkedMemory) (image : List ℕ) (first wp pc : ℕ) (x : MachineState) : Type 0 where
  pub memory : IsLoaded linked image first x.cpu.memory
  pub machine : x ≡ new_machine x.cpu.memory wp pc
