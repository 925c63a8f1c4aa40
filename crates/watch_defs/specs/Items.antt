-- What is watched of a GPL program, and when it holds.
use Rattle.std.specs.Prelude.{◌≤◌, ℕ, ◌+◌, ◌-◌, ◌==◌, List, [], length, Bool, slice_index, slice_range}
use Rattle.std.specs.Prelude.{Option, None, is_some, option_map, All, ⊤}
use Rattle.gpl_defs.specs.declared.instruction.Space.{Space}
use Rattle.gpl_defs.specs.declared.instruction.Space.TheVariants.{Cpu, Vdp}
use Rattle.base_defs.specs.Lists.{first_difference}
use Rattle.gpl_step_defs.specs.State.{GplState}
use Rattle.gpl_step_defs.specs.declared.cells.TheConstants.{VISIBLE_CELLS}
use Rattle.watch_defs.specs.declared.item.Item.{Item}
use Rattle.watch_defs.specs.declared.item.Item.TheVariants.{Range, Pc}
use Rattle.gpl_defs.specs.declared.scratchpad.TheConstants.{SCRATCHPAD}

-- The bytes of a memory that a program sees: of the processor's, the cells of the scratchpad.
abbrev pub bytes_in : Space → GplState → List ℕ
bytes_in Cpu s = s.cells
bytes_in Vdp s = s.vdp

-- the address of the first of them
abbrev pub base_of : Space → ℕ
base_of Cpu = SCRATCHPAD
base_of Vdp = 0

-- how many they are
abbrev pub size_of : Space → ℕ
size_of Cpu = VISIBLE_CELLS
size_of Vdp = 0x4000

-- Profile: a range has a byte at least and lies in what a program sees: from >8300 to >83C1 of the processor's memory,
-- or in the video memory. Any address can be watched.
pub record IsRange (space : Space) (at len : ℕ) : Type 0 where
  pub some : 1 ≤ len
  pub begins : base_of space ≤ at
  pub ends : at + len ≤ base_of space + size_of space

abbrev pub IsItem : Item → Type 0
IsItem (Range space at len) = IsRange space at len
IsItem (Pc at) = ⊤

-- Profile: one to eight items are watched.
abbrev pub most_items : ℕ
most_items = 8

pub record AreItems (items : List Item) : Type 0 where
  pub some : 1 ≤ length items
  pub few : length items ≤ most_items
  pub each : All IsItem items

-- The bytes of an item's range in a state. An address has none.
abbrev pub item_bytes : Item → GplState → List ℕ
item_bytes (Range space at len) s = slice_range (bytes_in space s) (at - base_of space) (at - base_of space + len)
item_bytes (Pc at) s = []

-- Profile: whether an item holds at a step that leads from bytes of its range to a state: a byte of the range
-- differs, or the address is the address of the next instruction.
abbrev pub holds_since : Item → List ℕ → GplState → Bool
holds_since (Range space at len) before s = is_some (first_difference before (item_bytes (Range space at len) s))
holds_since (Pc at) before s = s.pc == at

abbrev pub holds : Item → GplState → GplState → Bool
holds item before s = holds_since item (item_bytes item before) s

-- The lowest address of its range at which the bytes differ, and the byte that the state has there.
abbrev pub change_since : Item → List ℕ → GplState → Option (ℕ × ℕ)
change_since (Range space at len) before s =
    let now = item_bytes (Range space at len) s in
    option_map (λ place. (at + place, slice_index now place)) (first_difference before now)
change_since (Pc at) before s = None

abbrev pub change : Item → GplState → GplState → Option (ℕ × ℕ)
change item before s = change_since item (item_bytes item before) s
