-- What the change of a range says.
use Rattle.std.specs.Prelude.{◌≡◌, ◌≢◌, ◌<◌, ◌≤◌, ℕ, ◌+◌, ◌-◌, slice_index, Option, Some, None, is_some}
use Rattle.gpl_defs.specs.declared.instruction.Space.{Space}
use Rattle.gpl_step_defs.specs.State.{GplState, IsState}
use Rattle.watch_defs.specs.declared.item.Item.TheVariants.{Range}
use Rattle.watch_defs.specs.Items as items

-- The byte that a program sees at an address.
abbrev pub byte_at : Space → ℕ → GplState → ℕ
byte_at space address s = slice_index (items.bytes_in space s) (address - items.base_of space)

-- From one address on, up to another, two states have the same bytes.
abbrev pub SameBytes : Space → ℕ → ℕ → GplState → GplState → Type 0
SameBytes space from end before next =
    (address : ℕ) → from ≤ address → address < end → byte_at space address before ≡ byte_at space address next

-- An address is the lowest of a range at which two states differ, and the byte is the one of the second there.
pub record IsLowestChange (space : Space) (at len : ℕ) (before next : GplState) (address byte : ℕ) : Type 0 where
  pub begins : at ≤ address
  pub ends : address < at + len
  pub shown : byte ≡ byte_at space address next
  pub differs : byte_at space address before ≢ byte_at space address next
  pub lowest : SameBytes space at address before next

-- What the change of a range says; where there is none, no byte of it differs.
abbrev pub IsChange : Space → ℕ → ℕ → GplState → GplState → Option (ℕ × ℕ) → Type 0
IsChange space at len before next None = SameBytes space at (at + len) before next
IsChange space at len before next (Some change) = IsLowestChange space at len before next change.0 change.1

-- the law, which is proved: a range holds exactly where it has a change, and its change says so
pub record HoldsByItsBytes (space : Space) (at len : ℕ) (before next : GplState) : Type 0 where
  pub change : IsChange space at len before next (items.change (Range space at len) before next)
  pub holds : items.holds (Range space at len) before next ≡ is_some (items.change (Range space at len) before next)

abbrev pub RangesHoldByTheirBytes : Type 0
RangesHoldByTheirBytes =
    (space : Space) (at len : ℕ) (before next : GplState) → items.IsRange space at len → IsState before → IsState next
    → HoldsByItsBytes space at len before next
