-- The parts of MOVE up to its copy, for all states that may be there.
use Rattle.std.specs.Prelude.{ℕ, ◌%◌, ◌==◌, ◌≡◌, Err, Ok, Result, Some}
use Rattle.sim_rows.specs.Prelude.{after_code, Changes, code_byte, from_at, GplState, GSTOP, length_at, MachineState}
use Rattle.sim_rows.specs.Prelude.{Move, move_found, MOVEB, MoveKind, MoveLength, MoveSource, MoveTarget, Moving}
use Rattle.sim_rows.specs.Prelude.{operation_in, ReachesWithin, Reason, StoppedBy, target_at, unchanged, View}
use Rattle.sim_move.specs.Copying.{Copying}
use Rattle.sim_rows.specs.sim_view.Bounds.{bound_to_copy}

-- What the bytes after the code byte say, each part with the address after it.
abbrev pub length_read : GplState → MoveLength × ℕ
length_read s = length_at (code_byte s % 2 == 1) s.image (after_code s)

abbrev pub target_read : MoveKind → GplState → MoveTarget × ℕ
target_read kind s = target_at kind s.image (length_read s).1

abbrev pub source_read : MoveKind → GplState → MoveSource × ℕ
source_read kind s = from_at kind s.image (target_read kind s).1

-- the changes of MOVE before the first byte: the next instruction is the one after
abbrev pub begun : MoveKind → GplState → Changes
begun kind s = unchanged (record s { pc = (source_read kind s).1 })

-- The machine arrives at an address with what a definition gives, or stops by its reason.
abbrev pub Arrives : {X : Type 0} → ℕ → GplState → MachineState → MachineState → ℕ → ℕ → ℕ
    → (X → View → Type 0) → Result X Reason → Type 0
Arrives most s x y before after to Shows (Ok found) = ReachesWithin most x y before after to (Shows found)
Arrives most s x y before after to Shows (Err reason) = ReachesWithin most x y before after GSTOP (StoppedBy s reason)

-- What the parts that were read find.
abbrev pub found_in : MoveKind → GplState → Result Moving Reason
found_in kind s = move_found (length_read s).0 (target_read kind s).0 (source_read kind s).0 s

-- At MOVEB the copy is before its first byte.
abbrev pub BeforeCopy : MoveKind → GplState → Moving → View → Type 0
BeforeCopy kind s found w = Copying (begun kind s) found.from found.to found.bytes w

pub record FindsCopy (s : GplState) (x y : MachineState) (before after : ℕ) : Type 0 where
  pub by : (kind : MoveKind) → operation_in s ≡ Some (Move kind)
      → Arrives bound_to_copy s x y before after MOVEB (BeforeCopy kind s) (found_in kind s)
