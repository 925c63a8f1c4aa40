-- The state that GPL programs see and change.
use Rattle.std.specs.Prelude.{ℕ, ◌<◌, List, replicate, slice_set}
use Rattle.tms_defs.specs.Bytes.{HoldsBytes}
use Rattle.gpl_step_defs.specs.declared.cells.TheConstants.{VISIBLE_CELLS, VALUE_STACK, RETURN_STACK}
use Rattle.gpl_step_defs.specs.declared.limits.TheConstants.{VIDEO_REGISTERS}

-- The visible cells from >8300 on, the video processor's memory and registers, the address of the next instruction, and
-- the bytes of GROM, which nothing changes. GPL Programmer's Guide, on the memory that GPL addresses.
-- Profile: the cells from >8300 to >83C1 are visible.
pub record GplState : Type 0 where
  pub cells : List ℕ
  pub vdp : List ℕ
  pub registers : List ℕ
  pub pc : ℕ
  pub image : List ℕ

-- what is true of every state
pub record IsState (s : GplState) : Type 0 where
  pub cells : HoldsBytes VISIBLE_CELLS s.cells
  pub vdp : HoldsBytes 16384 s.vdp
  pub registers : HoldsBytes VIDEO_REGISTERS s.registers
  pub pc : s.pc < 65536
  pub image : HoldsBytes 65536 s.image

unfoldable pub zeros : ℕ → List ℕ
zeros count = replicate count 0

-- Where a program begins at its entry.
-- Profile: all is 0 but the two stack pointers.
abbrev pub start : List ℕ → ℕ → GplState
start image entry =
    record {
      cells = slice_set (slice_set (zeros VISIBLE_CELLS) VALUE_STACK 0x9F) RETURN_STACK 0x7E;
      vdp = zeros 16384;
      registers = zeros VIDEO_REGISTERS;
      pc = entry;
      image = image;
    }
