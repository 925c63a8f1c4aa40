-- The machine on which the interpreter begins.
use Rattle.std.specs.Prelude.{◌≡◌, ◌≤◌, ◌<◌, ℕ, ◌+◌, ◌*◌, ◌%◌, List, length, slice_index}
use Rattle.tms_defs.specs.Bytes.{HoldsZeros, word_in}
use Rattle.tms_defs.specs.Status.{status_at}
use Rattle.console_defs.specs.Vdp.{IsNewVdp}
use Rattle.console_defs.specs.Grom.{new_grom}
use Rattle.console_defs.specs.Machine.{MachineState}
use Rattle.native_interp.specs.declared.addresses.TheConstants.{GBOOT, WORKSPACE}
use Rattle.native_interp.specs.declared.words.TheConstants.{INTERP}
use Rattle.interp_defs.specs.Interpreter.{HoldsInterpreter}

-- where register 0 lies in the scratchpad
abbrev pub entry_cell : ℕ
entry_cell = WORKSPACE % 256

-- The scratchpad holds one word, at the place of register 0, and else zeros.
pub record HoldsEntry (entry : ℕ) (scratchpad : List ℕ) : Type 0 where
  pub size : length scratchpad ≡ 256
  pub word : word_in scratchpad entry_cell ≡ entry
  pub before : (at : ℕ) → at < entry_cell → slice_index scratchpad at ≡ 0
  pub beyond : (at : ℕ) → entry_cell + 2 ≤ at → slice_index scratchpad at ≡ 0

-- Low expansion memory holds the interpreter, and after it zeros.
pub record HoldsWords (bytes : List ℕ) : Type 0 where
  pub size : length bytes ≡ 8192
  pub words : HoldsInterpreter bytes
  pub beyond : (at : ℕ) → 2 * length INTERP ≤ at → slice_index bytes at ≡ 0

-- A machine with the interpreter, an image in the GROMs and the entry of a GPL program in register 0;
-- all else is as in a new machine.
pub record IsBoot (image : List ℕ) (entry : ℕ) (x : MachineState) : Type 0 where
  pub scratchpad : HoldsEntry entry x.cpu.memory.scratchpad
  pub low_expansion : HoldsWords x.cpu.memory.low_expansion
  pub high_expansion : HoldsZeros 24576 x.cpu.memory.high_expansion
  pub rom : HoldsZeros 8192 x.cpu.memory.rom
  pub vdp : IsNewVdp x.cpu.memory.vdp
  pub grom : x.cpu.memory.grom ≡ new_grom image
  pub pc : x.cpu.pc ≡ GBOOT
  pub wp : x.cpu.wp ≡ WORKSPACE
  pub status : x.cpu.status ≡ status_at 0
  pub count : x.count ≡ 0
