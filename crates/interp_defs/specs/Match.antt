-- The match of a machine that runs the interpreter with a state of GPL.
use Rattle.std.specs.Prelude.{◌≡◌, IsTrue, take, slice_index}
use Rattle.console_defs.specs.Vdp.{is_vdp_idle}
use Rattle.base_defs.specs.Addresses.{previous_in_grom}
use Rattle.console_defs.specs.Grom.{GromState, is_grom_idle}
use Rattle.console_defs.specs.Memory.{Memory}
use Rattle.console_defs.specs.Machine.{MachineState}
use Rattle.native_interp.specs.declared.addresses.TheConstants.{GSTEP, GSTOP, GEXIT, WORKSPACE}
use Rattle.gpl_step_defs.specs.declared.cells.TheConstants.{VISIBLE_CELLS}
use Rattle.gpl_step_defs.specs.declared.reason.Reason.{Reason}
use Rattle.gpl_step_defs.specs.declared.reason.Reason.TheVariants.{Exit}
use Rattle.gpl_step_defs.specs.Reasons.{number_of}
use Rattle.gpl_step_defs.specs.State.{GplState}
use Rattle.interp_defs.specs.Interpreter.{HoldsInterpreter, HoldsRegister, address_register}

-- The state of GPL that a memory shows. The counter of the GROMs stands one past the byte to come.
abbrev pub shown_by : Memory → GplState
shown_by memory =
    record {
      cells = take VISIBLE_CELLS memory.scratchpad;
      vdp = memory.vdp.memory;
      registers = memory.vdp.registers;
      pc = previous_in_grom memory.grom.counter;
      image = memory.grom.image;
    }

-- No half of an address is written at either port.
pub record PortsAreIdle (memory : Memory) : Type 0 where
  pub vdp : IsTrue (is_vdp_idle memory.vdp)
  pub grom : IsTrue (is_grom_idle memory.grom)

-- The byte that the GROMs give next is the image's byte before their counter.
abbrev pub IsFetched : GromState → Type 0
IsFetched grom = grom.fetched ≡ slice_index grom.image (previous_in_grom grom.counter)

-- A machine at the beginning of a step. Status register, video address, other registers and cells and all other memory
-- are free.
pub record IsMatching (x : MachineState) : Type 0 where
  pub pc : x.cpu.pc ≡ GSTEP
  pub wp : x.cpu.wp ≡ WORKSPACE
  pub words : HoldsInterpreter x.cpu.memory.low_expansion
  pub idle : PortsAreIdle x.cpu.memory
  pub fetched : IsFetched x.cpu.memory.grom

-- It matches the state that it shows.
pub record Matches (s : GplState) (x : MachineState) : Type 0 where
  pub matching : IsMatching x
  pub shows : shown_by x.cpu.memory ≡ s

-- Profile: where a program leaves by EXIT the machine is at GEXIT; where it stops the machine is at GSTOP, and register
-- 0 has the number of the reason.
abbrev pub IsStoppedBy : Reason → MachineState → Type 0
IsStoppedBy Exit x = x.cpu.pc ≡ GEXIT
IsStoppedBy reason x = (x.cpu.pc ≡ GSTOP) × HoldsRegister x.cpu.memory 0 (number_of reason)

-- A machine at the end of a program: it still shows what a GPL program can see of the state, and register 1 has the
-- address of the instruction that ended it.
pub record IsHalted (s : GplState) (reason : Reason) (x : MachineState) : Type 0 where
  pub cells : (shown_by x.cpu.memory).cells ≡ s.cells
  pub vdp : x.cpu.memory.vdp.memory ≡ s.vdp
  pub registers : x.cpu.memory.vdp.registers ≡ s.registers
  pub image : x.cpu.memory.grom.image ≡ s.image
  pub wp : x.cpu.wp ≡ WORKSPACE
  pub address : HoldsRegister x.cpu.memory address_register s.pc
  pub is_at : IsStoppedBy reason x
