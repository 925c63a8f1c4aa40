-- What the interpreter's author sees of a machine: sixteen registers, the cells, the words between them, and the ports.
use Rattle.std.specs.Prelude.{◌≡◌, ℕ, List, [], ◌∷◌, take, drop, slice_index}
use Rattle.tms_defs.specs.Words.{words_of_bytes}
use Rattle.console_defs.specs.Vdp.{VdpState}
use Rattle.console_defs.specs.Grom.{GromState}
use Rattle.console_defs.specs.Memory.{Memory}
use Rattle.console_defs.specs.Machine.{MachineState, IsMachine}
use Rattle.native_interp.specs.declared.addresses.TheConstants.{WORKSPACE}
use Rattle.interp_defs.specs.Interpreter.{HoldsInterpreter}

-- the registers of the interpreter's workspace
pub record Registers : Type 0 where
  pub r0 : ℕ
  pub r1 : ℕ
  pub r2 : ℕ
  pub r3 : ℕ
  pub r4 : ℕ
  pub r5 : ℕ
  pub r6 : ℕ
  pub r7 : ℕ
  pub r8 : ℕ
  pub r9 : ℕ
  pub r10 : ℕ
  pub r11 : ℕ
  pub r12 : ℕ
  pub r13 : ℕ
  pub r14 : ℕ
  pub r15 : ℕ

abbrev pub listed : Registers → List ℕ
listed r =
    r.r0 ∷ r.r1 ∷ r.r2 ∷ r.r3 ∷ r.r4 ∷ r.r5 ∷ r.r6 ∷ r.r7
    ∷ r.r8 ∷ r.r9 ∷ r.r10 ∷ r.r11 ∷ r.r12 ∷ r.r13 ∷ r.r14 ∷ r.r15 ∷ []

abbrev pub relisted : List ℕ → Registers
relisted words =
    record {
      r0 = slice_index words 0;
      r1 = slice_index words 1;
      r2 = slice_index words 2;
      r3 = slice_index words 3;
      r4 = slice_index words 4;
      r5 = slice_index words 5;
      r6 = slice_index words 6;
      r7 = slice_index words 7;
      r8 = slice_index words 8;
      r9 = slice_index words 9;
      r10 = slice_index words 10;
      r11 = slice_index words 11;
      r12 = slice_index words 12;
      r13 = slice_index words 13;
      r14 = slice_index words 14;
      r15 = slice_index words 15;
    }

-- Registers, the 194 visible cells from >8300 on, the 15 words from >83C2 on, both expansion memories, the ROM, and the
-- ports: a memory by the parts that the interpreter distinguishes. Nothing is left out.
pub record View : Type 0 where
  pub r : Registers
  pub cells : List ℕ
  pub spare : List ℕ
  pub low_memory : List ℕ
  pub high_memory : List ℕ
  pub rom : List ℕ
  pub vdp : VdpState
  pub grom : GromState

unfoldable pub view_of : Memory → View
view_of m =
    record {
      r = relisted (drop 15 (words_of_bytes (drop 194 m.scratchpad)));
      cells = take 194 m.scratchpad;
      spare = take 15 (words_of_bytes (drop 194 m.scratchpad));
      low_memory = m.low_expansion;
      high_memory = m.high_expansion;
      rom = m.rom;
      vdp = m.vdp;
      grom = m.grom;
    }

abbrev pub view : MachineState → View
view x = view_of x.cpu.memory

-- The machine is at an address, ready to run the interpreter's words.
pub record IsAt (x : MachineState) (address : ℕ) : Type 0 where
  pub pc : x.cpu.pc ≡ address
  pub wp : x.cpu.wp ≡ WORKSPACE
  pub words : HoldsInterpreter x.cpu.memory.low_expansion
  pub machine : IsMachine x
