-- How far what an instruction changes can reach.
use Rattle.std.specs.Prelude.{◌≡◌, true, Option, Some, None}
use Rattle.tms_defs.specs.declared.instruction.Instr.{Instr}
use Rattle.tms_defs.specs.declared.instruction.Instr.TheVariants.{Two, Jump}
use Rattle.machine_change_defs.specs.Seen.{SeenMemory}
use Rattle.machine_steps.specs.declared.reach.Reach.{Reach}
use Rattle.machine_steps.specs.declared.reach.Reach.TheVariants.{Nothing, Words, Bytes}

-- A jump changes no memory. A word access to a port stops, so that nothing after a port changes by words.
abbrev pub reach_of : Option Instr → Reach
reach_of None = Bytes
reach_of (Some (Two op true dst src)) = Bytes
reach_of (Some (Jump op disp)) = Nothing
reach_of (Some _) = Words

-- what is the same before and after an instruction that reaches so far
abbrev pub Stays : Reach → SeenMemory → SeenMemory → Type 0
Stays Nothing before after = after ≡ before
Stays Words before after =
    (after.video ≡ before.video) × (after.registers ≡ before.registers) × (after.latches ≡ before.latches)
Stays Bytes before after = Unit {0}
