-- Executing linked memory.
use Rattle.std.specs.Prelude.{ℕ, List, ◌∷◌, ◌++◌, codes, None}
use Rattle.tms_defs.specs.Bytes.{HoldsZeros}
use Rattle.console_defs.specs.Machine.{MachineState}
use Rattle.console_defs.specs.Runs.{IsRun}
use Rattle.console_defs.specs.declared.run_end.RunEnd.{RunEnd}
use Rattle.console_defs.specs.declared.run_end.RunEnd.TheVariants.{Reached, Limit, Refused, Port, SelfJump}
use Rattle.link_defs.specs.LinkedMemory.{LinkedMemory}
use Rattle.load_defs.specs.Loaded.{IsLoadedMachine}
use Rattle.report_defs.specs.declared.status.Status.{Status}
use Rattle.report_defs.specs.declared.status.Status.TheVariants as status
use Rattle.source_defs.specs.Digits.{hex_word}
use Rattle.report_defs.specs.Dump.{dump_lines}

-- Profile: linked memory is loaded into a machine that begins at the entry with its workspace at >83E0. The word at
-- >83E0 is 0, and so are the GROMs.
pub record IsStart (linked : LinkedMemory) (start : MachineState) : Type 0 where
  pub image : List ℕ
  pub zeros : HoldsZeros 65536 image
  pub machine : IsLoadedMachine linked image 0 0x83E0 linked.entry start

-- the machine after up to a number of instructions, and what ended them
pub record Executes (limit : ℕ) (linked : LinkedMemory) (ending : RunEnd) (left : MachineState) : Type 0 where
  pub start : MachineState
  pub is_start : IsStart linked start
  pub made : ℕ
  pub run : IsRun None limit made start ending left

-- Profile: a report of a run begins with its end.
abbrev pub end_line : RunEnd → List ℕ
end_line Limit = codes "end limit\n"
end_line SelfJump = codes "end self jump\n"
end_line (Refused address) = codes "end refused " ++ (hex_word address ++ codes "\n")
end_line (Port address) = codes "end port " ++ (hex_word address ++ codes "\n")
end_line Reached = codes "end reached\n"

-- Profile: a machine that stopped at a word or at a port has a status of its own.
abbrev pub end_status : RunEnd → Status
end_status Limit = status.Done
end_status SelfJump = status.Done
end_status (Refused address) = status.Stopped
end_status (Port address) = status.Stopped
end_status Reached = status.Done

abbrev pub exec_lines : RunEnd → MachineState → List (List ℕ)
exec_lines ending left = end_line ending ∷ dump_lines left
