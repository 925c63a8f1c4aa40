-- The machine that the interpreter's linked memory is loaded into.
use Rattle.std.specs.Prelude.{ℕ, List}
use Rattle.console_defs.specs.Machine.{MachineState}
use Rattle.link_defs.specs.LinkedMemory.{LinkedMemory}
use Rattle.load_defs.specs.Loaded.{IsLoadedMachine}
use Rattle.native_interp.specs.declared.addresses.TheConstants.{GBOOT, WORKSPACE}
use Rattle.interp_build_defs.specs.Interpreter.{IsInterpreter}
use Rattle.interp_defs.specs.Boot.{IsBoot}

-- The law, which is proved: the interpreter's linked memory, loaded with an image and with an entry at >83E0, is the
-- machine on which the interpreter begins.
abbrev pub LoadedInterpretersBoot : Type 0
LoadedInterpretersBoot =
    (memory : LinkedMemory) (image : List ℕ) (entry : ℕ) (x : MachineState)
    → IsInterpreter memory → IsLoadedMachine memory image entry WORKSPACE GBOOT x → IsBoot image entry x
