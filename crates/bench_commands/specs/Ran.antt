-- A GPL program that was run.
use Rattle.std.specs.Prelude.{◌≡◌, ℕ, List}
use Rattle.console_defs.specs.Memory.{IsMemory}
use Rattle.gpl_step_defs.specs.State.{start}
use Rattle.gpl_step_defs.specs.Run.{run}
use Rattle.interp_defs.specs.Programs.{RunsProgram}
use Rattle.gpl_run.specs.Sessions.{SessionState}

-- A session is the run of the program with an image and an entry, for up to `limit` steps, of which `done` were made.
pub record RanProgram (image : List ℕ) (entry limit : ℕ) (session : SessionState) (made : ℕ) : Type 0 where
  pub runs : RunsProgram image entry limit session.machine
  pub ended : session.ended ≡ (run limit (start image entry)).stop
  pub made_is : made ≡ (run limit (start image entry)).done
  pub memory : IsMemory session.machine.cpu.memory
