use Rattle.std.proofs.Common.{Result, Ok, Err}
use Rattle.std.specs.Prelude.{IfOk}
use Rattle.console_defs.specs.Machine.{MachineState}
use Rattle.native_interp.specs.declared.addresses.TheConstants.{GBOOT, WORKSPACE}
use Rattle.load_defs.specs.Loaded.{IsLoadedMachine}
use Rattle.interp_defs.specs.Boot.{IsBoot}
use Rattle.link_loader.specs.View.{model_of_linked}
use Rattle.gpl_run.proofs.load.load_interpreter.Goals as goal

-- what holds of each machine holds of one that was made
where_made : {E : Type 0} (P Q : MachineState → Type 0) (made : Result MachineState E) → ((x : MachineState) → P x → Q x) → IfOk made P → IfOk made Q
where_made P Q (Ok x) each p = each x p
where_made P Q (Err error) each p = p

pub returns : goal.returns
returns c =
    let linked = model_of_linked c.args.interpreter.now in
    let image = c.args.grom.now in
    let entry = c.args.entry in
    where_made (IsLoadedMachine linked image entry WORKSPACE GBOOT) (IsBoot image entry) c.load_machine.result
    (λ x loaded. c.loaded_interpreters_boot.ensures linked image entry x c.requires.built loaded) c.load_machine.ensures
