use Rattle.object_tags.specs.Seen.{model_of_module}
use Rattle.link_loader.specs.View.{model_of_linked}
use Rattle.gpl_run.proofs.Built.{unit_linked, interpreter_there}
use Rattle.gpl_run.proofs.build.build_interp.Goals as goal

pub link_module-requires : goal.link_module-requires
link_module-requires c = unit_linked (model_of_module c.in_ok-interpreter_module.field-0) c.in_ok-interpreter_module.ensures

pub returns-clause-built : goal.returns-clause-built
returns-clause-built c =
    interpreter_there (model_of_module c.in_ok-interpreter_module.field-0) c.in_ok-interpreter_module.ensures model_of_linked
    c.link_module.result c.link_module.ensures
