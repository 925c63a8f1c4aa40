use Rattle.std.proofs.Common.{arith}
use Rattle.std.proofs.lemmas.List.{length-map}
use Rattle.object_tags.specs.Seen.{model_of_module}
use Rattle.object_tags.specs.Answers.{model_of_modules}
use Rattle.object_defs.proofs.ModuleCount.{few_modules}
use Rattle.bench_commands.proofs.object_input.link_input.Goals as goal

pub link-requires : goal.link-requires
link-requires c =
    let modules = c.in_ok-modules.modules in
    let few = few_modules c.args.input.now (model_of_modules modules.items) c.in_ok-modules.ensures in
    omega (arith, few, modules.ok, length-map modules.items model_of_module)
