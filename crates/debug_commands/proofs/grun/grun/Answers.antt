use Rattle.reports.specs.Answers.{answer}
use Rattle.debug_commands.proofs.grun.grun.Goals as goal

pub returns : goal.returns
returns g c = (answer c.run.result, c.run.ensures, c.finish.ensures)
