use Rattle.interpreter_tests.proofs.AfterSeek.{fetched_after_seek}
use Rattle.interpreter_tests.proofs.subroutines.run.Goals as goal

pub run_fetch-requires-clause-fetched : goal.run_fetch-requires-clause-fetched
run_fetch-requires-clause-fetched g c =
    fetched_after_seek _ c.run_seek.new.machine _ c.run_seek.new.steps c.run_seek.ensures
