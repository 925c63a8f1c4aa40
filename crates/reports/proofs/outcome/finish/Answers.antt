use Rattle.reports.proofs.outcome.finish.Goals as goal

pub returns-in-Ok : goal.returns-in-Ok
returns-in-Ok g c = rw c.in-Ok.is (c.finish.ensures (g.E.Sink.state c.args.err.now))
