use Rattle.std.proofs.Common.{drop}
use Rattle.std.specs.FinMap.{entries}
use Rattle.memory_listing.proofs.Followers.{rows_by}
use Rattle.link_loader.specs.View.{model_of_linked}
use Rattle.memory_listing.proofs.Progress.{Listed}
use Rattle.memory_listing.proofs.rows.put_words.Given as goal

-- the rows that are left
abbrev pub invariant-loop-index : goal.invariant-loop-index
invariant-loop-index g l =
    let state = g.O.Sink.state in
    Listed (state l.fn.out) (state l.out) (rows_by 0 (entries (model_of_linked l.linked).words)) (rows_by l.belonging (drop l.index (entries (model_of_linked l.linked).words)))
