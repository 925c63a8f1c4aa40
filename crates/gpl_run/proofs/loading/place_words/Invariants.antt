use Rattle.std.proofs.Common.{◌≡◌, drop}
use Rattle.std.specs.FinMap.{entries}
use Rattle.load_defs.specs.Loaded.{with_words}
use Rattle.link_loader.specs.View.{model_of_linked}
use Rattle.gpl_run.proofs.loading.place_words.Given as goal

-- what is left goes on from here
abbrev pub invariant-loop-index : goal.invariant-loop-index
invariant-loop-index l = with_words (entries (model_of_linked l.linked).words) l.fn.bus ≡ with_words (drop l.index (entries (model_of_linked l.linked).words)) l.bus
