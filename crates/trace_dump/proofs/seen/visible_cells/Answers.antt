use Rattle.std.proofs.Common.{length-take, arith}
use Rattle.trace_dump.proofs.seen.visible_cells.Goals as goal

pub slice_bounds-result-end : goal.slice_bounds-result-end
slice_bounds-result-end c = let size = c.pad-pad.ensures.size in let l = length-take 194 c.pad-pad.result.now in omega arith

pub returns-clause-size : goal.returns-clause-size
returns-clause-size c = let size = c.pad-pad.ensures.size in let l = length-take 194 c.pad-pad.result.now in omega arith
