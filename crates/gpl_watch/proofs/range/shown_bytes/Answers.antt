use Rattle.std.proofs.Common.{◌≡◌, length, take, length-take, sym, ap, ◌∙◌, arith}
use Rattle.watch_defs.specs.Items.{size_of}
use Rattle.gpl_watch.proofs.range.shown_bytes.Goals as goal

pub slice_bounds-result-end : goal.slice_bounds-result-end
slice_bounds-result-end c = let size = c.pad.ensures.size in let l = length-take 194 c.pad.result.now in omega arith

pub returns-in-Cpu-clause-size : goal.returns-in-Cpu-clause-size
returns-in-Cpu-clause-size c =
    let size = c.pad.ensures.size in
    let l = length-take 194 c.pad.result.now in
    let cells : length (take 194 c.pad.result.now) ≡ 194 = omega arith in
    cells ∙ sym (ap size_of c.in-Cpu.is)
