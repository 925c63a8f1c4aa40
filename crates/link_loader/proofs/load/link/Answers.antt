use Rattle.std.proofs.Common.{sym}
use Rattle.link_defs.specs.LinkedMemory.{linked}
use Rattle.link_loader.proofs.load.link.Goals as goal

pub returns : goal.returns
unfolding linked
returns c =
    let e = c.in_ok-of.ensures in
    rw (sym e.defs, sym e.words, sym e.refs, sym e.entries) c.link_parts.ensures
