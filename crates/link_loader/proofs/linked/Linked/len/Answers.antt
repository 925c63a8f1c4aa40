use Rattle.std.proofs.Common.{arith}
use Rattle.link_loader.proofs.Shown.{len_is}
use Rattle.link_loader.proofs.linked.Linked.len.Goals as goal

pub returns : goal.returns
returns c = let s = c.args.self.now in omega (arith, c.len.ensures, len_is s.pairs.items s.words.cells.items s.listed, s.pairs.ok)
