use Rattle.std.proofs.Common.{sym, ◌∙◌}
use Rattle.link_loader.proofs.Shown.{word_is}
use Rattle.link_loader.proofs.linked.Linked.word_at.Goals as goal

pub returns : goal.returns
returns c = let s = c.args.self.now in c.get.ensures ∙ sym (word_is s.pairs.items s.words.cells.items s.listed c.args.at)
