use Rattle.std.proofs.Common.{ap, ◌∙◌}
use Rattle.link_loader.specs.Tables.{word_in}
use Rattle.link_loader.proofs.Words.{none_anywhere}
use Rattle.link_loader.proofs.table.Table.new.Goals as goal

pub returns : goal.returns
returns c at = ap (λ cells. word_in cells at) c.in_ok-no_words.ensures ∙ none_anywhere 65536 at
