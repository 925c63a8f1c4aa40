use Rattle.source_defs.proofs.EndedLines as ended
use Rattle.source_defs.proofs.laws.texts_have_their_lines.Goals as goal

pub returns : goal.returns
returns c = ended.texts_have_their_lines
