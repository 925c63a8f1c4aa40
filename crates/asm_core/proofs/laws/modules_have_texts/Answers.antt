use Rattle.source_defs.specs.Lines.{line_texts}
use Rattle.asm_core.proofs.TextLaws.{module_has_text}
use Rattle.asm_core.proofs.laws.modules_have_texts.Goals as goal

pub returns : goal.returns
returns c = λ source m e. module_has_text (line_texts source) m e
