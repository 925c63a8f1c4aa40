use Rattle.std.proofs.Common.{rules}
use Rattle.expression_defs.specs.Tokens.{token_at}
use Rattle.asm_text.proofs.expressions.scan.token_at.Goals as goal

pub returns-in_default-4 : goal.returns-in_default-4
unfolding token_at
returns-in_default-4 c = search rules
