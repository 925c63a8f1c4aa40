use Rattle.std.proofs.Common.{rules}
use Rattle.asm_text.proofs.expressions.scan.name_token.Goals as goal

pub returns-in-Some : goal.returns-in-Some
returns-in-Some c = search rules
