-- Written by tools/interpreter from crates/native_interp/src/source.
-- Blocks of the source's lines: each line by itself has the outcome of its row.
use Rattle.std.proofs.Common.{refl}
use Rattle.expression_defs.specs.Tokens.{token_at, tokens_from}
use Rattle.source_defs.specs.Fields.{in_quotes, fields}
use Rattle.source_defs.specs.Operands.{operands_from}
use Rattle.expression_defs.specs.Symbols.{registers}
use Rattle.instruction_defs.specs.Operations.{mnemonic}
use Rattle.instruction_defs.specs.Forms.{form_of}
use Rattle.instruction_defs.specs.FirstChecks.{first_checks}
use Rattle.instruction_defs.specs.SecondChecks.{second_checks}
use Rattle.asm_defs.specs.Directives.{directive}
use Rattle.asm_defs.specs.Statements.{statement_in}
use Rattle.asm_defs.specs.FirstChecks.{parsed, moved}
use Rattle.asm_defs.specs.SecondChecks.{outcome}
use Rattle.line_table.proofs.Blocks.{Block}

pub lines_280 : Block 280 40 50 8
unfolding mnemonic form_of first_checks second_checks token_at tokens_from in_quotes operands_from fields registers directive statement_in parsed moved outcome
lines_280 = refl

pub lines_320 : Block 320 40 58 13
unfolding mnemonic form_of first_checks second_checks token_at tokens_from in_quotes operands_from fields registers directive statement_in parsed moved outcome
lines_320 = refl

pub lines_360 : Block 360 40 71 8
unfolding mnemonic form_of first_checks second_checks token_at tokens_from in_quotes operands_from fields registers directive statement_in parsed moved outcome
lines_360 = refl

pub lines_400 : Block 400 40 79 12
unfolding mnemonic form_of first_checks second_checks token_at tokens_from in_quotes operands_from fields registers directive statement_in parsed moved outcome
lines_400 = refl

pub lines_440 : Block 440 40 91 12
unfolding mnemonic form_of first_checks second_checks token_at tokens_from in_quotes operands_from fields registers directive statement_in parsed moved outcome
lines_440 = refl

pub lines_480 : Block 480 40 103 6
unfolding mnemonic form_of first_checks second_checks token_at tokens_from in_quotes operands_from fields registers directive statement_in parsed moved outcome
lines_480 = refl

pub lines_520 : Block 520 40 109 13
unfolding mnemonic form_of first_checks second_checks token_at tokens_from in_quotes operands_from fields registers directive statement_in parsed moved outcome
lines_520 = refl
