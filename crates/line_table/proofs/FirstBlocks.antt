-- Written by tools/interpreter from crates/native_interp/src/source.
-- Blocks of the source's lines: each line by itself has the outcome of its row.
use Rattle.std.proofs.Common.{refl}
use Rattle.expression_defs.specs.Tokens.{token_at, tokens_from}
use Rattle.source_defs.specs.Fields.{in_quotes, fields}
use Rattle.source_defs.specs.Operands.{operands_from}
use Rattle.expression_defs.specs.Symbols.{registers}
use Rattle.instruction_defs.specs.Operations.{mnemonic}
use Rattle.instruction_defs.specs.Forms.{form_of}
use Rattle.instruction_defs.specs.FirstChecks.{first_checks}
use Rattle.instruction_defs.specs.SecondChecks.{second_checks}
use Rattle.asm_defs.specs.Directives.{directive}
use Rattle.asm_defs.specs.Statements.{statement_in}
use Rattle.asm_defs.specs.FirstChecks.{parsed, moved}
use Rattle.asm_defs.specs.SecondChecks.{outcome}
use Rattle.line_table.proofs.Blocks.{Block}

pub lines_000 : Block 0 40 0 15
unfolding mnemonic form_of first_checks second_checks token_at tokens_from in_quotes operands_from fields registers directive statement_in parsed moved outcome
lines_000 = refl

pub lines_040 : Block 40 40 15 2
unfolding mnemonic form_of first_checks second_checks token_at tokens_from in_quotes operands_from fields registers directive statement_in parsed moved outcome
lines_040 = refl

pub lines_080 : Block 80 40 17 0
unfolding mnemonic form_of first_checks second_checks token_at tokens_from in_quotes operands_from fields registers directive statement_in parsed moved outcome
lines_080 = refl

pub lines_120 : Block 120 40 17 2
unfolding mnemonic form_of first_checks second_checks token_at tokens_from in_quotes operands_from fields registers directive statement_in parsed moved outcome
lines_120 = refl

pub lines_160 : Block 160 40 19 10
unfolding mnemonic form_of first_checks second_checks token_at tokens_from in_quotes operands_from fields registers directive statement_in parsed moved outcome
lines_160 = refl

pub lines_200 : Block 200 40 29 11
unfolding mnemonic form_of first_checks second_checks token_at tokens_from in_quotes operands_from fields registers directive statement_in parsed moved outcome
lines_200 = refl

pub lines_240 : Block 240 40 40 10
unfolding mnemonic form_of first_checks second_checks token_at tokens_from in_quotes operands_from fields registers directive statement_in parsed moved outcome
lines_240 = refl
