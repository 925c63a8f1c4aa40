-- Written by tools/interpreter from crates/native_interp/src/source.
-- Blocks of the source's lines: each line by itself has the outcome of its row.
use Rattle.std.proofs.Common.{refl}
use Rattle.expression_defs.specs.Tokens.{token_at, tokens_from}
use Rattle.source_defs.specs.Fields.{in_quotes, fields}
use Rattle.source_defs.specs.Operands.{operands_from}
use Rattle.expression_defs.specs.Symbols.{registers}
use Rattle.instruction_defs.specs.Operations.{mnemonic}
use Rattle.instruction_defs.specs.Forms.{form_of}
use Rattle.instruction_defs.specs.FirstChecks.{first_checks}
use Rattle.instruction_defs.specs.SecondChecks.{second_checks}
use Rattle.asm_defs.specs.Directives.{directive}
use Rattle.asm_defs.specs.Statements.{statement_in}
use Rattle.asm_defs.specs.FirstChecks.{parsed, moved}
use Rattle.asm_defs.specs.SecondChecks.{outcome}
use Rattle.line_table.proofs.Blocks.{Block}

pub lines_560 : Block 560 40 122 8
unfolding mnemonic form_of first_checks second_checks token_at tokens_from in_quotes operands_from fields registers directive statement_in parsed moved outcome
lines_560 = refl

pub lines_600 : Block 600 40 130 8
unfolding mnemonic form_of first_checks second_checks token_at tokens_from in_quotes operands_from fields registers directive statement_in parsed moved outcome
lines_600 = refl

pub lines_640 : Block 640 40 138 6
unfolding mnemonic form_of first_checks second_checks token_at tokens_from in_quotes operands_from fields registers directive statement_in parsed moved outcome
lines_640 = refl

pub lines_680 : Block 680 40 144 11
unfolding mnemonic form_of first_checks second_checks token_at tokens_from in_quotes operands_from fields registers directive statement_in parsed moved outcome
lines_680 = refl

pub lines_720 : Block 720 40 155 6
unfolding mnemonic form_of first_checks second_checks token_at tokens_from in_quotes operands_from fields registers directive statement_in parsed moved outcome
lines_720 = refl

pub lines_760 : Block 760 40 161 5
unfolding mnemonic form_of first_checks second_checks token_at tokens_from in_quotes operands_from fields registers directive statement_in parsed moved outcome
lines_760 = refl

pub lines_800 : Block 800 40 166 11
unfolding mnemonic form_of first_checks second_checks token_at tokens_from in_quotes operands_from fields registers directive statement_in parsed moved outcome
lines_800 = refl

pub lines_840 : Block 840 40 177 9
unfolding mnemonic form_of first_checks second_checks token_at tokens_from in_quotes operands_from fields registers directive statement_in parsed moved outcome
lines_840 = refl

pub lines_880 : Block 880 34 186 5
unfolding mnemonic form_of first_checks second_checks token_at tokens_from in_quotes operands_from fields registers directive statement_in parsed moved outcome
lines_880 = refl
