-- The code's table of commands has the rows of the definition, and its limits are the definition's.
use Rattle.std.proofs.Common.{◌≡◌, refl}
use Rattle.std.specs.Prelude.{map}
use Rattle.report_defs.specs.declared.command.TheConstants.{COMMANDS}
use Rattle.report_defs.specs.declared.limits.TheConstants.{MOST_BLOCKS, MOST_INSTRUCTIONS, MOST_STEPS}
use Rattle.report_defs.specs.Commands.{commands, most_blocks, most_instructions, most_steps}

rows_are : map (λ row. (row.0.now, row.1.now, row.2)) COMMANDS ≡ commands
rows_are = refl

instructions_are : MOST_INSTRUCTIONS ≡ most_instructions
instructions_are = refl

steps_are : MOST_STEPS ≡ most_steps
steps_are = refl

blocks_are : MOST_BLOCKS ≡ most_blocks
blocks_are = refl
