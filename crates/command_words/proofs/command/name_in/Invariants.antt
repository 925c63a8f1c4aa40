use Rattle.std.proofs.Common.{◌≡◌, length, map}
use Rattle.report_defs.specs.CommandTables.{command_named}
use Rattle.command_words.proofs.command.name_in.Given as goal

-- the rows that are left name the same command
abbrev pub invariant-loop-table : goal.invariant-loop-table
invariant-loop-table g l =
    command_named (map (λ row. (row.0.now, row.1.now, row.2)) l.table) l.word
    ≡ command_named (map (λ row. (row.0.now, row.1.now, row.2)) l.initial.table) l.word

abbrev pub decreases-loop-table : goal.decreases-loop-table
decreases-loop-table g l = length l.table
