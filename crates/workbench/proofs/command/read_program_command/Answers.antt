use Rattle.std.proofs.Common.{rules, ◌∙◌}
use Rattle.workbench.proofs.NameLaws.{texts, over_input_alone}
use Rattle.workbench.proofs.command.read_program_command.Goals as goal

pub returns-in_default : goal.returns-in_default
returns-in_default c =
    let word = c.in_ok-word.word.now.items in
    let words = texts c.in_ok-word.others.now in
    let name = c.in_ok-command_name.field-0 in
    let alone =
    over_input_alone c.args.words.now word words name (search rules) (search rules) c.in_default.not-Link
    c.in_default.not-Watch in
    let parsed = c.input_command-in_default.ensures in
    record { command = parsed.command ∙ alone; within = parsed.within }
