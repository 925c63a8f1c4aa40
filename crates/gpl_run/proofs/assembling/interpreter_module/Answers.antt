use Rattle.std.proofs.Common.{◌∙◌, sym, subst, rules}
use Rattle.asm_core.specs.Finishing.{RefusesAt}
use Rattle.line_table.proofs.Joined.{source_gives_words}
use Rattle.gpl_run.proofs.FurtherLines.{none_taken, all_taken}
use Rattle.gpl_run.proofs.assembling.interpreter_module.Goals as goal

pub take_source-requires : goal.take_source-requires
take_source-requires c = none_taken c.new-builder.result c.new-builder.ensures.none

pub unreachable-requires : goal.unreachable-requires
unreachable-requires c =
    let has = c.in_ok-take_source.ensures in
    let refuses = subst (RefusesAt c.in-Err-At.field-0) (all_taken _ has) (c.in-Err-At.ensures.lines has.texts has.taken) in
    let assembled = source_gives_words.1.links.assembled in
    search rules

pub returns-in-Ok : goal.returns-in-Ok
returns-in-Ok c =
    let has = c.in_ok-take_source.ensures in
    sym (all_taken _ has) ∙ c.in-Ok.ensures.lines has.texts has.taken
