use Rattle.std.proofs.Common.{◌∙◌, [], ◌∷◌, ◌++◌, sym, subst, rules}
use Rattle.asm_core.specs.Building.{HasAccepted}
use Rattle.asm_core.specs.Finishing.{RefusesAt}
use Rattle.asm_defs.specs.FirstChecks.{check}
use Rattle.source_defs.specs.Lines.{numbered}
use Rattle.expression_defs.specs.Layout.{line_layout}
use Rattle.line_table.proofs.Joined.{source_gives_words}
use Rattle.gpl_run.proofs.FurtherLines.{goes_on, stays_ended, refused}
use Rattle.gpl_run.proofs.assembling.take_line.Goals as goal

pub returns-then-is_ended : goal.returns-then-is_ended
returns-then-is_ended c rest has =
    stays_ended rest c.args.line.now c.args.builder.now has
    (sym (c.is_ended.ensures.ended has.texts has.taken) ∙ c.if-is_ended.true)

pub unreachable-requires : goal.unreachable-requires
unreachable-requires c =
    let has = c.requires.1 in
    let there = subst (λ text. RefusesAt c.in-Err-At.field-0 (line_layout check (numbered 1 (has.texts ++ text ∷ [])))) c.as_bytes.ensures.value
    (c.in-Err-At.ensures.texts has.texts has.taken).0 in
    let refuses = refused c.requires.0 c.args.line.now c.args.builder.now has c.in-Err-At.field-0 there in
    let assembled = source_gives_words.1.links.assembled in
    search rules

pub returns-in-Ok : goal.returns-in-Ok
returns-in-Ok c rest has =
    goes_on rest c.args.line.now c.args.builder.now has c.line.new.self
    (subst (λ text. HasAccepted (has.texts ++ text ∷ []) c.line.new.self) c.as_bytes.ensures.value (c.in-Ok.ensures.texts has.texts has.taken))
