use Rattle.std.proofs.Common.{sym, ◌∙◌}
use Rattle.asm_text.proofs.Names.{put_back}
use Rattle.asm_text.proofs.expressions.symbols.insert_new.Goals as goal

pub returns-in-Ok-Some-clause-unchanged : goal.returns-in-Ok-Some-clause-unchanged
returns-in-Ok-Some-clause-unchanged c =
    put_back c.args.kept.now c.insert.new.self c.put_back.new.kept c.args.name c.args.value c.in-Ok-Some.before (sym c.in-Ok-Some.ensures.old
    ∙ c.in-Ok-Some.field-0-is)
    c.in-Ok-Some.ensures.updates c.put_back.ensures
