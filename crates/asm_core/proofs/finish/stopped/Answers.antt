use Rattle.std.proofs.Common.{[], sym, subst}
use Rattle.expression_defs.specs.Layout.{assembled_lines}
use Rattle.asm_defs.specs.Modules.{assembled_line}
use Rattle.asm_core.specs.declared.error.AsmError.{AsmError}
use Rattle.asm_core.specs.Finishing.{RefusesAt}
use Rattle.asm_core.proofs.StopLaws.{value_refused, still_refused, refused_after}
use Rattle.asm_core.proofs.finish.stopped.Goals as goal

pub returns-in_default : goal.returns-in_default
returns-in_default c = λ lines waiting done is so_far same.
    subst (λ (error : AsmError). RefusesAt error (assembled_lines (assembled_line c.args.symbols.now) lines)) (sym c.refused_at.ensures)
    (refused_after c.args.symbols.now lines waiting c.args.refused.now is done so_far same c.in_default.is)

pub returns-in-Err : goal.returns-in-Err
returns-in-Err c = λ lines waiting done is so_far same.
    subst (λ (error : AsmError). RefusesAt error (assembled_lines (assembled_line c.args.symbols.now) lines)) (sym c.refusal.ensures)
    (value_refused c.args.symbols.now lines waiting c.args.refused.now is done so_far same c.in-Some.pending c.in-Some.is c.in-Err.failure
    (c.in-Err.ensures []))

pub returns : goal.returns
returns c = λ lines waiting done is so_far same.
    subst (λ (error : AsmError). RefusesAt error (assembled_lines (assembled_line c.args.symbols.now) lines)) (sym c.refused_at-2.ensures)
    (still_refused c.args.symbols.now lines waiting c.args.refused.now is done so_far same [] c.args.output.now c.resolve.new.self c.in-Some.pending
    c.in-Some.is (c.in-Ok.ensures []))
