use Rattle.std.proofs.Common.{Some, sym, ap, ◌∙◌}
use Rattle.asm_text.proofs.WordKeys.{key_here, key_later}
use Rattle.asm_text.proofs.words.named_in.Goals as goal

pub returns-then-key-known : goal.returns-then-key-known
returns-then-key-known g c =
    ap (λ row. Some row.1) c.row-item.is
    ∙ (key_here c.args.table.now c.loop-row.row-index c.args.key c.row-item.result c.loop-row-test.true
    (c.if-key-known.true ∙ ap (λ row. row.0) c.row-item.is)
    ∙ c.loop-row.invariant)

pub loop-row-preserved : goal.loop-row-preserved
loop-row-preserved g c =
    key_later c.args.table.now c.loop-row.row-index c.args.key c.row-item.result c.loop-row-test.true
    (λ same. c.if-key-known.false (same ∙ sym (ap (λ row. row.0) c.row-item.is)))
    ∙ c.loop-row.invariant
