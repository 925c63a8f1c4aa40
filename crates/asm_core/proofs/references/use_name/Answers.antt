use Rattle.std.proofs.Common.{◌<◌, List, length, sym, ap, ◌∙◌, arith}
use Rattle.std.specs.Prelude.{map}
use Rattle.object_tags.specs.declared.parts.Ref.{Ref}
use Rattle.object_tags.specs.Seen.{model_of_ref}
use Rattle.asm_defs.specs.Memory.{with_use}
use Rattle.asm_core.proofs.ReferenceLaws.{used_at}
use Rattle.asm_core.proofs.references.use_name.Goals as goal

pub returns-then-eq-clause-used : goal.returns-then-eq-clause-used
returns-then-eq-clause-used c =
    let items = c.loop-index.references.items in
    let lt : c.loop-index.index < length items =
    omega (arith, c.loop-index-test.true, c.len-index-end.ensures, ap length c.loop-index.invariant.same) in
    sym (used_at items c.loop-index.index c.args.name.now c.args.at c.index.result.now c.index_mut.result.now lt
    c.index.ensures c.index_mut.ensures.value (sym c.eq.ensures ∙ c.if-eq.true))
    ∙ (c.loop-index.invariant.used
    ∙ ap (λ (items : List Ref). with_use (map model_of_ref items) c.args.name.now c.args.at) c.loop-index.invariant.same)
