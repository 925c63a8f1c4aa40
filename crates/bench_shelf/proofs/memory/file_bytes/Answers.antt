use Rattle.std.proofs.Common.{◌∙◌, sym}
use Rattle.bench_shelf.proofs.Names.{name_past, name_none}
use Rattle.bench_shelf.proofs.memory.file_bytes.Goals as goal

pub loop-rest-preserved : goal.loop-rest-preserved
loop-rest-preserved c =
    name_past (λ bytes. bytes.items) _ _ _ c.in-len1-up.len_at_least c.file-item.is (sym c.eq.ensures ∙ c.if-eq.false) ∙ c.loop-rest.invariant

pub returns : goal.returns
returns c = name_none (λ bytes. bytes.items) _ _ c.in_default.len_below ∙ c.loop-rest.invariant
