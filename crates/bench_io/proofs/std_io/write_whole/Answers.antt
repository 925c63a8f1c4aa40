-- What a write takes comes after what was written before it.
use Rattle.std.proofs.Common.{◌+◌, ◌++◌, take, drop, sym, ap, ◌∙◌, subst}
use lib.Seq.{take-add, drop-drop}
use Rattle.std.proofs.lemmas.List.{take_rest}
use Rattle.std.specs.Io.KnownBytes.{Appends}
use Rattle.std.proofs.KnownBytes.{Appends-trans, Appends-kept}
use Rattle.bench_io.proofs.std_io.write_whole.Goals.{in-Ok, in-Err+else-ne}
use Rattle.bench_io.proofs.std_io.write_whole.Goals as goal

pub loop-preserved : goal.loop-preserved
loop-preserved g c =
    let (n, left, appended) = c.loop.invariant in
    let bytes = c.args.bytes.now in
    elim c.match-write.branch [
      | in-Ok w ↦
          let count = w.in-Ok.count in (
            n + count,
            ap (λ rest. rest.now) w.rest-is ∙ take_rest c.loop.rest.now count
                ∙ ap (drop count) left ∙ drop-drop count n bytes,
            subst (Appends _ _) (ap (λ rest. take n bytes ++ take count rest) left ∙ sym (take-add n count bytes))
                (Appends-trans _ _ _ _ _ appended w.in-Ok.ensures.bytes),
          )
      | in-Err+else-ne w ↦
          (n, ap (λ rest. rest.now) w.rest-is ∙ left, Appends-kept _ _ _ _ appended w.in-Err.ensures.bytes)
    ]
