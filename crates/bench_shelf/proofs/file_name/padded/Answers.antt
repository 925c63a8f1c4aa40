use Rattle.std.proofs.Common.{◌++◌, drop, length, replicate, ap, ◌∙◌}
use Rattle.std.proofs.lemmas.List.{drop-replicate}
use Rattle.bench_shelf.proofs.file_name.padded.Goals as goal

pub returns : goal.returns
returns c =
    ap (λ front. front ++ drop (length c.args.bytes.now) (replicate 60 0)) c.copy_from_slice.ensures.after
    ∙ ap (λ rest. c.args.bytes.now ++ rest) (drop-replicate (length c.args.bytes.now) 60 0)
