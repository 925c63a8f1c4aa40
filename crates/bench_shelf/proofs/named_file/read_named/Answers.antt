use Rattle.bench_shelf.proofs.FileReads.{asks_fault, asks_memory}
use Rattle.bench_shelf.proofs.named_file.read_named.Goals as goal

pub returns-in-Err-Fault-clause-refused : goal.returns-in-Err-Fault-clause-refused
returns-in-Err-Fault-clause-refused g c =
    let shelf = g.F.Shelf.shelf in
    asks_fault c.args.limit c.args.name.now (shelf c.args.shelf.now) (shelf c.open_file.new.self) c.in-Ok.ensures.anew c.in-Ok.ensures.counts c.in-Ok.ensures.files
    (shelf c.read_all.new.source) (g.met.F.Shelf.keeps _ _ c.read_all.ensures.kept) _ _ (g.met.F.Shelf.source_is _) (g.met.F.Shelf.source_is _)
    (rw c.in-Err-Fault.field-0-is at c.in-Err-Fault.ensures.err)

pub returns-in-Err-Memory-clause-refused : goal.returns-in-Err-Memory-clause-refused
returns-in-Err-Memory-clause-refused g c =
    let shelf = g.F.Shelf.shelf in
    asks_memory c.args.limit c.args.name.now (shelf c.args.shelf.now) (shelf c.open_file.new.self) c.in-Ok.ensures.anew c.in-Ok.ensures.counts c.in-Ok.ensures.files
    (shelf c.read_all.new.source) (g.met.F.Shelf.keeps _ _ c.read_all.ensures.kept) _ _ (g.met.F.Shelf.source_is _) (g.met.F.Shelf.source_is _)
    (rw c.in-Err-Memory.field-0-is at c.in-Err-Memory.ensures.err)
