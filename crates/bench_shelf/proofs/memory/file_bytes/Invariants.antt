use Rattle.std.proofs.Common.{◌≡◌, length}
use Rattle.bench_shelf.specs.MemoryShelf.{file_bytes, named}
use Rattle.bench_shelf.proofs.memory.file_bytes.Given as goal

-- none of the files before has the name
abbrev pub invariant-loop-rest : goal.invariant-loop-rest
invariant-loop-rest l =
    file_bytes (named (λ bytes. bytes.items) l.rest) l.name ≡ file_bytes (named (λ bytes. bytes.items) l.files) l.name

abbrev pub decreases-loop-rest : goal.decreases-loop-rest
decreases-loop-rest l = length l.rest
