use Rattle.std.proofs.Common.{◌≡◌, None, drop}
use Rattle.shelf_defs.specs.Assembly.{place_of}
use Rattle.bench_shelf.specs.Runs.{places_of}
use Rattle.bench_shelf.proofs.RunLaws.{place_at}
use Rattle.bench_shelf.proofs.runs.place_of.Given as goal

-- the place is one of those of the runs that are left
abbrev pub invariant-loop-run : goal.invariant-loop-run
invariant-loop-run l =
    place_at (record { file = None; line = l.number }) (drop l.run-index l.runs) l.left ≡ place_of (places_of l.runs) l.number
