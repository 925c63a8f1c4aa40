use Rattle.std.proofs.Common.{◌≡◌, take}
use Rattle.bench_shelf.specs.Causes.{CountsGrew, ReadWithinLimit}
use Rattle.report_defs.specs.Report.{largest_input}
use Rattle.file_commands.proofs.ReadingLaws.{ReadSoFar, names_in}
use Rattle.file_commands.proofs.reading.read_files.Given as goal

-- the files so far were read
abbrev pub invariant-loop-name : goal.invariant-loop-name
invariant-loop-name g l =
    let state = g.F.Shelf.shelf in
    record {
      read : ReadSoFar l.texts.items (state l.fn.shelf) (state l.shelf);
      names : names_in l.texts.items ≡ take l.name-index l.names;
      within : ReadWithinLimit largest_input (state l.fn.shelf) (state l.shelf);
      later : CountsGrew (state l.fn.shelf) (state l.shelf);
    }
