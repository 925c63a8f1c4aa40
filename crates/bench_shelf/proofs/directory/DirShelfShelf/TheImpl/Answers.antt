use Rattle.std.proofs.Common.{refl}
use Rattle.bench_shelf.proofs.FolderLaws.{
  nothing_claimed,
  nothing_left,
  finds_refused,
  finds_counts,
  finds_anew,
  finds_faults,
  finds_misses,
  finds_no_fault,
  finds_no_miss,
  finds_other,
}
use Rattle.bench_shelf.proofs.directory.DirShelfShelf.TheImpl.Goals as goal

pub open_file-tells : goal.open_file-tells
open_file-tells g c =
    let before = c.args.self.now in
    let after = c.new.self.now in
    record {
      opened = nothing_claimed c.result;
      refused = finds_refused before after c.args.name.now c.result c.ensures;
      end = nothing_left c.result;
      counts = finds_counts before after c.result c.ensures;
      anew = finds_anew before after c.args.name.now c.result c.ensures;
      faults = finds_faults before after c.result c.ensures;
      misses = finds_misses before after c.result c.ensures;
      no_fault = finds_no_fault before after c.result c.ensures;
      no_miss = finds_no_miss before after c.result c.ensures;
      other = finds_other before after c.result c.ensures;
      files = refl;
    }
