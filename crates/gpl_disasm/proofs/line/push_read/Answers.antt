use Rattle.std.proofs.Common.{◌≡◌, ◌≤◌, ◌+◌, length, min, arith}
use Rattle.gpl_defs.specs.Bytes.{bytes_of}
use Rattle.gpl_listing_defs.specs.Listing.{byte_listed, boundary, listed_at}
use Rattle.gpl_forms.specs.Sizes.{size_between}
use Rattle.gpl_disasm.proofs.Listed.{whole_listed, longer_listed, cut_listed}
use Rattle.gpl_disasm.proofs.line.push_read.Goals as goal
use Rattle.gpl_disasm.proofs.line.push_read.Goals.{
  else-size-size_between-via-then-size-size_between+else-from-size,
  else-size-size_between-via-else-size-size_between,
}

pub returns-then-from-size : goal.returns-then-from-size
returns-then-from-size c =
    let same : length (bytes_of c.args.instr.now) ≡ size_between c.args.at c.args.next = omega arith in
    let within : c.args.at + length (bytes_of c.args.instr.now) ≤ min c.args.end (boundary c.args.at) = omega arith in
    let whole =
    whole_listed c.args.image.now c.args.at c.args.next c.args.end c.args.instr.now (omega arith) c.requires.read
    c.requires.means same within in
    record {
      text = rw whole c.push_instr.ensures.text;
      size = rw whole c.size_of-size.ensures.value;
      within = omega arith;
      some = omega arith;
      room = omega arith;
    }

pub returns-else-size-size_between : goal.returns-else-size-size_between
returns-else-size-size_between c =
    let byte : listed_at c.args.image.now c.args.at c.args.end ≡ byte_listed c.args.image.now c.args.at =
    elim c.else-size-size_between.branch [
      | else-size-size_between-via-then-size-size_between+else-from-size w ↦
          cut_listed c.args.image.now c.args.at c.args.next c.args.end c.args.instr.now (omega arith) c.requires.read
          c.requires.means (omega arith) (omega arith)
      | else-size-size_between-via-else-size-size_between w ↦
          longer_listed c.args.image.now c.args.at c.args.next c.args.end c.args.instr.now (omega arith) c.requires.read
          c.requires.means (omega arith)
    ] in
    record {
      text = rw byte (rw c.from-else-size-size_between.ensures at c.push_byte_line.ensures.text);
      size = rw byte c.push_byte_line.ensures.one;
      within = omega arith;
      some = omega arith;
      room = omega arith;
    }
