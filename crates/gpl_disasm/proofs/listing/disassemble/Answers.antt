use Rattle.gpl_defs.proofs.ImageLaws.{bytes_alone}
use Rattle.gpl_disasm.proofs.listing.disassemble.Goals as goal

pub returns : goal.returns
returns g c bytes are =
    let same = bytes_alone c.args.image.now bytes c.bytes.result.now are (record { size = c.bytes.ensures.size; each = c.bytes.ensures.each }) in
    rw (same, ← c.low.ensures.value, ← c.high.ensures.value) c.put_listing.ensures
