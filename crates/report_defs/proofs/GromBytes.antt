-- The bytes of an image.
use Rattle.std.proofs.Common.{arith}
use Rattle.std.proofs.lemmas.List.FromFn.{length-map-range_with_len, get_or-map-range_with_len}
use Rattle.gpl_defs.specs.Image.{Image, byte_at, AreBytesOf}
use Rattle.report_defs.specs.GromListing.{grom_bytes}

-- they are those of all its addresses
pub bytes_of_image : (image : Image) → AreBytesOf image (grom_bytes image)
unfolding grom_bytes
bytes_of_image image =
    let size = length-map-range_with_len (byte_at image) 0 65536 in
    record {
      size = size;
      each = λ at within. get_or-map-range_with_len (byte_at image) 0 65536 at at 0 (omega (arith, size)) (omega arith);
    }
