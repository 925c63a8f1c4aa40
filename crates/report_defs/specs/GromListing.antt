-- The listing of an image of GROM.
use Rattle.std.specs.Prelude.{ℕ, List, map}
use Rattle.std.specs.List.{range_with_len}
use Rattle.gpl_defs.specs.Image.{Image, byte_at, low_of, high_of}
use Rattle.gpl_listing_defs.specs.Listing.{grom_listing}

-- the bytes of all addresses
unfoldable pub grom_bytes : Image → List ℕ
grom_bytes image = map (byte_at image) (range_with_len 0 65536)

-- the lines from the lowest to the highest written address
abbrev pub image_listing : Image → List (List ℕ)
image_listing image = grom_listing (grom_bytes image) (low_of image) (high_of image)
