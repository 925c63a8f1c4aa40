-- The tables in which an image is kept: the byte at each address, and whether it was written.
use Rattle.std.specs.Prelude.{◌≡◌, ℕ, ◌+◌, ◌<◌, ◌≤◌, Bool, false, if◌then◌else◌, List, [], ◌∷◌, length, slice_index}
use Rattle.std.specs.Prelude.{slice_index_or, IsFalse}
use Rattle.std.specs.FinMap.{empty, insert}
use Rattle.gpl_defs.specs.Image.{Image, low_of, high_of}

-- the image of two tables whose first places are an address
unfoldable pub image_from : ℕ → List ℕ → List Bool → Image
image_from at [] marks = empty
image_from at (byte ∷ bytes) [] = empty
image_from at (byte ∷ bytes) (mark ∷ marks) =
    if mark then insert (image_from (at + 1) bytes marks) at byte else image_from (at + 1) bytes marks

-- the image of two tables from address 0 on
abbrev pub image_of : List ℕ → List Bool → Image
image_of bytes marks = image_from 0 bytes marks

-- what holds of the tables and ends of every image
pub record IsImage (bytes : List ℕ) (marks : List Bool) (low high : ℕ) : Type 0 where
  pub bytes_size : length bytes ≡ 65536
  pub marks_size : length marks ≡ 65536
  pub zero_elsewhere : (k : ℕ) → IsFalse (slice_index_or marks k false) → slice_index bytes k ≡ 0
  pub lowest : low ≡ low_of (image_of bytes marks)
  pub highest : high ≡ high_of (image_of bytes marks)
  pub ordered : low ≤ high
  pub within : high ≤ 65536
  pub begins : low < 65536
