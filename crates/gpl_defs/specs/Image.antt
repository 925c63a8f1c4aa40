-- A GROM image: which addresses were written, and with what byte.
--
-- Profile: a source is assembled to such an image, which distinguishes an address that holds 0 from one that was never
-- written.
use Rattle.std.specs.Prelude.{◌≡◌, ℕ, ◌+◌, ◌-◌, ◌==◌, if◌then◌else◌, min, max, List, [], ◌∷◌, length, map, slice_index}
use Rattle.std.specs.Prelude.{unwrap_or, EachIndex}
use Rattle.std.specs.List.{range_with_len}
use Rattle.std.specs.Ordering.{nat_cmp}
use Rattle.std.specs.FinMap.{FinMap, entries, get, insert}

-- the written addresses, each with its byte
abbrev pub Image : Type 0
Image = FinMap nat_cmp ℕ

-- Profile: the byte at an address, 0 where none is written.
abbrev pub byte_at : Image → ℕ → ℕ
byte_at image at = unwrap_or (get image at) 0

-- the lowest of the addresses, or 65,536 where there is none
abbrev pub lowest : List (ℕ × ℕ) → ℕ
lowest [] = 65536
lowest (cell ∷ cells) = min cell.0 (lowest cells)

-- one past the highest of the addresses, or 0 where there is none
abbrev pub past_highest : List (ℕ × ℕ) → ℕ
past_highest [] = 0
past_highest (cell ∷ cells) = max (cell.0 + 1) (past_highest cells)

-- Profile: one past the highest written address, 0 where nothing is written.
abbrev pub high_of : Image → ℕ
high_of image = past_highest (entries image)

-- Profile: the lowest written address, 0 where nothing is written.
abbrev pub low_of : Image → ℕ
low_of image = if high_of image == 0 then 0 else lowest (entries image)

-- Profile: the bytes from the lowest to the highest written address, 0 where none is written between them.
abbrev pub written_bytes : Image → List ℕ
written_bytes image = map (byte_at image) (range_with_len (low_of image) (high_of image - low_of image))

-- bytes that are put one after the other, the first at an address, the next at the address after it
abbrev pub placed : Image → ℕ → List ℕ → Image
placed image at [] = image
placed image at (byte ∷ bytes) = placed (insert image at byte) (at + 1) bytes

-- the bytes of all addresses, of which there are 65,536
pub record AreBytesOf (image : Image) (bytes : List ℕ) : Type 0 where
  pub size : length bytes ≡ 65536
  pub each : EachIndex bytes (λ at. slice_index bytes at ≡ byte_at image at)
