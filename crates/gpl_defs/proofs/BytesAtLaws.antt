-- Bytes that come after one another in a GROM.
use Rattle.std.proofs.Common.{ℕ, List, [], ◌∷◌, ◌++◌, refl}
use Rattle.base_defs.specs.Addresses.{next_in_grom}
use Rattle.gpl_defs.specs.Spellings.{AreBytesAt, Holds, Joined}

-- bytes after other bytes, and the address between them
pub bytes_join : (image first second : List ℕ) (at middle next : ℕ) → AreBytesAt image first at middle →
    AreBytesAt image second middle next → AreBytesAt image (first ++ second) at next
bytes_join image [] second at middle next begin end = rw begin end
bytes_join image (byte ∷ first) second at middle next begin end =
    (begin.0, bytes_join image first second (next_in_grom at) middle next begin.1 end)

-- the address between bytes and those after them
pub record Parted (image first second : List ℕ) (at next : ℕ) : Type 0 where
  pub middle : ℕ
  pub begin : AreBytesAt image first at middle
  pub end : AreBytesAt image second middle next

pub bytes_part : (image first second : List ℕ) (at next : ℕ) → AreBytesAt image (first ++ second) at next →
    Parted image first second at next
bytes_part image [] second at next are_at = record { middle = at; begin = refl; end = are_at }
bytes_part image (byte ∷ first) second at next are_at =
    let parted = bytes_part image first second (next_in_grom at) next are_at.1 in
    record { middle = parted.middle; begin = (are_at.0, parted.begin); end = parted.end }

pub holds_join : {First Second : List ℕ → Type 0} (image : List ℕ) (at middle next : ℕ) → Holds First image at middle →
    Holds Second image middle next → Holds (Joined First Second) image at next
holds_join image at middle next begin end = record {
  bytes = begin.bytes ++ end.bytes;
  is_kind = record {
    first = begin.bytes;
    second = end.bytes;
    is_first = begin.is_kind;
    is_second = end.is_kind;
    is = refl;
  };
  are_bytes_at = bytes_join image begin.bytes end.bytes at middle next begin.are_bytes_at end.are_bytes_at;
}

-- the two parts of joined bytes
pub record Halves (First Second : List ℕ → Type 0) (image : List ℕ) (at next : ℕ) : Type 0 where
  pub middle : ℕ
  pub begin : Holds First image at middle
  pub end : Holds Second image middle next

pub holds_part : {First Second : List ℕ → Type 0} (image : List ℕ) (at next : ℕ) →
    Holds (Joined First Second) image at next → Halves First Second image at next
holds_part image at next holds =
    let parted =
    bytes_part image holds.is_kind.first holds.is_kind.second at next (rw holds.is_kind.is at holds.are_bytes_at) in
    record {
      middle = parted.middle;
      begin = record { bytes = holds.is_kind.first; is_kind = holds.is_kind.is_first; are_bytes_at = parted.begin };
      end = record { bytes = holds.is_kind.second; is_kind = holds.is_kind.is_second; are_bytes_at = parted.end };
    }
