-- How a name lies in eight bytes.
use Rattle.std.specs.Prelude.{◌≡◌, ℕ, zero, suc, ◌+◌, ◌-◌, ◌*◌, ◌≤◌, IsTrue, List, [], ◌∷◌}
use Rattle.std.specs.Prelude.{◌++◌, length, take, replicate}
use Rattle.std.proofs.Common.{ap, sym}
use Rattle.source_defs.specs.Names.{is_kept_name}

-- a number, with a number of bytes of a name after it as its lower digits; after the name they are 0
unfoldable pub key_after : ℕ → ℕ → List ℕ → ℕ
key_after key zero name = key
key_after key (suc places) [] = key_after (256 * key) places []
key_after key (suc places) (byte ∷ name) = key_after (256 * key + byte) places name

-- the eight bytes of a name: its own, zeros, and how many it has
abbrev pub kept_bytes : List ℕ → List ℕ
kept_bytes name = name ++ (replicate (7 - length name) 0 ++ (length name ∷ []))

-- these bytes as one number, the first highest
unfoldable pub name_key : List ℕ → ℕ
name_key name = 256 * key_after 0 7 name + length name

-- eight bytes are the bytes of the name that their first `len` are
pub record IsPadded (bytes : List ℕ) (len : ℕ) : Type 0 where
  pub eight : length bytes ≡ 8
  pub within : len ≤ 6
  pub lies : bytes ≡ kept_bytes (take len bytes)
  pub kept : IsTrue (is_kept_name (take len bytes))

-- the name gives the eight bytes back
pub padded_again : {R : Type 0} (make : List ℕ → R) (bytes : List ℕ) (len : ℕ) → IsPadded bytes len
    → make (kept_bytes (take len bytes)) ≡ make bytes
padded_again make bytes len is = ap make (sym is.lies)
