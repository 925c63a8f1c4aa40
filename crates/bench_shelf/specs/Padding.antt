-- How the name of a file lies in sixty bytes.
use Rattle.std.specs.Prelude.{◌≡◌, ℕ, ◌-◌, ◌≤◌, IsTrue, List, ◌++◌, length, take, replicate}
use Rattle.std.proofs.Common.{ap, sym, ◌∙◌}
use Rattle.std.proofs.lemmas.List.{length-take-le}
use Rattle.shelf_defs.specs.Files.{is_file_name}

-- the first `len` bytes are a name, and those after them are 0
pub record IsPadded (bytes : List ℕ) (len : ℕ) : Type 0 where
  pub sixty : length bytes ≡ 60
  pub within : len ≤ length bytes
  pub padded : bytes ≡ take len bytes ++ replicate (60 - len) 0
  pub kept : IsTrue (is_file_name (take len bytes))

-- the name gives the sixty bytes and its length back
pub padded_again : {R : Type 0} (make : List ℕ → ℕ → R) (bytes : List ℕ) (len : ℕ) → IsPadded bytes len
    → make (take len bytes ++ replicate (60 - length (take len bytes)) 0) (length (take len bytes)) ≡ make bytes len
padded_again make bytes len is =
    ap (λ n. make (take len bytes ++ replicate (60 - n) 0) n) (length-take-le len bytes is.within)
    ∙ ap (λ b. make b len) (sym is.padded)
