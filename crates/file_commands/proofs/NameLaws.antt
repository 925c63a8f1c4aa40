-- The names of files are short.
use Rattle.std.proofs.Common.{◌≡◌, ℕ, ◌≤◌, true, List, length, arith}
use Rattle.std.proofs.lemmas.Bool.Decides.{nat_tests}
use Rattle.shelf_defs.specs.Files.{is_file_name}

pub short_name : (name : List ℕ) → is_file_name name ≡ true → length name ≤ 60
short_name name is = grind (arith, nat_tests, is)
