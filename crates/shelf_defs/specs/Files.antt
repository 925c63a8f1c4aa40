-- Files by name.
use Rattle.std.specs.Prelude.{ℕ, ◌==◌, Bool, not, ◌&&◌, ◌||◌, nat_lt, nat_le, List, length, slice_index, Option}
use Rattle.std.specs.List.{list_all}
use Rattle.std.specs.Ordering.{nat_cmp}
use Rattle.std.specs.Cmp.Lexicographic.{slice_cmp}
use Rattle.std.specs.FinMap.{FinMap, get}
use Rattle.source_defs.specs.Names.{is_letter_or_digit}

-- Profile: a letter, a digit, or one of `.`, `_` and `-`.
abbrev pub is_file_character : ℕ → Bool
is_file_character byte = is_letter_or_digit byte || (byte == 0x2E) || (byte == 0x5F) || (byte == 0x2D)

abbrev pub all_file_characters : List ℕ → Bool
all_file_characters bytes = list_all is_file_character bytes

-- Profile: the name of a file is 1 to 60 such characters, of which the first is no `.`.
abbrev pub is_file_name : List ℕ → Bool
is_file_name bytes =
    nat_lt 0 (length bytes) && nat_le (length bytes) 60 && not (slice_index bytes 0 == 0x2E)
    && all_file_characters bytes

-- files: names, and the bytes that stand under each
abbrev pub Files : Type 0
Files = FinMap (slice_cmp nat_cmp) (List ℕ)

-- What a shelf has under a name, by how many files were asked for before and by the name: a file may change between one
-- question and the next.
abbrev pub Contents : Type 0
Contents = ℕ → List ℕ → Option (List ℕ)

-- files that do not change
abbrev pub of_files : Files → Contents
of_files files number name = get files name
