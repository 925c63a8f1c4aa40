-- Comparisons and sums of lists of bytes, as one would say them by hand.
use Rattle.std.specs.Prelude.{◌≡◌, ◌≢◌, ◌<◌, ℕ, ◌*◌, ◌==◌, ◌&&◌, if◌then◌else◌, List, length, take, drop, Bool, not}
use Rattle.std.specs.Prelude.{Option, Some, None, slice_get}
use Rattle.std.specs.List.{zip, prefix_len, count_by, sum}
use Rattle.std.specs.Str.{bytes_eq}

-- A place of two lists, by what is there in each: the two are the same.
abbrev pub is_same : ℕ × ℕ → Bool
is_same place = place.0 == place.1

-- A place of two lists, by what is there in each: the two differ.
abbrev pub is_different : ℕ × ℕ → Bool
is_different place = not (is_same place)

-- How many places, from the front on, are the same in both lists.
abbrev pub common_length : List ℕ → List ℕ → ℕ
common_length a b = prefix_len is_same (zip a b)

-- The first place where two lists differ: after what they have in common, unless both end there.
abbrev pub first_difference : List ℕ → List ℕ → Option ℕ
first_difference a b =
    let common = common_length a b in
    if (common == length a) && (common == length b) then None else Some common

-- The law of it, which is proved: where there is none, the lists are equal; else they do not show the same at the
-- place, and they do at every place before it. After its end a list shows nothing.
abbrev pub IsFirstDifference : List ℕ → List ℕ → Option ℕ → Type 0
IsFirstDifference a b None = a ≡ b
IsFirstDifference a b (Some place) =
    (slice_get a place ≢ slice_get b place) × ((before : ℕ) → before < place → slice_get a before ≡ slice_get b before)

-- In how many places two lists differ.
abbrev pub count_differences : List ℕ → List ℕ → ℕ
count_differences a b = count_by is_different (zip a b)

-- The row of 16 bytes with a number; the first has the number 0.
abbrev pub row : List ℕ → ℕ → List ℕ
row bytes number = take 16 (drop (16 * number) bytes)

-- Whether two rows are equal.
abbrev pub rows_equal : List ℕ → ℕ → ℕ → Bool
rows_equal bytes i j = bytes_eq (row bytes i) (row bytes j)

-- The sum of a list of bytes.
abbrev pub sum_bytes : List ℕ → ℕ
sum_bytes bytes = sum bytes
