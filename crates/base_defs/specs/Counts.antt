-- Counts.
--
-- Profile: a count is kept in 64 bits. It never falls, and where a sum would pass 2^64 - 1 it becomes that number and
-- stays there.
use Rattle.std.specs.Prelude.{◌≢◌, ℕ, ◌+◌, ◌-◌, ◌^◌, ◌<◌, min, max, Bool, true, false}

-- a count that was raised by a number
abbrev pub saturating_sum : ℕ → ℕ → ℕ
saturating_sum count by = max count (min (count + by) (2 ^ 64 - 1))

-- a count rose: it is greater, or is at its last value
abbrev pub Rose : ℕ → ℕ → Type 0
Rose old new = new ≢ 2 ^ 64 - 1 → old < new

-- 1 where a test holds, else 0
abbrev pub one_if : Bool → ℕ
one_if true = 1
one_if false = 0
