-- What the pieces of the comparisons and the tests do: how many instructions they have, where they end, and what
-- they change of the view, in the words of the processor. Registers, cells and ports that are not named stay.
use Rattle.std.specs.Prelude.{ℕ, ◌==◌, bit_and, Bool, false, if◌then◌else◌, int_lt, nat_lt, not, slice_index}
use Rattle.std.specs.Prelude.{slice_set, true}
use Rattle.sim_rows.specs.Prelude.{Byte, CFALSE, CONDITION_BIT, CTRUE, Exit, exit, GSTEP, join, last_out, low}
use Rattle.sim_rows.specs.Prelude.{ones_cleared, ones_set, shifted, signed, SLA, STATUS, View, Word}

-- what holds leads to CTRUE, what does not to CFALSE; each takes a given number of instructions
abbrev pub end_of : Bool → ℕ
end_of true = CTRUE
end_of false = CFALSE

abbrev pub decided : ℕ → ℕ → Bool → View → Exit
decided held failed holds v = exit (if holds then held else failed) (end_of holds) v

-- CH: the destination is above the source.
abbrev pub compare_higher : View → Exit
compare_higher v = decided 2 3 (nat_lt v.r.r6 v.r.r9) v

-- CHE: it is not below it.
abbrev pub compare_higher_or_equal : View → Exit
compare_higher_or_equal v = decided 2 3 (not (nat_lt v.r.r9 v.r.r6)) v

-- CGT: it is above it as a signed number.
abbrev pub compare_greater : View → Exit
compare_greater v = decided 2 3 (int_lt (signed Word v.r.r6) (signed Word v.r.r9)) v

-- CGE: it is not below it as a signed number.
abbrev pub compare_greater_or_equal : View → Exit
compare_greater_or_equal v = decided 3 2 (not (int_lt (signed Word v.r.r9) (signed Word v.r.r6))) v

-- CEQ: they are equal.
abbrev pub compare_equal : View → Exit
compare_equal v = decided 2 3 (v.r.r9 == v.r.r6) v

-- CLOG: no one of the source is a one in the destination.
abbrev pub compare_ones : View → Exit
compare_ones v = decided 2 3 (bit_and v.r.r6 v.r.r9 == 0) v

-- CZ: the operand is 0.
abbrev pub compare_with_zero : View → Exit
compare_with_zero v = decided 2 3 (v.r.r9 == 0) v

-- H, GT, CARRY, OVF: a bit of the status is shifted out to the left.
abbrev pub test_bit : ℕ → View → Exit
test_bit places v =
    let word = join (slice_index v.cells STATUS) (low v.r.r4) in
    decided 3 4 (last_out SLA word places) (record v { r = record v.r { r4 = shifted SLA word places } })

abbrev pub test_higher : View → Exit
test_higher v = test_bit 1 v

abbrev pub test_greater : View → Exit
test_greater v = test_bit 2 v

abbrev pub test_carry : View → Exit
test_carry v = test_bit 4 v

abbrev pub test_overflow : View → Exit
test_overflow v = test_bit 5 v

-- CTRUE and CFALSE: the condition's bit of the status is set, or cleared.
abbrev pub with_status : ℕ → View → View
with_status byte v = record v { r = record v.r { r4 = join CONDITION_BIT 0 }; cells = slice_set v.cells STATUS byte }

abbrev pub set_condition : View → Exit
set_condition v = exit 3 GSTEP (with_status (ones_set (slice_index v.cells STATUS) CONDITION_BIT) v)

abbrev pub clear_condition : View → Exit
clear_condition v = exit 3 GSTEP (with_status (ones_cleared Byte (slice_index v.cells STATUS) CONDITION_BIT) v)
