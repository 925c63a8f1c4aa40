-- What the pieces of these rows do: how many instructions they have, where they end, and what they change of the
-- view, in the words of the processor. Registers, cells and ports that are not named stay.
use Rattle.std.specs.Prelude.{ℕ, ◌+◌, slice_set}
use Rattle.sim_rows.specs.Prelude.{absolute_flags, absolute_of, complement_of, difference_flags, difference_of}
use Rattle.sim_rows.specs.Prelude.{exclusive_or_of, Exit, exit, Flags, high, join, negation_flags, negation_of}
use Rattle.sim_rows.specs.Prelude.{ones_cleared, ones_set, SHOW, STATB, STATUS, status_byte, STO, STORE, sum_flags}
use Rattle.sim_rows.specs.Prelude.{sum_of, View, Word}

-- ST: the value of the source.
abbrev pub take_source : View → Exit
take_source v = exit 1 STO (record v { r = record v.r { r9 = v.r.r6 } })

-- AND: the zeros of the source are the ones of its complement, which are cleared.
abbrev pub keep_common_ones : View → Exit
keep_common_ones v =
    let zeros = complement_of Word v.r.r6 in
    exit 3 STO (record v { r = record v.r { r6 = zeros; r9 = ones_cleared Word v.r.r9 zeros } })

-- OR: the ones of the source are set.
abbrev pub set_ones : View → Exit
set_ones v = exit 2 STO (record v { r = record v.r { r9 = ones_set v.r.r9 v.r.r6 } })

-- XOR.
abbrev pub exclude_ones : View → Exit
exclude_ones v = exit 2 STO (record v { r = record v.r { r9 = exclusive_or_of v.r.r9 v.r.r6 } })

-- INV: every bit is inverted.
abbrev pub invert : View → Exit
invert v = exit 2 STO (record v { r = record v.r { r9 = complement_of Word v.r.r9 } })

-- CLR.
abbrev pub clear : View → Exit
clear v = exit 2 STO (record v { r = record v.r { r9 = 0 } })

-- STORE is asked for a result, and the status byte of its flags is kept in the high half of register 12.
abbrev pub kept_status : Flags → ℕ
kept_status flags = join (status_byte flags) 0

abbrev pub with_status_kept : ℕ → ℕ → Flags → View → Exit
with_status_kept count result flags v =
    exit count STORE (record v { r = record v.r { r9 = result; r11 = STATB; r12 = kept_status flags } })

-- ADD, INC: the source is added.
abbrev pub add_source : View → Exit
add_source v = with_status_kept 5 (sum_of Word v.r.r9 v.r.r6) (sum_flags Word v.r.r9 v.r.r6) v

-- SUB, DEC: the source is subtracted.
abbrev pub subtract_source : View → Exit
subtract_source v = with_status_kept 5 (difference_of Word v.r.r9 v.r.r6) (difference_flags Word v.r.r9 v.r.r6) v

-- INCT and DECT: the source is doubled first.
abbrev pub doubled : View → View
doubled v = record v { r = record v.r { r6 = sum_of Word v.r.r6 v.r.r6 } }

abbrev pub add_twice : View → Exit
add_twice v = let added = add_source (doubled v) in record added { count = 1 + added.count }

abbrev pub subtract_twice : View → Exit
subtract_twice v = let subtracted = subtract_source (doubled v) in record subtracted { count = 1 + subtracted.count }

-- ABS: the absolute value.
abbrev pub make_absolute : View → Exit
make_absolute v = with_status_kept 5 (absolute_of Word v.r.r9) (absolute_flags Word v.r.r9) v

-- NEG: the negative.
abbrev pub negate : View → Exit
negate v = with_status_kept 4 (negation_of Word v.r.r9) (negation_flags Word v.r.r9) v

-- STATB: the kept status is stored.
abbrev pub store_status : View → Exit
store_status v = exit 1 SHOW (record v { cells = slice_set v.cells STATUS (high v.r.r12) })
