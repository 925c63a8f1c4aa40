-- What the pieces of MUL and DIV do: how many instructions they have, where they end, and what they change of the
-- view, in the words of the processor. Registers, cells and ports that are not named stay.
use Rattle.std.specs.Prelude.{ℕ, ◌%◌, ◌/◌, ◌==◌, if◌then◌else◌, nat_lt, slice_index, slice_set}
use Rattle.sim_rows.specs.Prelude.{Byte, DIVBY, DIVE, DIVL, DIVQ, DIVS, DIVW, double_word, Exit, exit, GSTEP, LOAD}
use Rattle.sim_rows.specs.Prelude.{MULB, ones_cleared, ones_set, OVER, OVERFLOW_BIT, product_of, shifted, SHOW, SLA}
use Rattle.sim_rows.specs.Prelude.{SRL, STATUS, STO, STORE, sum_of, swapped, View, Word}

-- MUL: of a word the first byte is multiplied, and the product is one word; else STORE is asked for the high word of
-- the product, and the low word is kept.
abbrev pub multiply_bytes : View → Exit
multiply_bytes v =
    let product = product_of (shifted SLA (shifted SRL v.r.r9 8) 8) v.r.r6 in
    exit 7 STO (record v { r = record v.r { r3 = 2; r9 = product.0; r10 = product.1 } })

abbrev pub multiply_words : View → Exit
multiply_words v =
    let product = product_of v.r.r9 v.r.r6 in
    exit 4 STORE (record v { r = record v.r { r9 = product.0; r10 = product.1; r11 = MULB } })

abbrev pub multiply : View → Exit
multiply v = if v.r.r3 == 1 then multiply_bytes v else multiply_words v

-- MULB: the low word of the product is to be stored next.
abbrev pub low_product : View → Exit
low_product v = exit 3 STO (record v { r = record v.r { r7 = sum_of Word v.r.r7 2; r9 = v.r.r10 } })

-- DIV: no quotient fits where the first word of the dividend is not below the divisor.
abbrev pub compare_divisor : View → Exit
compare_divisor v =
    if nat_lt v.r.r9 v.r.r6
    then (if v.r.r3 == 1 then exit 4 DIVBY v else exit 4 DIVW v)
    else exit 2 OVER v

-- DIVBY: the quotient and the remainder of bytes become one word.
abbrev pub divide_bytes : View → Exit
divide_bytes v =
    let divisor = shifted SRL v.r.r6 8 in
    let dividend = double_word 0 v.r.r9 in
    exit 8 DIVS (record v {
      r = record v.r {
        r3 = 2;
        r6 = divisor;
        r9 = sum_of Word (swapped (dividend / divisor)) (dividend % divisor);
        r10 = dividend % divisor;
      };
    })

-- DIVW: the second word of the destination is asked for, and the divisor is kept.
abbrev pub load_low_word : View → Exit
load_low_word v =
    exit 5 LOAD (record v { r = record v.r { r2 = sum_of Word v.r.r7 2; r5 = v.r.r8; r11 = DIVL; r12 = v.r.r6 } })

-- DIVL: STORE is asked for the quotient, and the remainder is kept.
abbrev pub divide_words : View → Exit
divide_words v =
    let dividend = double_word v.r.r9 v.r.r6 in
    exit 3 STORE (record v {
      r = record v.r { r9 = dividend / v.r.r12; r10 = dividend % v.r.r12; r11 = DIVQ };
    })

-- DIVQ: the remainder is to be stored next.
abbrev pub take_remainder : View → Exit
take_remainder v = exit 2 DIVS (record v { r = record v.r { r7 = sum_of Word v.r.r7 2; r9 = v.r.r10 } })

-- DIVS: STORE is asked for the last word.
abbrev pub store_last : View → Exit
store_last v = exit 1 STORE (record v { r = record v.r { r11 = DIVE } })

-- DIVE and OVER: the overflow's bit of the status is cleared, or set.
abbrev pub with_status : ℕ → View → View
with_status byte v = record v { r = record v.r { r4 = 0x0800 }; cells = slice_set v.cells STATUS byte }

abbrev pub clear_overflow : View → Exit
clear_overflow v = exit 3 SHOW (with_status (ones_cleared Byte (slice_index v.cells STATUS) OVERFLOW_BIT) v)

abbrev pub set_overflow : View → Exit
set_overflow v = exit 3 GSTEP (with_status (ones_set (slice_index v.cells STATUS) OVERFLOW_BIT) v)
