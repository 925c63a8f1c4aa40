-- What the pieces of the subroutines do: how many instructions they have, where they end, and what they change of
-- the view, in the words of the processor. Registers, cells and ports that are not named stay.
use Rattle.std.specs.Prelude.{ℕ, ◌+◌, ◌==◌, if◌then◌else◌, nat_lt, slice_index, slice_set}
pub use Rattle.sim_view.specs.base_defs.Counts.{one_if}
use Rattle.sim_view.specs.Prelude.{APTR, ASPACE, conjunction_of, even, Exit, grom_address_written, grom_data_read}
use Rattle.sim_view.specs.Prelude.{GromState, GSTOP, high, INDEX, join, last_out, LDATA, low, SDATA, shifted, SLA}
use Rattle.sim_view.specs.Prelude.{SREG, SRL, STREAM, sum_of, vdp_address_written, vdp_data_read, vdp_data_written}
use Rattle.sim_view.specs.Prelude.{VdpState, View, Word, word_in}
use Rattle.sim_view.specs.native_interp.declared.addresses.TheConstants.{ASHORT}

abbrev pub exit : ℕ → ℕ → View → Exit
exit count to left = record { count = count; to = to; left = left }

-- where a subroutine returns to
abbrev pub return_of : View → ℕ
return_of v = even v.r.r11

-- the ports after the next byte was read
abbrev pub past : GromState → GromState
past grom = (grom_data_read grom).1

abbrev pub past_video : VdpState → VdpState
past_video vdp = (vdp_data_read vdp).1

-- the ports after a word was written to their address ports; the GROMs take its high byte first, the video processor
-- its low byte
abbrev pub with_grom_address : ℕ → GromState → GromState
with_grom_address word grom = grom_address_written (grom_address_written grom (high word)) (low word)

abbrev pub with_video_address : ℕ → VdpState → VdpState
with_video_address word vdp = vdp_address_written (vdp_address_written vdp (low word)) (high word)

-- FETCH: the next byte of GROM comes into the high half of register 6.
abbrev pub fetch : View → Exit
fetch v = exit 3 (return_of v) (record v { r = record v.r { r6 = join v.grom.fetched 0 }; grom = past v.grom })

-- SEEK: GROM is set to the address in register 6.
abbrev pub seek : View → Exit
seek v = exit 3 (return_of v) (record v { grom = with_grom_address v.r.r6 v.grom })

-- The stop by reason 2: as many instructions, the last of which leads to GSTOP, and the view with the reason.
abbrev pub operand_stop : ℕ → View → Exit
operand_stop count v = exit count GSTOP (record v { r = record v.r { r0 = 2 } })

-- ADDR: the first byte of an operand is read, and its address in one byte, in twelve bits or in sixteen.
abbrev pub one_byte_address : View → Exit
one_byte_address v =
    exit 4 ASHORT (record v { r = record v.r { r2 = v.grom.fetched; r5 = 0 }; grom = past v.grom })

abbrev pub twelve_bit_address : ℕ → View → Exit
twelve_bit_address base v =
    let second = past v.grom in
    exit 9 APTR (record v {
      r = record v.r { r2 = join (high base) second.fetched; r5 = v.grom.fetched };
      grom = past second;
    })

abbrev pub sixteen_bit_address : View → Exit
sixteen_bit_address v =
    let second = past v.grom in
    let third = past second in
    exit 10 APTR (record v {
      r = record v.r { r2 = join second.fetched third.fetched; r5 = v.grom.fetched };
      grom = past third;
    })

abbrev pub address : View → Exit
address v =
    let base = shifted SRL (shifted SLA v.grom.fetched 12) 4 in
    if nat_lt v.grom.fetched 0x80
    then one_byte_address v
    else if base == 0x0F00 then sixteen_bit_address v else twelve_bit_address base v

-- The range in the cells must be visible; a number of instructions were before its test.
abbrev pub cells_range : ℕ → View → Exit
cells_range before v =
    let end = sum_of Word v.r.r3 v.r.r2 in
    let added = record v { r = record v.r { r4 = end } } in
    if nat_lt 0xC2 v.r.r2
    then operand_stop (before + 3) v
    else if nat_lt 0xC2 end then operand_stop (before + 7) added else exit (before + 7) (return_of v) added

-- ASHORT: after an address in one byte a range of up to four bytes is visible, and a longer one must be.
abbrev pub short_range : View → Exit
short_range v = if nat_lt 4 v.r.r3 then cells_range 2 v else exit 3 (return_of v) v

-- APTR: the form of the operand comes down in register 5; where the operand is indirect, the address is the one of a
-- pointer, which is read if it may be.
abbrev pub pointer : View → Exit
pointer v =
    let tested = record v { r = record v.r { r5 = shifted SRL v.r.r5 5 } } in
    if last_out SRL v.r.r5 5
    then (
    if nat_lt 0xC0 v.r.r2
    then operand_stop 5 tested
    else if v.r.r2 == 0x7C
    then operand_stop 7 tested
    else exit 9 INDEX (record tested {
      r = record tested.r { r2 = word_in v.cells v.r.r2; r4 = word_in v.cells v.r.r2 };
    })
    )
    else exit 2 INDEX tested

-- INDEX: where the operand has an index, its byte is read, and the word at it is added to the address if it may be.
abbrev pub index : View → Exit
index v =
    if last_out SRL v.r.r5 2
    then (
    let offset = v.grom.fetched in
    if nat_lt 0xC0 offset
    then operand_stop 8 (record v { r = record v.r { r4 = offset }; grom = past v.grom })
    else exit 10 ASPACE (record v {
      r = record v.r {
        r2 = sum_of Word v.r.r2 (word_in v.cells offset);
        r4 = offset;
        r6 = word_in v.cells offset;
      };
      grom = past v.grom;
    })
    )
    else exit 3 ASPACE (record v { r = record v.r { r4 = shifted SRL v.r.r5 2 } })

-- ASPACE: register 5 becomes the space; in the cells, the range must be visible.
abbrev pub range : View → Exit
range v =
    let space = conjunction_of v.r.r5 1 in
    let tested = record v { r = record v.r { r5 = space } } in
    if space == 0 then cells_range 2 tested else exit 3 (return_of v) tested

-- LOAD: a value of the cells is read, or the video processor is set to its address, or the value is that of STREAM.
abbrev pub load : View → Exit
load v =
    if v.r.r5 == 1
    then (
    let at = shifted SRL (shifted SLA v.r.r2 2) 2 in
    exit 9 LDATA (record v { r = record v.r { r4 = at }; vdp = with_video_address at v.vdp })
    )
    else if nat_lt 1 v.r.r5
    then exit 4 STREAM v
    else if v.r.r3 == 1
    then exit 7 (return_of v) (record v { r = record v.r { r6 = join (slice_index v.cells v.r.r2) 0 } })
    else exit 8 (return_of v) (record v { r = record v.r { r6 = word_in v.cells v.r.r2 } })

-- LDATA: a value of video memory is read.
abbrev pub load_video : View → Exit
load_video v =
    let second = past_video v.vdp in
    if v.r.r3 == 1
    then exit 5 (return_of v) (record v { r = record v.r { r6 = join v.vdp.fetched 0 }; vdp = second })
    else exit 6 (return_of v)
    (record v { r = record v.r { r6 = join v.vdp.fetched second.fetched }; vdp = past_video second })

-- STREAM: a value of the bytes that follow in GROM is read.
abbrev pub stream : View → Exit
stream v =
    let second = past v.grom in
    if v.r.r3 == 1
    then exit 5 (return_of v) (record v { r = record v.r { r6 = join v.grom.fetched 0 }; grom = second })
    else exit 6 (return_of v)
    (record v { r = record v.r { r6 = join v.grom.fetched second.fetched }; grom = past second })

-- STORE: a value is stored in the cells, or the video processor is set to its address, or it goes on at SREG. Register
-- 13 marks a store at the character's cell.
abbrev pub marked : ℕ → ℕ → ℕ → ℕ
marked cell offset mark = if offset == cell then 0xFFFF else mark

abbrev pub store_byte : View → Exit
store_byte v =
    exit (8 + one_if (v.r.r7 == 0x7D)) (return_of v) (record v {
      r = record v.r { r13 = marked 0x7D v.r.r7 v.r.r13 };
      cells = slice_set v.cells v.r.r7 (high v.r.r9);
    })

abbrev pub store_word : View → Exit
store_word v =
    exit (11 + (one_if (v.r.r7 == 0x7D) + one_if (v.r.r7 == 0x7C))) (return_of v) (record v {
      r = record v.r { r13 = marked 0x7C v.r.r7 (marked 0x7D v.r.r7 v.r.r13) };
      cells = slice_set (slice_set v.cells v.r.r7 (high v.r.r9)) (v.r.r7 + 1) (low v.r.r9);
    })

abbrev pub store : View → Exit
store v =
    if v.r.r8 == 1
    then (
    let at = sum_of Word (shifted SRL (shifted SLA v.r.r7 2) 2) 0x4000 in
    exit 10 SDATA (record v { r = record v.r { r4 = at }; vdp = with_video_address at v.vdp })
    )
    else if nat_lt 1 v.r.r8
    then exit 4 SREG v
    else if v.r.r3 == 1
    then store_byte v
    else store_word v

-- SDATA: a value is stored in video memory.
abbrev pub store_video : View → Exit
store_video v =
    let first = vdp_data_written v.vdp (high v.r.r9) in
    if v.r.r3 == 1
    then exit 4 (return_of v) (record v { vdp = first })
    else exit 5 (return_of v) (record v { vdp = vdp_data_written first (low v.r.r9) })

-- SREG: a register of the video processor is set.
abbrev pub store_register : View → Exit
store_register v =
    let pair = sum_of Word v.r.r7 0x80 in
    exit 5 (return_of v) (record v {
      r = record v.r { r4 = pair };
      vdp = vdp_address_written (vdp_address_written v.vdp (high v.r.r9)) (low pair);
    })
