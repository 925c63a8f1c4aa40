-- What the pieces of EX, RAND, BACK and ALL do: how many instructions they have, where they end, and what they
-- change of the view, in the words of the processor. Registers, cells and ports that are not named stay.
use Rattle.std.specs.Prelude.{ℕ, ◌%◌, ◌+◌, ◌/◌, ◌==◌, if◌then◌else◌, slice_set}
use Rattle.sim_rows.specs.Prelude.{difference_of, EXB, Exit, exit, FILL, GSTEP, high, join, low, past, product_of}
use Rattle.sim_rows.specs.Prelude.{RANDL, RANDOM, SEED, with_video_address, STO, STORE, sum_of, swapped}
use Rattle.sim_rows.specs.Prelude.{vdp_address_written, vdp_data_written, View, with_word_in, Word, word_in}

-- EXV: the destination's old value is kept, and STORE is asked for the source's value.
abbrev pub keep_destination : View → Exit
keep_destination v = exit 3 STORE (record v { r = record v.r { r9 = v.r.r6; r11 = EXB; r12 = v.r.r9 } })

-- EXB: the source's place becomes the one to store to, and the kept value the one to store.
abbrev pub turn_to_source : View → Exit
turn_to_source v = exit 4 STO (record v { r = record v.r { r7 = v.r.r2; r8 = v.r.r5; r9 = v.r.r12 } })

-- GORAND: the next seed is made and stored, and its swapped bytes are kept.
abbrev pub draw_seed : View → Exit
draw_seed v =
    let seed = word_in v.cells SEED in
    let product = product_of 0x6FE5 seed in
    let next = sum_of Word product.1 0x7AB9 in
    exit 9 RANDL (record v {
      r = record v.r { r6 = seed; r9 = product.0; r10 = swapped next };
      cells = with_word_in v.cells SEED next;
    })

-- RANDL: the limit is read, and the remainder of a division by the number above it is stored.
abbrev pub draw_number : View → Exit
draw_number v =
    let divisor = v.grom.fetched + 1 in
    let number = v.r.r10 % divisor in
    exit 8 GSTEP (record v {
      r = record v.r { r6 = divisor; r9 = v.r.r10 / divisor; r10 = swapped number };
      cells = slice_set v.cells RANDOM number;
      grom = past v.grom;
    })

-- GOBACK: the byte is read, and written to register 7 of the video processor.
abbrev pub set_border : View → Exit
set_border v =
    let pair : ℕ = 0x8700 in
    exit 5 GSTEP (record v {
      r = record v.r { r4 = pair };
      vdp = vdp_address_written (vdp_address_written v.vdp v.grom.fetched) (high pair);
      grom = past v.grom;
    })

-- GOALL: the byte is read, and the video processor is set to address 0, for writing 768 bytes.
abbrev pub begin_fill : View → Exit
begin_fill v =
    let at : ℕ = 0x4000 in
    exit 6 FILL (record v {
      r = record v.r { r4 = at; r9 = join v.grom.fetched (low v.r.r9); r12 = 768 };
      vdp = with_video_address at v.vdp;
      grom = past v.grom;
    })

-- FILL: the byte is stored and counted, and the step ends where none is left.
abbrev pub fill_byte : View → Exit
fill_byte v =
    let left = difference_of Word v.r.r12 1 in
    let filled = record v { r = record v.r { r12 = left }; vdp = vdp_data_written v.vdp (high v.r.r9) } in
    if left == 0 then exit 4 GSTEP filled else exit 3 FILL filled
