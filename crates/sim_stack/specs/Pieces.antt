-- What the pieces of CALL, RTN, PUSH and FETCH do: how many instructions they have, where they end, and what they
-- change of the view, in the words of the processor. Registers, cells and ports that are not named stay.
use Rattle.std.specs.Prelude.{ℕ, ◌&&◌, ◌+◌, ◌-◌, ◌==◌, Bool, if◌then◌else◌, nat_lt, not, slice_index, slice_set}
use Rattle.sim_rows.specs.Prelude.{CALLN, CALLS, CHARACTER, difference_of, Exit, exit, FETCH, FETCHA, FETCHB, FETCHD, FETCHK}
use Rattle.sim_rows.specs.Prelude.{FETCHN, FETCHP, FETCHR, FETCHS, GOTO, GSTOP, high, join, LOAD, low, marked_by}
use Rattle.sim_rows.specs.Prelude.{past, RESUME, RETURN_STACK, SEEK, with_grom_address, shifted, SHOW, SLA, SRL, STO}
use Rattle.sim_rows.specs.Prelude.{STORE, sum_of, TAKE, VALUE_STACK, View, VISIBLE_CELLS, WHERE, Word, word_in}
use Rattle.sim_rows.specs.Pieces.{address_before, at_first, read_once}
use Rattle.sim_rows.specs.sim_operands.Pieces.{one_if}

-- A pointer of a stack in the high half of a register, with nothing below it, and the offset that it says.
abbrev pub pointer_at : ℕ → View → ℕ
pointer_at stack v = join (slice_index v.cells stack) 0

abbrev pub offset_of : ℕ → ℕ
offset_of pointer = shifted SRL pointer 8

-- The stop by reason 3: as many instructions, the last of which leads to GSTOP, and the view with the reason.
abbrev pub full : ℕ → View → Exit
full count v = exit count GSTOP (record v { r = record v.r { r0 = 3 } })

-- The test of a stack: the stop where as many bytes at the offset are not visible, and else as the piece goes on.
unfoldable pub if_room : (bytes offset count : ℕ) → View → Exit → Exit
if_room bytes offset count v on = if nat_lt (VISIBLE_CELLS - bytes) offset then full count v else on

-- The offset of the word on the return stack's top, and of the next one, as a register has them; its high half has the
-- pointer, and below that stays what is there.
abbrev pub return_offset : View → ℕ
return_offset v = offset_of (join (slice_index v.cells RETURN_STACK) (low v.r.r2))

abbrev pub call_offset : View → ℕ
call_offset v = offset_of (sum_of Word (join (slice_index v.cells RETURN_STACK) (low v.r.r7)) (join 2 0))

-- GORTN: the word is taken off the stack, if it may be read; RTN, whose code byte is 0, goes on at TAKE.
abbrev pub take_return : View → Exit
take_return v =
    let offset = return_offset v in
    let less = difference_of Word offset 2 in
    let taken = record v {
      r = record v.r { r2 = less; r6 = word_in v.cells offset };
      cells = slice_set v.cells RETURN_STACK (low less);
    } in
    if_room 2 offset 7 (record v { r = record v.r { r2 = offset } })
    (if v.r.r0 == 0 then exit 10 TAKE taken else exit 11 GOTO taken)

-- GOCALL: the word that follows is the target, if there is room for the next address on the stack.
abbrev pub read_call_target : View → Exit
read_call_target v =
    let second = past v.grom in
    let read = record v {
      r = record v.r { r7 = call_offset v; r14 = join v.grom.fetched second.fetched };
      grom = past second;
    } in
    if_room 2 (call_offset v) 10 read (exit 7 CALLN read)

-- CALLN: the next address is the value to store.
abbrev pub find_next : View → Exit
find_next v =
    let counter = v.grom.counter in
    exit (6 + one_if (at_first counter)) CALLS (record v {
      r = record v.r { r4 = shifted SLA counter 3; r9 = address_before counter };
      grom = read_once (read_once v.grom);
    })

-- Whether a word that is stored at an offset has the character's cell.
abbrev pub shows_at : ℕ → Bool
shows_at offset = not (nat_lt CHARACTER offset) && not (nat_lt offset (CHARACTER - 1))

-- CALLS: the pointer is stored, then the address, which may lie over the character's cell; and GROM goes on at the
-- target.
abbrev pub store_next : View → Exit
store_next v =
    let count = if nat_lt CHARACTER v.r.r7 then 9 else if nat_lt v.r.r7 (CHARACTER - 1) then 11 else 12 in
    let pointed = slice_set v.cells RETURN_STACK (low v.r.r7) in
    exit count SHOW (record v {
      r = record v.r { r13 = marked_by (shows_at v.r.r7) 0 };
      cells = slice_set (slice_set pointed v.r.r7 (high v.r.r9)) (v.r.r7 + 1) (low v.r.r9);
      grom = with_grom_address v.r.r14 v.grom;
    })

-- PUSHV: the pointer is stored, and the byte is to go to the stack, if there is room for it.
abbrev pub push_pointer : View → Exit
push_pointer v =
    let pointer = sum_of Word (pointer_at VALUE_STACK v) (join 1 0) in
    let grown = record v { r = record v.r { r7 = offset_of pointer; r12 = pointer } } in
    if_room 1 (offset_of pointer) 10 grown
    (exit 10 STO (record grown {
      r = record grown.r { r8 = 0 };
      cells = slice_set v.cells VALUE_STACK (high pointer);
    }))

-- FETCHV: the operand's place is kept, and WHERE is asked for the next address, if the word on the stack may be read.
abbrev pub keep_place : View → Exit
keep_place v =
    let found = record v { r = record v.r { r2 = return_offset v } } in
    if_room 2 (return_offset v) 7 found
    (exit 7 WHERE (record found { r = record found.r { r10 = v.r.r7; r11 = FETCHN; r15 = v.r.r8 } }))

-- FETCHN: that address is kept, and GROM is set to it again.
abbrev pub keep_next : View → Exit
keep_next v = exit 2 SEEK (record v { r = record v.r { r11 = FETCHP; r14 = v.r.r6 } })

-- FETCHP: LOAD is asked for the word on the stack.
abbrev pub request_stacked : View → Exit
request_stacked v = exit 4 LOAD (record v { r = record v.r { r3 = 2; r5 = 0; r7 = v.r.r2; r11 = FETCHA } })

-- FETCHA, FETCHR: GROM is set to that address, and the byte there is asked for.
abbrev pub seek_stacked : View → Exit
seek_stacked v = exit 1 SEEK (record v { r = record v.r { r11 = FETCHR } })

abbrev pub request_byte : View → Exit
request_byte v = exit 1 FETCH (record v { r = record v.r { r11 = FETCHK } })

-- FETCHK: the byte is kept, and WHERE is asked for the address after it.
abbrev pub keep_byte : View → Exit
keep_byte v = exit 2 WHERE (record v { r = record v.r { r11 = FETCHB; r12 = v.r.r6 } })

-- FETCHB: that address is the value to store, and GROM is set to it.
abbrev pub keep_stacked_next : View → Exit
keep_stacked_next v = exit 2 SEEK (record v { r = record v.r { r9 = v.r.r6; r11 = FETCHS } })

-- FETCHS: STORE is asked for that address, which goes to the stack.
abbrev pub store_stacked : View → Exit
store_stacked v = exit 2 STORE (record v { r = record v.r { r8 = 0; r11 = FETCHD } })

-- FETCHD: STORE is asked for the byte, which goes to the operand's place.
abbrev pub store_fetched : View → Exit
store_fetched v =
    exit 6 STORE (record v {
      r = record v.r { r3 = 1; r7 = v.r.r10; r8 = v.r.r15; r9 = v.r.r12; r11 = RESUME };
    })
