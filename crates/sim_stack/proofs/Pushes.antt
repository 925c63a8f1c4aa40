-- PUSH means the byte on the data stack: on views alone.
use Rattle.std.proofs.Common.{◌<◌, ◌∙◌, ◌≡◌, ◌≤◌, ap, arith, List, Ok, Option, refl, slice_index, slice_set, Some}
use Rattle.std.proofs.Common.{subst, sym, ℕ}
use Rattle.sim_rows.proofs.Common.{high-join, ◌>>=◌, AtRow, Byte, bytes_by, cells_at, Changes, destination_bytes, exit, gone_on}
use Rattle.sim_rows.proofs.Common.{GplOperation, GplState, grown_by, GSTEP, high, in_register, IsView, loaded_of}
use Rattle.sim_rows.proofs.Common.{on_stack, One, operation_in, Place, PUSH, reads_destination, row_result, row_width}
use Rattle.sim_rows.proofs.Common.{SeesFinished, size_of, Source, STO, Storing, sum_of, unchanged, value_at, View}
use Rattle.sim_rows.proofs.Common.{Width, width_in, with_cell, Word}
use Rattle.sim_stack.proofs.Room.{EndsByRoom, tests}
use Rattle.sim_stack.proofs.Common.{◌>>?◌, ◌>>◌, Ends, ends_in, finish_row, first, offset_of, pointer_at, pushed, row_finishes}
use Rattle.sim_stack.proofs.Common.{row_is, row_view}

abbrev pub top_in : GplState → ℕ
top_in s = grown_by 1 (slice_index s.cells 0x72)

module _ (s : GplState) (place : Place) (source loaded byte : ℕ) (value : high loaded ≡ byte) (u : View) where
  abbrev at : View
  at = row_view s place source loaded Byte u

  abbrev before : Changes
  before = with_cell 0x72 (top_in s) (unchanged (gone_on s))

  -- the pointer is made, and its offset found; it is stored, and STO is asked for the byte
  abbrev pointer : ℕ
  pointer = sum_of Word (pointer_at 0x72 at) 0x0100

  abbrev grown : View
  grown = record at { r = record at.r { r7 = offset_of pointer; r12 = pointer } }

  abbrev pointed : View
  pointed = record grown { r = record grown.r { r8 = 0 }; cells = slice_set s.cells 0x72 (high pointer) }

  -- there is room on the stack
  goes_on : slice_index s.cells 0x72 < 256 → offset_of pointer ≡ top_in s → top_in s ≤ 0xC1 →
      Ends (exit 10 STO pointed >> finish_row) 131 GSTEP (SeesFinished (with_cell (top_in s) byte before))
  goes_on small offset near =
      let stores : Storing before Byte (cells_at (top_in s)) byte pointed = record {
        changed = record {
          cells = ap (slice_set s.cells 0x72) (omega arith);
          vdp = refl;
          registers = refl;
          held = refl;
          grom = refl;
          mark = refl;
        };
        bytes_are = refl;
        to_place = record { address = offset; space = refl };
        value = value;
      } in
      ends_in (exit 10 STO pointed >> finish_row)
      (first (exit 10 STO pointed) finish_row (row_finishes stores (omega arith) (λ z. omega arith)))
      (omega arith)

  pub turns : slice_index s.cells 0x72 < 256 → u.r.r1 ≡ s.pc →
      EndsByRoom (pushed at) 131 s
      (on_stack 1 (top_in s) >>= λ top. Ok (with_cell top byte (with_cell 0x72 top (unchanged (gone_on s)))))
  unfolding pushed
  turns small address =
      let offset : offset_of pointer ≡ top_in s = omega arith in
      tests s 1 (offset_of pointer) (top_in s) 10 grown (exit 10 STO pointed) (λ e. e >>? finish_row) 131
      (λ top. with_cell top byte (with_cell 0x72 top (unchanged (gone_on s)))) (omega arith) offset (omega arith)
      (record { cells = refl; vdp = refl; registers = refl; image = refl; address = address }) refl
      (λ near. goes_on small offset (omega arith))

pub pushes : (s : GplState) (place : Place) (source : Source) (v : View) → IsView v → operation_in s ≡ Some (One PUSH) →
    AtRow s place source v → row_width s ≡ Byte →
    EndsByRoom (pushed v) 131 s (row_result (One PUSH) s place source)
pushes s place source v i is row narrow =
    let byte = value_at s (row_width s) place in
    let bytes : width_in (destination_bytes s) ≡ Byte =
    ap (λ (o : Option GplOperation). width_in (bytes_by o (row_width s))) is ∙ ap
    (λ (w : Width). width_in (size_of w)) narrow in
    let value : high (loaded_of s place) ≡ byte =
    ap (λ (w : Width). high (in_register w (value_at s w place))) bytes
    ∙ high-join (value_at s Byte place) 0 ∙ ap (λ (w : Width). value_at s w place) (sym narrow) in
    let e : v ≡ row_view s place source.number (loaded_of s place) Byte v =
    row_is s place source v (ap reads_destination is) row
    ∙ ap (λ (w : Width). row_view s place source.number (loaded_of s place) w v) narrow in
    let small : slice_index s.cells 0x72 < 256 =
    subst (λ (l : List ℕ). slice_index l 0x72 < 256) row.holds.sees.cells (i.cells 0x72) in
    subst (λ (w : View). EndsByRoom (pushed w) 131 s (row_result (One PUSH) s place source)) (sym e)
    (turns s place source.number (loaded_of s place) byte value v small row.holds.address)
