-- FETCH means the byte at the return address, which goes on: on views alone.
use Rattle.std.proofs.Common.{◌+◌, ◌<◌, ◌∙◌, ◌≡◌, ◌≤◌, ap, arith, List, None, Ok, Option, refl, slice_index, Some}
use Rattle.std.proofs.Common.{subst, sym, ℕ}
use Rattle.sim_rows.proofs.Common.{high-join, AtRow, Byte, bytes_by, cells_at, Changes, Cpu, destination_bytes}
use Rattle.sim_rows.proofs.Common.{destination_visible, exit, Exit, FETCHB, FETCHN, gone_on, GplOperation, GplState}
use Rattle.sim_rows.proofs.Common.{grom_at, GromState, GSTEP, IsView, join, loaded_of, next_in_grom, next_of}
use Rattle.sim_rows.proofs.Common.{number_of_space, One, operands_of, operation_in, past, Place, place_in}
use Rattle.sim_rows.proofs.Common.{reads_destination, row_result, row_width, SeesFinished, set_is, ShowsChanges}
use Rattle.sim_rows.proofs.Common.{size_of, Source, Space, state_of, Storing, unchanged, value_at, value_keeps, Vdp}
use Rattle.sim_rows.proofs.Common.{View, WHERE, Width, with_byte, with_byte_from, with_byte_in, with_grom_address}
use Rattle.sim_rows.proofs.Common.{with_pc, with_value, with_word, Word, word_in}
use Rattle.sim_rows.specs.gpl_defs.declared.instruction.OneName.TheVariants.{FETCH}
use Rattle.sim_rows.specs.gpl_step_defs.Place.{word_at}
use Rattle.sim_jumps.proofs.NextAddress.{later_fits, next_fits}
use Rattle.sim_stack.proofs.NextAddress.{aside, aside_first, located, located_first}
use Rattle.sim_stack.proofs.Room.{next_is, EndsByRoom, tests}
use Rattle.sim_stack.proofs.Common.{◌>>?◌, ◌>>◌, request_store_first, end_fetch, Ends, fetch_on, fetch_stacked, fetched, first}
use Rattle.sim_stack.proofs.Common.{load, load_first, load_stacked, locate_stacked, regroup, resume_row, return_offset}
use Rattle.sim_stack.proofs.Common.{row_is, row_resumes, row_view, seen_with, set_aside, store, store_first}
use Rattle.sim_stack.specs.Pieces as pieces

-- ---- the word on the stack

-- a word of the stack is loaded
abbrev pub stacked : View → (word r4 address byte : ℕ) → View
stacked v word r4 address byte =
    let w = (pieces.request_stacked v).left in
    record w { r = record w.r { r4 = r4; r6 = word }; vdp = record w.vdp { address = address; fetched = byte } }

stacked_first : (v : View) (top : ℕ) (f : View → Exit) {b to : ℕ} {R : View → Type 0} → v.vdp.held ≡ None →
    v.r.r2 ≡ top → top ≤ 0xC0 →
    ((r4 address byte : ℕ) → Ends (f (stacked v (word_in v.cells top) r4 address byte)) b to R) →
    Ends (load_stacked v >> f) (4 + (15 + b)) to R
stacked_first v top f {b = b} {to = to} {R = R} held at near next =
    let asked = pieces.request_stacked v in
    let word : value_at (state_of asked.left) Word (place_in 0 v.r.r2) ≡ word_in v.cells top =
    ap (λ (n : ℕ). value_at (state_of asked.left) Word (place_in 0 n)) at
    ∙ ap (λ (n : ℕ). join (slice_index v.cells top) (slice_index v.cells n)) (next_is top (omega arith)) in
    regroup asked load f
    (first asked (λ w. load w >> f)
    (load_first asked.left f held (omega arith) (omega arith) (λ z. omega arith)
    (λ r4 address byte.
    subst (λ (n : ℕ). Ends (f (stacked v n r4 address byte)) b to R) (sym word) (next r4 address byte))))

-- ---- the byte there

abbrev pub fetched_at : View → List ℕ → ℕ → View
fetched_at v image at =
    let byte = join (slice_index image at) 0 in
    record v { r = record v.r { r6 = byte; r11 = FETCHB; r12 = byte }; grom = grom_at image (next_in_grom at) }

fetched_first : (v : View) (image : List ℕ) (before : ℕ) (f : View → Exit) {b to : ℕ} {R : View → Type 0} →
    v.grom ≡ grom_at image before → v.r.r6 < 65536 → Ends (f (fetched_at v image v.r.r6)) b to R →
    Ends (fetch_stacked v >> f) (10 + b) to R
fetched_first v image before f {b = b} {to = to} {R = R} grom fits next =
    let by : GromState → Exit = λ g. exit 10 WHERE (record v {
      r = record v.r { r6 = join g.fetched 0; r11 = FETCHB; r12 = join g.fetched 0 };
      grom = past g;
    }) in
    let set : with_grom_address v.r.r6 v.grom ≡ grom_at image v.r.r6 =
    ap (with_grom_address v.r.r6) grom ∙ set_is (grom_at image before) v.r.r6 refl fits in
    subst (λ (g : GromState). Ends (by g >> f) (10 + b) to R) (sym set)
    (first (by (grom_at image v.r.r6)) f next)

-- ---- from FETCHS on

-- where GROM is does not matter to a store
pc_aside : (space : Space) (address byte next : ℕ) (c : Changes) →
    with_byte_in space address byte (with_pc next c) ≡ with_pc next (with_byte_in space address byte c)
pc_aside Cpu address byte next c = refl
pc_aside Vdp address byte next c = refl

-- At FETCHS: the top of the stack is in register 7, the address to store there in register 9, the byte in register 12,
-- its place in registers 10 and 15, and where GROM goes on in register 14.
abbrev fetching : GplState → Place → (offset next byte : ℕ) → View → View
fetching s place offset next byte v = record v {
  r = record v.r {
    r3 = 2;
    r7 = offset;
    r9 = next;
    r10 = place.address;
    r12 = join byte 0;
    r13 = 0;
    r14 = s.pc;
    r15 = number_of_space place.space;
  };
  cells = s.cells;
  vdp = record v.vdp { memory = s.vdp; registers = s.registers; held = None };
  grom = grom_at s.image next;
}

module _ (s : GplState) (place : Place) (top next byte : ℕ) where
  abbrev base : Changes
  base = with_pc next (unchanged s)

  abbrev between : Changes
  between = with_value Word (cells_at top) next base

  abbrev together : Changes
  together = with_word top next (unchanged s)

  abbrev after : Changes
  after = with_byte place byte together

  fetch_ends : (offset : ℕ) (v : View) → offset ≡ top → top ≤ 0xC0 → place.address < 65536 → s.pc < 65536 →
      (number_of_space place.space ≡ 0 → place.address + 1 ≤ 0xC2) →
      Ends (end_fetch (fetching s place offset next byte v)) 69 GSTEP (SeesFinished after)
  unfolding end_fetch
  fetch_ends offset v at near fits back visible =
      let asked = pieces.store_stacked (fetching s place offset next byte v) in
      let word : Storing base Word (cells_at top) next asked.left = record {
        changed = record { cells = refl; vdp = refl; registers = refl; held = refl; grom = refl; mark = refl };
        bytes_are = refl;
        to_place = record { address = at; space = refl };
        value = refl;
      } in
      regroup (asked >> store >> pieces.store_fetched) store resume_row
      (request_store_first asked pieces.store_fetched (λ w. store w >> resume_row) word (omega arith) (λ z. omega arith)
      (λ r4 address read.
      let second = pieces.store_fetched (seen_with between asked.left r4 address read) in
      let stores : Storing between Byte place byte second.left = record {
        changed = record { cells = refl; vdp = refl; registers = refl; held = refl; grom = refl; mark = refl };
        bytes_are = refl;
        to_place = record { address = refl; space = refl };
        value = high-join byte 0;
      } in
      first second (λ w. store w >> resume_row)
      (store_first resume_row stores fits visible
      (λ r4 address read.
      let left = seen_with (with_value Byte place byte between) second.left r4 address read in
      let seen : ShowsChanges (with_pc next after) left =
      subst (λ (c : Changes). ShowsChanges c left) (pc_aside place.space place.address byte next together)
      (record { cells = refl; vdp = refl; registers = refl; held = refl; grom = refl; mark = refl }) in
      row_resumes after next left seen (sym (value_keeps Byte place byte together).1) back))))

-- ---- the row

abbrev pub top_in : GplState → ℕ
top_in s = slice_index s.cells 0x73

module _ (s : GplState) (place : Place) (source loaded_value : ℕ) (width : Width) (u : View) where
  abbrev at : View
  at = row_view s place source loaded_value width u

  abbrev word : ℕ
  word = word_at s (top_in s)

  -- the offset of the top is found, and the operand's place is kept
  abbrev found : View
  found = record at { r = record at.r { r2 = return_offset at } }

  abbrev placed : View
  placed = record found { r = record found.r { r10 = at.r.r7; r11 = FETCHN; r15 = at.r.r8 } }

  -- there is room on the stack
  goes_on : IsView at → return_offset at ≡ top_in s → top_in s ≤ 0xC0 →
      (number_of_space place.space ≡ 0 → place.address + 1 ≤ 0xC2) →
      Ends (exit 7 WHERE placed >> fetch_on) 131 GSTEP
      (SeesFinished (with_byte_from word (top_in s) place (unchanged (gone_on s))))
  unfolding fetch_on
  goes_on i offset near visible =
      let here : next_of s < 65536 = next_fits (next_of s) i.grom.counter in
      let more = i.cells (top_in s) in
      let less = i.cells (top_in s + 1) in
      let read_fits : word < 65536 = omega arith in
      let v1 = aside placed s.image (next_of s) in
      let onward_2 : View → Exit = λ w. fetch_stacked w >> (λ q. locate_stacked q >> end_fetch) in
      let onward : View → Exit = λ w. load_stacked w >> onward_2 in
      first (exit 7 WHERE placed) fetch_on
      (regroup (set_aside placed >> load_stacked >> fetch_stacked) locate_stacked end_fetch
      (regroup (set_aside placed >> load_stacked) fetch_stacked (λ w. locate_stacked w >> end_fetch)
      (regroup (set_aside placed) load_stacked onward_2
      (aside_first placed s.image (next_of s) onward here
      (stacked_first v1 (top_in s) onward_2 refl offset near
      (λ r4 address byte. let v2 = stacked v1 word r4 address byte in
      fetched_first v2 s.image (next_of s) (λ q. locate_stacked q >> end_fetch) refl read_fits
      (let v3 = fetched_at v2 s.image word in
      located_first v3 s.image (next_in_grom word) end_fetch (later_fits word read_fits)
      (fetch_ends (gone_on s) place (top_in s) (next_in_grom word) (slice_index s.image word) (return_offset at)
      (located v3 s.image (next_in_grom word)) offset near (i.r 7) here visible))))))))

  turns : (place_source : Source) → IsView at → u.r.r1 ≡ s.pc →
      (number_of_space place.space ≡ 0 → place.address + 1 ≤ 0xC2) →
      EndsByRoom (fetched at) 131 s (row_result (One FETCH) s place place_source)
  unfolding fetched
  turns place_source i address visible =
      let byte = i.cells 0x73 in
      let offset : return_offset at ≡ top_in s = omega arith in
      tests s 2 (return_offset at) (top_in s) 7 found (exit 7 WHERE placed) (λ e. e >>? fetch_on) 131
      (λ top. with_byte_from (word_at s top) top place (unchanged (gone_on s))) (omega arith) offset (omega arith)
      (record { cells = refl; vdp = refl; registers = refl; image = refl; address = address }) refl
      (λ near. goes_on i offset (omega arith) visible)

pub fetches : (s : GplState) (place : Place) (source : Source) (v : View) → IsView v →
    operation_in s ≡ Some (One FETCH) → AtRow s place source v → operands_of s ≡ Ok (place, source) →
    row_width s ≡ Byte → EndsByRoom (fetched v) 131 s (row_result (One FETCH) s place source)
fetches s place source v i is row operands narrow =
    let e = row_is s place source v (ap reads_destination is) row in
    let bytes : destination_bytes s ≡ 1 =
    ap (λ (o : Option GplOperation). bytes_by o (row_width s)) is ∙ ap size_of narrow in
    let visible : number_of_space place.space ≡ 0 → place.address + 1 ≤ 0xC2 =
    λ z. subst (λ (n : ℕ). place.address + n ≤ 0xC2) bytes (destination_visible s place source operands z) in
    subst (λ (w : View). EndsByRoom (fetched w) 131 s (row_result (One FETCH) s place source)) (sym e)
    (turns s place source.number (loaded_of s place) (row_width s) v source
    (subst IsView e i) row.holds.address visible)
