-- CALL means the next address on the stack: on views alone.
use Rattle.std.proofs.Common.{◌+◌, ◌<◌, ◌==◌, ◌||◌, ◌∙◌, ◌≡◌, ◌≤◌, ap, arith, Bool, false, if◌then◌else◌, List, nat_lt}
use Rattle.std.proofs.Common.{refl, slice_index, slice_set, subst, sym, true, ℕ}
use Rattle.std.proofs.lemmas.Bool.{agree_below_at}
use Rattle.sim_rows.proofs.Common.{back_is, after_code, CALL, CALLN, CALLS, Changes, Dispatched, exit, Exit, GplState}
use Rattle.sim_rows.proofs.Common.{grom_at, grown_by, GSTEP, high, IsView, lost, low, marked_by, next_in_grom, plus}
use Rattle.sim_rows.proofs.Common.{SeesFinished, set_is, shifted, SLA, unchanged, View, with_cell, with_pc, with_word}
use Rattle.sim_rows.proofs.Common.{word_at as word_in_grom}
use Rattle.sim_stack.proofs.Dispatch.{dispatch_is, dispatch_view}
use Rattle.sim_jumps.proofs.NextAddress.{later_fits}
use Rattle.sim_stack.proofs.Room.{next_is, EndsByRoom, tests}
use Rattle.sim_stack.proofs.Common.{◌>>?◌, ◌>>◌, at_first, call_offset, call_on, called, end_row, Ends, ends_in, first, jump}
use Rattle.sim_stack.proofs.Common.{one_at_most, one_if, regroup, row_ends, shows_at}
use Rattle.sim_stack.specs.Pieces as pieces

-- ---- numbers

low_is : (byte : ℕ) → byte < 256 → low byte ≡ byte
low_is byte h = omega arith

twelve_at_most : (b c : Bool) → (if b then 9 else if c then 11 else 12) ≤ 12
twelve_at_most true c = omega arith
twelve_at_most false true = omega arith
twelve_at_most false false = omega arith

-- the word at an offset has the character's cell
abbrev shows_by : ℕ → Bool
shows_by top = (plus top 1 == 0x7D) || ((top == 0x7D) || false)

shows_is : (top : ℕ) → top < 256 → shows_at top ≡ shows_by top
shows_is top h = agree_below_at shows_at shows_by 256 top refl h

-- ---- the step

-- the target, and the address after the instruction
abbrev pub read_in : GplState → ℕ × ℕ
read_in s = word_in_grom s.image (after_code s)

abbrev pub beyond : GplState → GplState
beyond s = record s { pc = (read_in s).1 }

abbrev pub top_in : GplState → ℕ
top_in s = grown_by 2 (slice_index s.cells 0x73)

abbrev pub gone_to : GplState → ℕ → Changes
gone_to s top = with_pc (read_in s).0 (with_word top (read_in s).1 (with_cell 0x73 top (unchanged (beyond s))))

module _ (s : GplState) (u : View) where
  abbrev at : View
  at = dispatch_view s u

  abbrev next : ℕ
  next = (read_in s).1

  -- the pointer is in register 7, and the target in register 14
  abbrev read : ℕ → View
  read pointer = record at {
    r = record at.r { r7 = pointer; r14 = (read_in s).0 };
    grom = grom_at s.image next;
  }

  abbrev stored : List ℕ → ℕ → ℕ → List ℕ
  stored cells top second = slice_set (slice_set cells top (high next)) second (low next)

  goes_on : IsView at → top_in s < 256 → Ends (call_on (read (top_in s))) 47 GSTEP (SeesFinished (gone_to s (top_in s)))
  unfolding call_on
  goes_on i small =
      let top = top_in s in
      let fits : next < 65536 = later_fits (next_in_grom (after_code s)) i.grom.counter in
      let more = i.grom.image.fits (after_code s) in
      let less = i.grom.image.fits (next_in_grom (after_code s)) in
      let ends : View → Exit = λ w. pieces.store_next w >> end_row in
      let found : ℕ → Exit = λ n. exit (6 + one_if (at_first (next_in_grom next))) CALLS (record (read top) {
        r = record (read top).r { r4 = shifted SLA (next_in_grom next) 3; r9 = n };
        grom = lost s.image next;
      }) in
      let stores = pieces.store_next (found next).left in
      let one = one_at_most (at_first (next_in_grom next)) in
      let twelve = twelve_at_most (nat_lt 0x7D top) (nat_lt top 0x7C) in
      regroup (pieces.find_next (read top)) pieces.store_next end_row
      (subst (λ (n : ℕ). Ends (found n >> ends) 47 GSTEP (SeesFinished (gone_to s top))) (sym (back_is next fits))
      (ends_in (found next >> ends)
      (first (found next) ends
      (first stores end_row (row_ends (gone_to s top) stores.left (record {
        cells = ap (λ (n : ℕ). stored (slice_set s.cells 0x73 n) top (top + 1)) (low_is top small)
            ∙ ap (stored (slice_set s.cells 0x73 top) top) (sym (next_is top small));
        vdp = refl;
        registers = refl;
        held = refl;
        grom = set_is (lost s.image next) (read_in s).0 refl (omega arith);
        mark = ap (λ (b : Bool). marked_by b 0) (shows_is top small);
      }))))
      (omega arith)))

  turns : IsView at → EndsByRoom (called at) 54 s (jump CALL (read_in s).0 (unchanged (beyond s)))
  unfolding called
  turns i =
      let byte = i.cells 0x73 in
      let offset : call_offset at ≡ top_in s = omega arith in
      tests s 2 (call_offset at) (top_in s) 10 (read (call_offset at)) (exit 7 CALLN (read (call_offset at)))
      (λ e. e >>? call_on) 54 (gone_to s) (omega arith) offset (omega arith)
      (record { cells = refl; vdp = refl; registers = refl; image = refl; address = refl })
      refl
      (λ near. subst (λ (n : ℕ). Ends (exit 7 CALLN (read n) >> call_on) 54 GSTEP (SeesFinished (gone_to s (top_in s))))
      (sym offset) (first (exit 7 CALLN (read (top_in s))) call_on (goes_on i (omega arith))))

pub calls : (s : GplState) (v : View) → IsView v → Dispatched s v →
    EndsByRoom (called v) 54 s (jump CALL (read_in s).0 (unchanged (beyond s)))
calls s v i d =
    dispatch_is s v (λ w. EndsByRoom (called w) 54 s (jump CALL (read_in s).0 (unchanged (beyond s)))) i d (turns s v)
