-- The length of MOVE, on views alone.
use Rattle.std.proofs.Common.{ℕ, ◌%◌, ◌+◌, ◌<◌, ◌==◌, ◌∙◌, ◌≡◌, ◌≤◌, ap, arith, false, Ok, refl, Result, subst, sym}
use Rattle.sim_rows.proofs.Common.{◌>>=◌, ADDR, after_code, code_byte, Exit, exit, Goes, GplState, grom_at, GSTOP}
use Rattle.sim_rows.proofs.Common.{is_turn_end, last_out, MOVEL, MOVEN, length_of, visible_when_found, next_at, number_of_space, operand_at, pick, Place}
use Rattle.sim_rows.proofs.Common.{place_in, place_is, place_found_visible, place_of, previous-next, Reason, shifted, space_small}
use Rattle.sim_rows.proofs.Common.{SRL, state_of, StoppedBy, value_at, value_same, View, visible_of, Word, word_at}
use Rattle.sim_rows.specs.sim_operands.Routines.{CanLoad, find_operand, go_on, load}
use Rattle.sim_rows.specs.sim_view.Prelude.{HoldsBytes}
use Rattle.sim_rows.proofs.sim_operands.Ends.{after, EndsBy, ends_within, gave, goes_after, goes_within, then_ends}
use Rattle.sim_rows.proofs.sim_operands.FoundPlaces.{operand_goes}
use Rattle.sim_rows.proofs.sim_operands.Routines.{load_goes, stream_goes}
use Rattle.sim_move.specs.Moves.{length_read}
use Rattle.sim_move.specs.Rows.{find_length, IsReady, load_count, load_placed}
use Rattle.sim_move.proofs.Numbers.{odd_bit}
use Rattle.sim_move.proofs.Seen.{LengthFound, operand_found, seen, dispatch_view}
use Rattle.sim_move.specs.Pieces as pieces

-- ---- what is asked for

-- ADDR is asked for the operand with the length
abbrev placed : View → View
placed v = record v { r = record v.r { r3 = 2; r4 = shifted SRL v.r.r0 1; r5 = 2; r11 = MOVEN; r13 = 0 } }

-- the length follows
abbrev following : View → View
following v = record v { r = record v.r { r3 = 2; r4 = shifted SRL v.r.r0 1; r5 = 2; r13 = 0 } }

-- The first piece never stops.
pub asks_on : (v : View) → is_turn_end (pieces.request_length v).to ≡ false
asks_on v = pick (last_out SRL v.r.r0 1) (λ a. rw a refl) (λ a. rw a refl)

-- ---- the length is loaded

-- from the bytes that follow

streams : (s : GplState) (at : ℕ) (u : View) →
    (let read = word_at s.image at in
    Goes (load_count (seen s at (record u { r = record u.r { r3 = 2; r5 = 2 } }))) 11 MOVEL (LengthFound s read.1 read.0))
streams s at u =
    let v = seen s at (record u { r = record u.r { r3 = 2; r5 = 2 } }) in
    let w = (pieces.load_length v).left in
    let read : ℕ → ℕ × ℕ = word_at s.image in
    let made : ℕ → View = λ n. record w { r = record w.r { r6 = (read n).0 }; grom = grom_at s.image (read n).1 } in
    let g = stream_goes w (omega arith) (ap (grom_at s.image) (sym (previous-next at))) in
    let is : (load w).left ≡ made at = g.holds ∙ ap made (previous-next at) in
    goes_after (pieces.load_length v) load 1 (omega arith) (record {
      within = g.within;
      to_is = g.to_is;
      holds = subst (LengthFound s (read at).1 (read at).0) (sym is) refl;
    })

-- from the place that was found
module _ (s : GplState) (place : Place) (next r4 r6 : ℕ) (u : View) where
  abbrev at_place : View
  at_place = seen s next (record u {
    r = record u.r { r2 = place.address; r3 = 2; r4 = r4; r5 = number_of_space place.space; r6 = r6 };
  })

  loads : place.address < 65536 → (number_of_space place.space ≡ 0 → place.address + 2 ≤ 0xC2) →
      Goes (load_count at_place) 16 MOVEL (LengthFound s next (value_at s Word place))
  loads fits visible =
      let w = (pieces.load_length at_place).left in
      let number : ℕ → View → View = λ n q. record q { r = record q.r { r6 = n } } in
      let g = load_goes w refl (space_small place.space (number_of_space place.space) refl) fits visible in
      let a = g.holds in
      let value : value_at (state_of w) Word (place_in (number_of_space place.space) place.address) ≡ value_at s Word place =
      ap (value_at (state_of w) Word) (place_is place) ∙ value_same (state_of w) s Word place refl refl in
      let by : ℕ → View = λ n. record w {
        r = record w.r { r4 = a.r4; r6 = n };
        vdp = record w.vdp { address = a.address; fetched = a.byte };
      } in
      let is : (load w).left ≡ by (value_at s Word place) = a.is ∙ ap by value in
      goes_after (pieces.load_length at_place) load 1 (omega arith) (record {
        within = g.within;
        to_is = g.to_is;
        holds = subst (LengthFound s next (value_at s Word place)) (sym is) refl;
      })

-- ---- the length is found

-- A word that was found is visible.
pub word_found : (v : View) → IsReady v → HoldsBytes 65536 v.grom.image → v.r.r3 ≡ 2 →
    ((find_operand v).to == GSTOP) ≡ false → CanLoad (find_operand v).left
word_found v ready bytes two on =
    let q = place_of (state_of v) v.r.r3 (operand_at v.grom.image (next_at v)).0 in
    let g = gave q (operand_goes v (next_at v) ready bytes (omega arith)) on in
    let p = g.2.holds in
    let visible = visible_when_found v.r.r3 q g.0 (place_found_visible (state_of v) v.r.r3 (operand_at v.grom.image (next_at v)).0) g.1 in
    visible_of g.0 v.r.r3 _ _ _ (ap (λ (w : View). w.r.r5) p.is) (ap (λ (w : View). w.r.r2) p.is)
    (ap (λ (w : View). w.r.r3) p.is) (omega arith) visible

-- LOAD keeps register 2.
kept_address : (e : Exit) → (go_on MOVEN e load_count).left.r.r2 ≡ e.left.r.r2
kept_address e = pick (e.to == MOVEN) (λ c. rw c refl) (λ c. rw c refl)

-- What a machine's register 2 holds is below 65,536: who has the machine pays this premise.
pub length_ends : (s : GplState) (u : View) → HoldsBytes 65536 s.image → (find_length (dispatch_view s u)).left.r.r2 < 65536 →
    EndsBy (find_length (dispatch_view s u)) 61 MOVEL (LengthFound s (length_read s).1) (StoppedBy s) (length_of s (length_read s).0)
unfolding find_length load_placed
length_ends s u bytes =
    let read = operand_at s.image (after_code s) in
    let v = dispatch_view s u in
    let q = placed v in
    let found = place_of s 2 read.0 in
    let value : Place → Result ℕ Reason = λ place. Ok (value_at s Word place) in
    pick (code_byte s % 2 == 1)
    (λ odd. rw (odd_bit (code_byte s), odd)
    (λ fits. record {
      by = goes_within (goes_after (exit 6 MOVEN (following v)) load_count 6 (omega arith)
          (streams s (after_code s) (following v))) (omega arith);
    }))
    (λ even. rw (odd_bit (code_byte s), even)
    (λ fits. ends_within (found >>= value) (after (exit 7 ADDR q) load_placed 7 (found >>= value) (omega arith)
    (then_ends MOVEN (find_operand q) load_count found value refl
    (operand_found s (after_code s) (placed v) bytes (omega arith))
    (λ place known p.
    let near : place.address < 65536 = let r2 = kept_address (find_operand q) in let is = ap (λ (w : View). w.r.r2) p.is in
    omega arith in
    record {
      by = subst (λ (w : View). Goes (load_count w) 16 MOVEL (LengthFound s read.1 (value_at s Word place))) (sym p.is)
          (loads s place read.1 p.r4 p.r6 (placed v) near (visible_when_found 2 found place (place_found_visible s 2 read.0) known));
    }))) (omega arith)))
