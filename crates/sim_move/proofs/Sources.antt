-- A source in GROM, on views alone.
use Rattle.std.proofs.Common.{ℕ, ◌%◌, ◌+◌, ◌/◌, ◌<◌, ◌==◌, ◌≡◌, ap, arith, Bool, Err, false, List, nat_lt, Ok, Option, refl, Result, subst, sym}
use Rattle.sim_rows.proofs.Common.{◌>>=◌, Addressed, Answers, ASPACE, Cell, code_byte, conjunction_of, Exit, exit, Goes, GplState, grom_at, GromState}
use Rattle.sim_rows.proofs.Common.{GSTOP, INDEX, index_by, index_read, indexed, last_out, MOVEB, MOVEK, MOVEX, next_in_grom, OperandStop, pick}
use Rattle.sim_rows.proofs.Common.{Place, Placed, range_read, ranged, Reason, return_of, shifted, SLA, space_of, SRL}
use Rattle.sim_rows.proofs.Common.{StoppedBy, To, Vdp, View, word_at}
use Rattle.sim_rows.proofs.StepStart.{one_at_most}
use Rattle.sim_rows.specs.Pieces.{at_first}
use Rattle.sim_rows.specs.sim_operands.Pieces.{one_if}
use Rattle.sim_rows.specs.sim_view.Routines.{◌>>◌}
use Rattle.sim_rows.specs.sim_operands.Routines.{check_index}
use Rattle.sim_rows.proofs.sim_operands.Ends.{after, answered, ends_as, EndsBy, then_ends}
use Rattle.sim_move.specs.Rows.{index_source, turn_to_source}
use Rattle.sim_jumps.proofs.NextAddress.{seeks}
use Rattle.sim_move.proofs.Numbers.{form_by, form_fits, form_index, form_is, form_odd, form_space}
use Rattle.sim_move.proofs.Seen.{halted, seen, SourceFound, stood}
use Rattle.sim_rows.specs.sim_operands.Pieces as operands
use Rattle.sim_move.specs.Pieces as pieces

-- ---- the address with its index

-- In video memory INDEX and ASPACE return, or stop at the index.
returns_by : (w : View) → conjunction_of w.r.r5 1 ≡ 1 → ((check_index w).to == GSTOP) ≡ false → (check_index w).to ≡ return_of w
unfolding check_index
returns_by w video =
    pick (last_out SRL w.r.r5 2)
    (λ a. pick (nat_lt 0xC0 w.grom.fetched) (λ b. rw (a, b) (λ on. absurd (cc))) (λ b. rw (a, b, video) (λ on. refl)))
    (λ a. rw (a, video) (λ on. refl))

pub source_returns : (v : View) → ((index_source v).to == GSTOP) ≡ false → (index_source v).to ≡ MOVEX
source_returns v on =
    returns_by (pieces.request_index (operands.stream (pieces.request_source v).left).left).left (form_odd v.r.r0) on

module _ (s : GplState) (next : ℕ) (found : ℕ × To) (u : View) (fits : code_byte s < 256) where
  abbrev at_source : View
  at_source = seen s next (stood found u)

  abbrev read : ℕ × ℕ
  read = word_at s.image next

  abbrev form : ℕ
  form = form_by (code_byte s)

  -- INDEX is asked, by the form in register 5
  abbrev asked : ℕ → View
  asked n = seen s read.1 (stood found (record u { r = record u.r { r2 = read.0; r3 = 2; r5 = n; r6 = read.0; r11 = MOVEX } }))

  abbrev index : Option ℕ × ℕ
  index = index_by (form / 64 % 2 == 1) s.image read.1

  -- a place in video memory is there
  ranges : (address : ℕ) (w : View) → Placed (asked (form / 32)) index.1 (record { space = Vdp; address = address }) w →
      SourceFound s index.1 found address w
  ranges address w p = subst (SourceFound s index.1 found address) (sym p.is) refl

  ranged_in_video : (address : ℕ) → ranged 2 (space_of (form / 32 % 2 == 1)) address ≡ Ok (record { space = Vdp; address = address })
  ranged_in_video address = ap (λ (b : Bool). ranged 2 (space_of b) address) (form_space (code_byte s))

  checks : EndsBy (check_index (asked (form / 32))) 19 MOVEX (SourceFound s index.1 found) (StoppedBy s)
      (indexed s index.0 read.0 >>= Ok)
  unfolding check_index
  checks =
      let w = asked (form / 32) in
      let q = indexed s index.0 read.0 in
      then_ends ASPACE (operands.index w) operands.range q Ok refl
      (ends_as q (answered (operands.index w) 8 10 ASPACE (λ address. Addressed w address (form / 32) index.1) (OperandStop w) q (omega arith)
      (index_read w w read.0 form read.1 (form_fits (code_byte s)) (record { r4 = w.r.r4; r6 = w.r.r6; is = refl })))
      (λ reason q a. subst (StoppedBy s reason) (sym a.is) (halted s a.next reason
      (record w { r = record w.r { r2 = a.r2; r4 = a.r4; r5 = a.r5; r6 = a.r6 } }))))
      (λ address known p.
      let at = (operands.index w).left in
      let all = range_read w at address form index.1 (form_fits (code_byte s)) (omega arith) p in
      let P : Result Place Reason → Type 0 = λ q. Answers q (λ place. Goes (operands.range at) 9 MOVEX (Placed w index.1 place))
      (Goes (operands.range at) 9 GSTOP (OperandStop w Cell)) in
      let g = subst P (ranged_in_video address) all in
      record { by = record { within = g.within; to_is = g.to_is; holds = ranges address (operands.range at).left g.holds } })

  given_back : (r : Result ℕ Reason) → (r >>= Ok) ≡ r
  given_back (Ok n) = refl
  given_back (Err reason) = refl

  -- by whether the code byte has an index
  abbrev Indexed : Bool → Type 0
  Indexed b = let found_index = index_by b s.image read.1 in
      EndsBy (index_source at_source) 32 MOVEX (SourceFound s found_index.1 found) (StoppedBy s) (indexed s found_index.0 read.0)

  pub source_ends : Indexed (code_byte s / 2 % 2 == 1)
  source_ends =
      let q = indexed s index.0 read.0 in
      let by : ℕ → Type 0 = λ n. EndsBy (exit 13 INDEX (asked n) >> check_index) 32 MOVEX (SourceFound s index.1 found) (StoppedBy s) q in
      subst Indexed (form_index (code_byte s)) (subst by (sym (form_is (code_byte s) fits))
      (after (exit 13 INDEX (asked (form / 32))) check_index 13 q (omega arith)
      (subst (λ (r : Result ℕ Reason). EndsBy (check_index (asked (form / 32))) 19 MOVEX (SourceFound s index.1 found) (StoppedBy s) r)
      (given_back q) checks)))

-- ---- GROM at the source

-- Register 14 is where GROM goes on after MOVE, and GROM gives the byte at the source next.
abbrev pub turned : View → List ℕ → ℕ → View
turned v image at = record v {
  r = record v.r { r4 = shifted SLA (next_in_grom at) 3; r5 = 2; r6 = v.r.r2; r11 = MOVEK; r14 = at };
  grom = grom_at image v.r.r2;
}

pub turns : (v : View) (image : List ℕ) (at : ℕ) → at < 65536 → v.r.r2 < 65536 →
    Goes (turn_to_source (record v { grom = grom_at image at })) 17 MOVEB (λ w. w ≡ turned v image at)
turns v image at fits near =
    let one = one_at_most (at_first (next_in_grom at)) in
    let by : ℕ → GromState → Exit = λ n g. exit (1 + (7 + one_if (at_first (next_in_grom at))) + 3 + 3 + 2) MOVEB
    (record (turned v image at) { r = record (turned v image at).r { r14 = n }; grom = g }) in
    subst (λ (e : Exit). Goes e 17 MOVEB (λ w. w ≡ turned v image at)) (sym (seeks image at (λ n. v.r.r2) by fits near))
    (record { within = omega arith; to_is = refl; holds = refl })
