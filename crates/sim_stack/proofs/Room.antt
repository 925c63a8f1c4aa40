-- Room on a stack: the test of a piece is the definition's, on views alone.
use Rattle.std.proofs.Common.{◌+◌, ◌-◌, ◌<◌, ◌≡◌, ◌≤◌, ap, arith, Bool, Err, false, if◌then◌else◌, nat_le, nat_lt}
use Rattle.std.proofs.Common.{Ok, refl, Result, subst, sym, true, ℕ}
use Rattle.std.proofs.lemmas.Bool.{le-leb, lt-leb, ltb-true}
use Rattle.sim_rows.proofs.Common.{◌>>=◌, at_most, Changes, difference_of, Exit, goes_in, GplState, grown_by, GSTEP}
use Rattle.sim_rows.proofs.Common.{GSTOP, low, on_stack, pick, plus, Reason, SeesFinished, Stack}
use Rattle.sim_rows.proofs.Common.{StoppedBy, View, Word}
use Rattle.sim_stack.proofs.Common.{Ends, full, if_room, ShowsEnd}

-- ---- numbers

pub two_less : (byte : ℕ) → byte < 256 → low (difference_of Word byte 2) ≡ grown_by 254 byte
two_less byte h = omega arith

pub next_is : (top : ℕ) → top < 256 → plus top 1 ≡ top + 1
next_is top h = omega arith

-- ---- the test

abbrev stacked_by : ℕ → Bool → Result ℕ Reason
stacked_by top b = if b then Ok top else Err Stack

-- A row ends as its result says; no room on a stack is the only reason to stop.
abbrev pub EndsByRoom : Exit → ℕ → GplState → Result Changes Reason → Type 0
EndsByRoom e most s (Ok c) = Ends e most GSTEP (SeesFinished c)
EndsByRoom e most s (Err reason) = (reason ≡ Stack) × Ends e most GSTOP (StoppedBy s reason)

-- A row that begins with the test stops where the stack has no room for its bytes, and else makes its changes: what
-- follows the test adds nothing to a stop.
pub tests : (s : GplState) (bytes offset top count : ℕ) (v : View) (on : Exit) (f : Exit → Exit) (most : ℕ)
    (made : ℕ → Changes) → bytes ≤ 0xC2 → offset ≡ top → count ≤ most → ShowsEnd s v →
    f (full count v) ≡ full count v → (top + bytes ≤ 0xC2 → Ends (f on) most GSTEP (SeesFinished (made top))) →
    EndsByRoom (f (if_room bytes offset count v on)) most s (on_stack bytes top >>= λ n. Ok (made n))
unfolding if_room
tests s bytes offset top count v on f most made all is within ended stops next =
    let by : Result ℕ Reason → Type 0 =
    λ r. EndsByRoom (f (if_room bytes offset count v on)) most s (r >>= λ n. Ok (made n)) in
    pick (nat_lt (0xC2 - bytes) offset)
    (λ c. let above : 0xC2 - bytes < offset = ltb-true (0xC2 - bytes) offset c in
    let none : nat_le (top + bytes) 0xC2 ≡ false = lt-leb (top + bytes) 0xC2 (omega arith) in
    subst by (sym (ap (stacked_by top) none))
    (rw (c, stops) (
      refl,
      λ z. goes_in within (record {
        ended = record {
          cells = ended.cells;
          vdp = ended.vdp;
          registers = ended.registers;
          image = ended.image;
          address = ended.address;
        };
        reason_is = refl;
      }),
    )))
    (λ c. let below : offset ≤ 0xC2 - bytes = at_most (0xC2 - bytes) offset c in
    let some : nat_le (top + bytes) 0xC2 ≡ true = le-leb (top + bytes) 0xC2 (omega arith) in
    subst by (sym (ap (stacked_by top) some)) (rw c (next (omega arith))))
