-- What a comparison decides, and how it ends.
use Rattle.std.proofs.Common.{ℕ, ◌+◌, ◌<◌, ◌==◌, ◌∙◌, ◌≡◌, ◌≤◌, ap, arith, bit_and, Bool, false, int_le, int_lt, List, nat_le, nat_lt, not, Ok, Option, refl, slice_index}
use Rattle.std.proofs.Common.{slice_set, Some, subst, sym, true}
use Rattle.sim_rows.proofs.Common.{Byte, bytes_by, CEQ, CGE, CGT, CH, CHE, CLOG, ReachesWithin, comes, comes_then, CTRUE, CZ, Exits, Goes, goes_in, gone_on}
use Rattle.sim_rows.proofs.Common.{GplOperation, GplState, GSTEP, in_register, is_turn_end, IsView, loaded_of, MachineState, modulus, next_of, One, ones_cleared}
use Rattle.sim_rows.proofs.Common.{ones_set, operation_in, Place, reads_destination, row_result, row_width, RunsRow, ShowsState, SeesFinished, SeesResult, signed}
use Rattle.sim_rows.proofs.Common.{Source, ST, IsAt, Two, unchanged, value_at, View, view, Width, width_in, with_condition, Word}
use Rattle.sim_compare.specs.Pieces.{end_of, decided}
use Rattle.sim_compare.specs.Family.{comparison, ending, is_comparison, IsDecided}
use Rattle.sim_compare.proofs.Numbers.{at_most, at_most_signed, below_in_register, equal_in_register, number_fits, ones_in_register, order_in_register}
use Rattle.sim_compare.proofs.Numbers.{zero_in_register}

-- What a comparison gives of a destination and a source.
abbrev pub compared : GplOperation → Width → ℕ → ℕ → Bool
compared (One CZ) width x y = x == 0
compared (Two CH) width x y = nat_lt y x
compared (Two CHE) width x y = nat_le y x
compared (Two CGT) width x y = int_lt (signed width y) (signed width x)
compared (Two CGE) width x y = int_le (signed width y) (signed width x)
compared (Two CEQ) width x y = x == y
compared (Two CLOG) width x y = bit_and x y == 0
compared operation width x y = false

-- ---- the two ends

pub decided_goes : (held failed most : ℕ) (b : Bool) {Q : View → Type 0} (w : View) → held ≤ most → failed ≤ most → Q w →
    Goes (decided held failed b w) most (end_of b) Q
decided_goes held failed most true w h k q = record { within = h; to_is = refl; holds = q }
decided_goes held failed most false w h k q = record { within = k; to_is = refl; holds = q }

at_end : (b : Bool) → (end_of b == CTRUE) ≡ b
at_end true = refl
at_end false = refl

pub goes_on : (b : Bool) → is_turn_end (end_of b) ≡ false
goes_on true = refl
goes_on false = refl

which_end : (x : MachineState) (b : Bool) → IsAt x (end_of b) → (x.cpu.pc == CTRUE) ≡ b
which_end x b is_at = ap (λ (p : ℕ). p == CTRUE) is_at.pc ∙ at_end b

pub is_decided : (x : MachineState) (b : Bool) → IsAt x (end_of b) → IsDecided x
is_decided x b is_at = subst (λ (c : Bool). IsAt x (end_of c)) (sym (which_end x b is_at)) is_at

abbrev status_set : (ℕ → ℕ) → List ℕ → List ℕ
status_set f cells = slice_set cells 0x7C (f (slice_index cells 0x7C))

ends_with : (s : GplState) (next : ℕ) (b : Bool) (w : View) → ShowsState s next w → Goes (ending b w) 3 GSTEP
    (SeesFinished (with_condition b (unchanged (record s { pc = next }))))
ends_with s next true w h = goes_in (omega arith)
    (record { cells = ap (status_set (λ n. ones_set n 0x20)) h.cells; vdp = h.vdp; registers = h.registers; held = h.held; grom = h.grom })
ends_with s next false w h = goes_in (omega arith)
    (record { cells = ap (status_set (λ n. ones_cleared Byte n 0x20)) h.cells; vdp = h.vdp; registers = h.registers; held = h.held; grom = h.grom })

-- From what is decided to the end of the step.
pub decides : (most : ℕ) (s : GplState) (next : ℕ) (b : Bool) {x a y : MachineState} {t u v : ℕ} → ReachesWithin most x a t u (end_of b) (ShowsState s next) →
    Exits a y u v (ending (a.cpu.pc == CTRUE) (view a)) → ReachesWithin (most + 3) x y t v GSTEP (SeesFinished (with_condition b (unchanged (record s { pc = next }))))
decides most s next b {x = x} {a = a} {y = y} {t = t} {u = u} {v = v} c e =
    let Q : Bool → Type 0 = λ h. Exits a y u v (ending h (view a)) in
    comes_then most 3 c (subst Q (which_end a b c.is_at) e) (ends_with s next b (view a) c.holds) (goes_on b)

-- ---- the comparisons

abbrev flag : GplOperation → View → Bool
flag (One CZ) v = v.r.r9 == 0
flag (Two CH) v = nat_lt v.r.r6 v.r.r9
flag (Two CHE) v = not (nat_lt v.r.r9 v.r.r6)
flag (Two CGT) v = int_lt (signed Word v.r.r6) (signed Word v.r.r9)
flag (Two CGE) v = not (int_lt (signed Word v.r.r9) (signed Word v.r.r6))
flag (Two CEQ) v = v.r.r9 == v.r.r6
flag (Two CLOG) v = bit_and v.r.r6 v.r.r9 == 0
flag operation v = false

pub compares : (op : GplOperation) → is_comparison (Some op) ≡ true → (v : View) → Goes (comparison op v) 3 (end_of (flag op v)) (λ u. u ≡ v)
compares (One CZ) e v = decided_goes 2 3 3 (v.r.r9 == 0) v (omega arith) (omega arith) refl
compares (Two CH) e v = decided_goes 2 3 3 (nat_lt v.r.r6 v.r.r9) v (omega arith) (omega arith) refl
compares (Two CHE) e v = decided_goes 2 3 3 (not (nat_lt v.r.r9 v.r.r6)) v (omega arith) (omega arith) refl
compares (Two CGT) e v = decided_goes 2 3 3 (int_lt (signed Word v.r.r6) (signed Word v.r.r9)) v (omega arith) (omega arith) refl
compares (Two CGE) e v = decided_goes 3 2 3 (not (int_lt (signed Word v.r.r9) (signed Word v.r.r6))) v (omega arith) (omega arith) refl
compares (Two CEQ) e v = decided_goes 2 3 3 (v.r.r9 == v.r.r6) v (omega arith) (omega arith) refl
compares (Two CLOG) e v = decided_goes 2 3 3 (bit_and v.r.r6 v.r.r9 == 0) v (omega arith) (omega arith) refl
compares _ e v = absurd (cc)

-- the words of two registers are compared as the numbers in them
flag_is : (op : GplOperation) → is_comparison (Some op) ≡ true → (v : View) (width : Width) (x y : ℕ) → v.r.r9 ≡ in_register width x →
    v.r.r6 ≡ in_register width y → x < modulus width → y < modulus width →
    flag op v ≡ compared op width x y
flag_is (One CZ) e v width x y a b h k = ap (λ (n : ℕ). n == 0) a ∙ zero_in_register width x
flag_is (Two CH) e v width x y a b h k = rw (a, b) (below_in_register width y x)
flag_is (Two CHE) e v width x y a b h k = rw (a, b, below_in_register width x y) (at_most x y)
flag_is (Two CGT) e v width x y a b h k = rw (a, b) (order_in_register width y x k h)
flag_is (Two CGE) e v width x y a b h k = rw (a, b, order_in_register width x y h k) (at_most_signed (signed width x) (signed width y))
flag_is (Two CEQ) e v width x y a b h k = rw (a, b) (equal_in_register width x y)
flag_is (Two CLOG) e v width x y a b h k = rw (a, b) (ones_in_register width x y)
flag_is _ e v width x y a b h k = absurd (cc)

-- the condition is what a comparison changes
result_is : (op : GplOperation) → is_comparison (Some op) ≡ true → (s : GplState) (place : Place) (source : Source) →
    row_result op s place source ≡ Ok (with_condition (compared op (row_width s) (value_at s (row_width s) place) source.number) (unchanged (gone_on s)))
result_is (One CZ) e s place source = refl
result_is (Two CH) e s place source = refl
result_is (Two CHE) e s place source = refl
result_is (Two CGT) e s place source = refl
result_is (Two CGE) e s place source = refl
result_is (Two CEQ) e s place source = refl
result_is (Two CLOG) e s place source = refl
result_is _ e s place source = absurd (cc)

-- the destination is as wide as the source
sized : (op : GplOperation) → is_comparison (Some op) ≡ true → (width : Width) → width_in (bytes_by (Some op) width) ≡ width
sized (One CZ) e Byte = refl
sized (One CZ) e Word = refl
sized (Two CH) e Byte = refl
sized (Two CH) e Word = refl
sized (Two CHE) e Byte = refl
sized (Two CHE) e Word = refl
sized (Two CGT) e Byte = refl
sized (Two CGT) e Word = refl
sized (Two CGE) e Byte = refl
sized (Two CGE) e Word = refl
sized (Two CEQ) e Byte = refl
sized (Two CEQ) e Word = refl
sized (Two CLOG) e Byte = refl
sized (Two CLOG) e Word = refl
sized _ e width = absurd (cc)

loaded_is : (op : GplOperation) → is_comparison (Some op) ≡ true → (s : GplState) (place : Place) → operation_in s ≡ Some op →
    loaded_of s place ≡ in_register (row_width s) (value_at s (row_width s) place)
loaded_is op e s place is =
    let width : Option GplOperation → Width = λ o. width_in (bytes_by o (row_width s)) in
    ap (λ (w : Width). in_register w (value_at s w place)) (ap width is ∙ sized op e (row_width s))

-- each reads the destination
reads : (op : GplOperation) → is_comparison (Some op) ≡ true → reads_destination (Some op) ≡ true
reads (One _) e = refl
reads (Two ST) e = absurd (cc)
reads (Two _) e = refl
reads _ e = absurd (cc)

-- A comparison of the operands in registers 9 and 6, to the end of the step.
pub runs : (op : GplOperation) → is_comparison (Some op) ≡ true → {x a y : MachineState} {t u v : ℕ} → IsView (view x) →
    Exits x a t u (comparison op (view x)) →
    Exits a y u v (ending (a.cpu.pc == CTRUE) (view a)) → RunsRow op 6 x y t v
runs op e {x = x} {a = a} {y = y} {t = t} {u = u} {v = v} bounds first second s place source is row operands =
    let width = row_width s in
    let value = value_at s width place in
    let w = view x in
    let nine = row.destination (ap reads_destination is ∙ reads op e) ∙ loaded_is op e s place is in
    let x_fits = number_fits width value (subst (λ (n : ℕ). n < 65536) nine (bounds.r 9)) in
    let y_fits = number_fits width source.number (subst (λ (n : ℕ). n < 65536) row.value (bounds.r 6)) in
    let b = flag_is op e w width value source.number nine row.value x_fits y_fits in
    let same : Goes (comparison op w) 3 (end_of (flag op w)) (ShowsState s (next_of s)) = let g = compares op e w in
    record { within = g.within; to_is = g.to_is; holds = subst (ShowsState s (next_of s)) (sym g.holds) row.holds.sees } in
    let c : ReachesWithin 3 x a t u (end_of (compared op width value source.number)) (ShowsState s (next_of s)) =
    subst (λ (h : Bool). ReachesWithin 3 x a t u (end_of h) (ShowsState s (next_of s))) b (comes first same) in
    let done = decides 3 s (next_of s) (compared op width value source.number) c second in
    subst (λ r. ReachesWithin 6 x y t v GSTEP (SeesResult r)) (sym (result_is op e s place source)) done

pub comparison_decided : (op : GplOperation) → is_comparison (Some op) ≡ true → {x a : MachineState} {t u : ℕ} → Exits x a t u (comparison op (view x)) → IsDecided a
comparison_decided op e {x = x} {a = a} first = is_decided a (flag op (view x)) (comes first (compares op e (view x))).is_at
