-- The mark of a copy: whether a byte goes to the character's cell.
use Rattle.std.proofs.Common.{ℕ, ◌+◌, ◌<◌, ◌==◌, ◌||◌, ◌∙◌, ◌≡◌, ◌≤◌, ap, arith, Bool, false, if◌then◌else◌, nat_lt, refl, suc, sym, true, zero}
use Rattle.std.proofs.lemmas.Bool.{eqb-false, eqb-true, le-ltb, lt-ltb, ltb-false, ltb-true}
use Rattle.sim_rows.proofs.Common.{byte_from, Changes, CHARACTER, copied, Cpu, difference_of, From, marked_by, next_from, pick, plus, Vdp, with_byte_to, Word}
use Rattle.sim_move.specs.Bytes.{to_memory}

-- the character's cell is among a number of them from an address on
abbrev among : ℕ → ℕ → Bool
among address bytes = nat_lt (difference_of Word CHARACTER address) bytes

none_among : (n : ℕ) → nat_lt n 0 ≡ false
none_among n = le-ltb n 0 (omega arith)

first_among : (address bytes : ℕ) → address ≡ CHARACTER → among address (suc bytes) ≡ true
first_among address bytes e = lt-ltb (difference_of Word CHARACTER address) (suc bytes) (omega arith)

rest_among : (address bytes : ℕ) → address < 194 → (address ≡ CHARACTER → ⊥) → among address (suc bytes) ≡ among (plus address 1) bytes
rest_among address bytes fits other =
    pick (among (plus address 1) bytes)
    (λ c. let l = ltb-true (difference_of Word CHARACTER (plus address 1)) bytes c in
    lt-ltb (difference_of Word CHARACTER address) (suc bytes) (omega arith) ∙ sym c)
    (λ c. let l = ltb-false (difference_of Word CHARACTER (plus address 1)) bytes c in
    le-ltb (difference_of Word CHARACTER address) (suc bytes) (omega arith) ∙ sym c)

-- The mark of the bytes to come, which the copy has from its beginning on.
abbrev mark_of : Bool → Bool → ℕ
mark_of marks shows = if marks then 0xFFFF else marked_by shows 0

same_mark : (b : Bool) → mark_of b true ≡ 0xFFFF
same_mark true = refl
same_mark false = refl

pub cells_mark : (bytes address : ℕ) (from : From) (c : Changes) → address + bytes ≤ 194 →
    mark_of (among address bytes) c.shows ≡ marked_by (copied bytes from (to_memory Cpu address) c).shows 0
cells_mark zero address from c fits = ap (λ b. mark_of b c.shows) (none_among (difference_of Word CHARACTER address))
cells_mark (suc bytes) address from c fits =
    let after : Changes = with_byte_to (to_memory Cpu address) (byte_from from c.state) c in
    let rest = cells_mark bytes (plus address 1) (next_from from) after (omega arith) in
    pick (address == CHARACTER)
    (λ e. let shows : (address == CHARACTER) || c.shows ≡ true = ap (λ b. b || c.shows) e in
    ap (λ b. mark_of b c.shows) (first_among address bytes (eqb-true address CHARACTER e))
    ∙ sym (same_mark (among (plus address 1) bytes)) ∙ sym (ap (λ b. mark_of (among (plus address 1) bytes) b) shows) ∙ rest)
    (λ e. let shows : (address == CHARACTER) || c.shows ≡ c.shows = ap (λ b. b || c.shows) e in
    ap (λ b. mark_of b c.shows) (rest_among address bytes (omega arith) (eqb-false address CHARACTER e))
    ∙ sym (ap (λ b. mark_of (among (plus address 1) bytes) b) shows) ∙ rest)

pub video_mark : (bytes address : ℕ) (from : From) (c : Changes) → marked_by c.shows 0 ≡ marked_by (copied bytes from (to_memory Vdp address) c).shows 0
video_mark zero address from c = refl
video_mark (suc bytes) address from c =
    video_mark bytes (plus address 1) (next_from from) (with_byte_to (to_memory Vdp address) (byte_from from c.state) c)
