-- Each address leads in the view to where it leads in the console.
use Rattle.std.proofs.Common.{◌≡◌, ℕ, ◌+◌, ◌*◌, ◌%◌, ◌<◌, ◌≤◌, ◌∙◌, Bool, true, false, refl, ap, arith, eqb}
use Rattle.std.specs.Prelude.{◌&&◌, nat_lt, nat_le}
use Rattle.std.proofs.lemmas.Bool.{leb-true, ltb-true, eqb-false, eqb-true, and_parts}
use Rattle.std.proofs.Math.Nat.{pos_of_ne-zero}
use Rattle.console_defs.specs.Memory.{Region, Rom, LowExpansion, HighExpansion, Scratchpad, PortOf, Unmapped, region, port_at, port_region}
use Rattle.console_defs.proofs.MemoryLaws.{region_low, region_scratchpad, region_ports}
use Rattle.native_interp.specs.declared.addresses.TheConstants.{BEHIND, ORIGIN, WORD_COUNT, WORKSPACE}
use Rattle.sim_view.proofs.Seen.{Spot, spot, Reg, RegLow, Code, Cell, Spare, AtThePort, Unknown, port_spot}

abbrev pub Agrees : Spot → Region → Type 0
Agrees (Reg k) r = (k < 16) × (r ≡ Scratchpad (224 + 2 * k))
Agrees (RegLow k) r = (k < 16) × (r ≡ Scratchpad (224 + 2 * k + 1))
Agrees (Code k) r = (k < WORD_COUNT) × (r ≡ LowExpansion (2 * k))
Agrees (Cell i) r = (i < 194) × (r ≡ Scratchpad i)
Agrees (Spare k) r = (k < 15) × (r ≡ Scratchpad (194 + 2 * k))
Agrees (AtThePort p) r = r ≡ PortOf p
Agrees Unknown r = Unit {0}

ports_agree : (r : Region) → Agrees (port_spot r) r
ports_agree (Rom at) = tt
ports_agree (LowExpansion at) = tt
ports_agree (HighExpansion at) = tt
ports_agree (Scratchpad at) = tt
ports_agree (PortOf port) = refl
ports_agree Unmapped = tt

pub pick : {P : Type 0} (b : Bool) → (b ≡ true → P) → (b ≡ false → P) → P
pick true t f = t refl
pick false t f = f refl

odd_is : (a : ℕ) → eqb (a % 2) 0 ≡ false → a % 2 ≡ 1
odd_is a p = let l : 0 < a % 2 = pos_of_ne-zero (eqb-false (a % 2) 0 p) in omega arith

pub agrees : (a : ℕ) → Agrees (spot a) (region a)
agrees a =
    pick (nat_le WORKSPACE a && nat_lt a 0x8400) (λ e. let h = and_parts _ _ e in let from : WORKSPACE ≤ a = leb-true WORKSPACE a h.0 in
    let below : a < 0x8400 = ltb-true a 0x8400 h.1 in
    pick (eqb (a % 2) 0) (λ p. let q : a % 2 ≡ 0 = eqb-true (a % 2) 0 p in rw (e, p, region_scratchpad a (omega arith) below, spot)
    (omega arith, ap Scratchpad (omega arith))) (λ p. let q : a % 2 ≡ 1 = odd_is a p in rw (e, p, region_scratchpad a (omega arith) below, spot)
    (omega arith, ap Scratchpad (omega arith))))
    (λ n1. pick (nat_le ORIGIN a && nat_lt a BEHIND) (λ e. let h = and_parts _ _ e in let from : ORIGIN ≤ a = leb-true ORIGIN a h.0 in
    let below : a < BEHIND = ltb-true a BEHIND h.1 in
    pick (eqb (a % 2) 0) (λ p. let q : a % 2 ≡ 0 = eqb-true (a % 2) 0 p in rw (n1, e, p, region_low a from (omega arith), spot)
    (omega arith, ap LowExpansion (omega arith))) (λ p. rw (n1, e, p, spot) tt))
    (λ n2. pick (nat_le 0x8300 a && nat_lt a 0x83C2) (λ e. let h = and_parts _ _ e in let from : 0x8300 ≤ a = leb-true 0x8300 a h.0 in
    let below : a < 0x83C2 = ltb-true a 0x83C2 h.1 in
    rw (n1, n2, e, region_scratchpad a (omega arith) (omega arith), spot) (omega arith, ap Scratchpad (omega arith)))
    (λ n3. pick (nat_le 0x83C2 a && nat_lt a WORKSPACE) (λ e. let h = and_parts _ _ e in let from : 0x83C2 ≤ a = leb-true 0x83C2 a h.0 in
    let below : a < WORKSPACE = ltb-true a WORKSPACE h.1 in
    pick (eqb (a % 2) 0) (λ p. let q : a % 2 ≡ 0 = eqb-true (a % 2) 0 p in rw (n1, n2, n3, e, p, region_scratchpad a (omega arith) (omega arith), spot)
    (omega arith, ap Scratchpad (omega arith))) (λ p. rw (n1, n2, n3, e, p, spot) tt))
    (λ n4. pick (nat_le 0x8400 a && nat_lt a 0xA000) (λ e. let h = and_parts _ _ e in let from : 0x8400 ≤ a = leb-true 0x8400 a h.0 in
    let below : a < 0xA000 = ltb-true a 0xA000 h.1 in
    rw (n1, n2, n3, n4, e, region_ports a from below, spot) (ports_agree (port_region (port_at a))))
    (λ n5. rw (n1, n2, n3, n4, n5, spot) tt)))))

-- what a test of the program counter has found: the machine is at an address, or it is not
pub on : {found pc p : ℕ} → found ≡ pc → found ≡ p → pc ≡ p
on found is = omega arith

pub off : {found pc p : ℕ} → found ≡ pc → (found ≡ p → ⊥) → pc ≡ p → ⊥
off found other is = other (found ∙ is)
