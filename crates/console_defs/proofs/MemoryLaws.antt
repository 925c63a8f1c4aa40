-- Laws about the memory map.
use Rattle.std.proofs.Common.{◌≡◌, ◌<◌, ◌≤◌, ℕ, ◌+◌, ◌-◌, ◌%◌, Bool, true, false, nat_lt, arith, refl, ap, sym, ◌∙◌}
use Rattle.std.proofs.Common.{Option, Some, None}
use Rattle.std.specs.Prelude.{if◌then◌else◌}
use Rattle.std.proofs.lemmas.Bool.{ltb-true, ltb-false, lt-ltb}
use Rattle.tms_defs.specs.Words.{high, low, join, even}
use Rattle.tms_defs.specs.Bytes.{word_in, with_word_in}
use Rattle.tms_defs.specs.Accesses.{Answer, Gives, AtPort, ◌>>=◌}
use Rattle.console_defs.specs.Vdp.{VdpState}
use Rattle.console_defs.specs.Grom.{GromState}
use Rattle.console_defs.specs.Memory.{Memory, Port, Region, Rom, LowExpansion, HighExpansion, Scratchpad, PortOf}
use Rattle.console_defs.specs.Memory.{Unmapped, region, port_at, port_region, is_port_region, is_port_address}
use Rattle.console_defs.specs.Memory.{byte_read, byte_written, word_read, word_written, byte_read_in, byte_written_in}

-- A word that is read at an even address, by the region of it.
abbrev pub word_read_in : Region → Memory → ℕ → Answer ℕ
word_read_in (Rom at) m address = Gives (word_in m.rom at)
word_read_in (LowExpansion at) m address = Gives (word_in m.low_expansion at)
word_read_in (HighExpansion at) m address = Gives (word_in m.high_expansion at)
word_read_in (Scratchpad at) m address = Gives (word_in m.scratchpad at)
word_read_in (PortOf port) m address = AtPort address
word_read_in Unmapped m address = Gives 0

-- A word that is written at an even address, by the region of it.
abbrev pub word_written_in : Region → Memory → ℕ → ℕ → Answer Memory
word_written_in (Rom at) m address word = Gives m
word_written_in (LowExpansion at) m address word =
    Gives (record m { low_expansion = with_word_in m.low_expansion at word })
word_written_in (HighExpansion at) m address word =
    Gives (record m { high_expansion = with_word_in m.high_expansion at word })
word_written_in (Scratchpad at) m address word = Gives (record m { scratchpad = with_word_in m.scratchpad at word })
word_written_in (PortOf port) m address word = AtPort address
word_written_in Unmapped m address word = Gives m

-- Where the odd address after an even one leads: no port is there.
abbrev beside : Region → Region
beside (Rom at) = Rom (at + 1)
beside (LowExpansion at) = LowExpansion (at + 1)
beside (HighExpansion at) = HighExpansion (at + 1)
beside (Scratchpad at) = Scratchpad (at + 1)
beside (PortOf port) = Unmapped
beside Unmapped = Unmapped

-- A number is below a limit or not.
not_below : (limit address : ℕ) → limit ≤ address → nat_lt address limit ≡ false
not_below limit address from = grind arith

by_test : {P : Type 0} (test : Bool) (a b : ℕ) → nat_lt a b ≡ test → (a < b → P) → (b ≤ a → P) → P
by_test true a b is below past = below (ltb-true a b is)
by_test false a b is below past = past (ltb-false a b is)

below_or_not : {P : Type 0} (a b : ℕ) → (a < b → P) → (b ≤ a → P) → P
below_or_not a b below past = by_test (nat_lt a b) a b refl below past

beside_port : (port : Option Port) → Unmapped ≡ beside (port_region port)
beside_port (Some port) = refl
beside_port None = refl

-- The regions by their ranges.
pub region_rom : (address : ℕ) → address < 0x2000 → region address ≡ Rom address
region_rom address below = grind arith

pub region_low : (address : ℕ) → 0x2000 ≤ address → address < 0x4000 → region address ≡ LowExpansion (address - 0x2000)
region_low address from below = grind arith

pub region_gap : (address : ℕ) → 0x4000 ≤ address → address < 0x8000 → region address ≡ Unmapped
region_gap address from below = grind arith

pub region_scratchpad : (address : ℕ) → 0x8000 ≤ address → address < 0x8400 → region address
    ≡ Scratchpad (address % 256)
region_scratchpad address from below = grind arith

pub region_ports : (address : ℕ) → 0x8400 ≤ address → address < 0xA000 → region address ≡ port_region (port_at address)
region_ports address from below =
    rw
    (not_below 0x2000 address (omega arith), not_below 0x4000 address (omega arith), not_below 0x8000 address (omega arith), not_below 0x8400 address from, lt-ltb address 0xA000 below)
    refl

pub region_high : (address : ℕ) → 0xA000 ≤ address → region address ≡ HighExpansion (address - 0xA000)
region_high address from = grind arith

-- No port is at an odd address.
pub odd_is_no_port : (address : ℕ) → port_at (even address + 1) ≡ None
odd_is_no_port address = grind arith

region_beside : (address : ℕ) → region (even address + 1) ≡ beside (region (even address))
region_beside address =
    let at : ℕ = even address in
    below_or_not at 0x2000
    (λ below. rw (region_rom at below, region_rom (at + 1) (omega arith)) refl)
    (λ from_2000.
    below_or_not at 0x4000
    (λ below. rw (region_low at from_2000 below, region_low (at + 1) (omega arith) (omega arith)) (ap LowExpansion (omega arith)))
    (λ from_4000.
    below_or_not at 0x8000
    (λ below. rw (region_gap at from_4000 below, region_gap (at + 1) (omega arith) (omega arith)) refl)
    (λ from_8000.
    below_or_not at 0x8400
    (λ below. rw (region_scratchpad at from_8000 below, region_scratchpad (at + 1) (omega arith) (omega arith)) (ap Scratchpad (omega arith)))
    (λ from_8400.
    below_or_not at 0xA000
    (λ below.
    rw (region_ports at from_8400 below, region_ports (at + 1) (omega arith) (omega arith), odd_is_no_port address)
    (beside_port (port_at at)))
    (λ from_A000.
    rw (region_high at from_A000, region_high (at + 1) (omega arith)) (ap HighExpansion (omega arith)))))))

read_by_region : (place : Region) (m : Memory) (address : ℕ) →
    word_read_in place m address
    ≡ (if is_port_region place
    then AtPort address
    else Gives (join (byte_read_in place m).0 (byte_read_in (beside place) m).0))
read_by_region (Rom at) m address = refl
read_by_region _ m address = refl

-- A word is read by the region of its even address.
pub read_is_by_region : (m : Memory) (address : ℕ) →
    word_read m address ≡ word_read_in (region (even address)) m (even address)
read_is_by_region m address =
    let with_second : Region → Answer ℕ =
    λ second.
    (if is_port_address (even address)
    then AtPort (even address)
    else Gives (join (byte_read m (even address)).0 (byte_read_in second m).0)) in
    ap with_second (region_beside address) ∙ sym (read_by_region (region (even address)) m (even address))

write_by_region : (place : Region) (m : Memory) (address word : ℕ) →
    word_written_in place m address word
    ≡ (if is_port_region place
    then AtPort address
    else Gives (byte_written_in (beside place) (byte_written_in place m (high word)) (low word)))
write_by_region (Rom at) m address word = refl
write_by_region _ m address word = refl

-- A word is written by the region of its even address.
pub write_is_by_region : (m : Memory) (address word : ℕ) →
    word_written m address word ≡ word_written_in (region (even address)) m (even address) word
write_is_by_region m address word =
    let with_second : Region → Answer Memory =
    λ second.
    (if is_port_address (even address)
    then AtPort (even address)
    else Gives (byte_written_in second (byte_written m (even address) (high word)) (low word))) in
    ap with_second (region_beside address) ∙ sym (write_by_region (region (even address)) m (even address) word)

-- The same memory with other states of its ports.
abbrev pub with_ports : Memory → VdpState → GromState → Memory
with_ports m vdp grom = record m { vdp = vdp; grom = grom }

read_past_ports : (place : Region) (m : Memory) (vdp : VdpState) (grom : GromState) (address : ℕ) →
    word_read_in place (with_ports m vdp grom) address ≡ word_read_in place m address
read_past_ports (Rom at) m vdp grom address = refl
read_past_ports _ m vdp grom address = refl

-- What a word access does is independent of the ports: it gives the same and leaves them, whatever they are.
pub word_read_past_ports : (m : Memory) (vdp : VdpState) (grom : GromState) (address : ℕ) →
    word_read (with_ports m vdp grom) address ≡ word_read m address
word_read_past_ports m vdp grom address =
    read_is_by_region (with_ports m vdp grom) address
    ∙ read_past_ports (region (even address)) m vdp grom (even address)
    ∙ sym (read_is_by_region m address)

write_past_ports : (place : Region) (m : Memory) (vdp : VdpState) (grom : GromState) (address word : ℕ) →
    word_written_in place (with_ports m vdp grom) address word
    ≡ (word_written_in place m address word >>= λ left. Gives (with_ports left vdp grom))
write_past_ports (Rom at) m vdp grom address word = refl
write_past_ports _ m vdp grom address word = refl

pub word_written_past_ports : (m : Memory) (vdp : VdpState) (grom : GromState) (address word : ℕ) →
    word_written (with_ports m vdp grom) address word
    ≡ (word_written m address word >>= λ left. Gives (with_ports left vdp grom))
word_written_past_ports m vdp grom address word =
    write_is_by_region (with_ports m vdp grom) address word
    ∙ write_past_ports (region (even address)) m vdp grom (even address) word
    ∙ ap (λ written. written >>= λ left. Gives (with_ports left vdp grom)) (sym (write_is_by_region m address word))
