-- A byte of a port may be read before a destination is derived or after it: words neither see nor change a port.
use Rattle.std.proofs.Common.{◌≡◌, ℕ, true, refl, sym, ap, ◌∙◌}
use Rattle.std.specs.Prelude.{if◌then◌else◌, ◌==◌}
use Rattle.tms_defs.specs.Words.{even, plus}
use Rattle.tms_defs.specs.Flags.{Width, Byte, size_of}
use Rattle.tms_defs.specs.Accesses.{Answer, Gives, AtPort, NoInstruction, ◌>>=◌}
use Rattle.console_defs.specs.Vdp.{VdpState}
use Rattle.console_defs.specs.Grom.{GromState}
use Rattle.console_defs.specs.Memory.{Memory, Port, VdpDataRead, VdpStatusRead, VdpDataWrite, VdpAddressWrite}
use Rattle.console_defs.specs.Memory.{GromDataRead, GromAddressRead, GromDataWrite, GromAddressWrite, Region, Rom}
use Rattle.console_defs.specs.Memory.{LowExpansion, HighExpansion, Scratchpad, PortOf, Unmapped, region, is_port_region}
use Rattle.console_defs.specs.Memory.{is_port_address, port_read, byte_read_in, word_read}
use Rattle.console_defs.specs.Memory.{word_written, console}
use Rattle.tms_defs.specs.Operand.{Cpu, Mode, Register, Indirect, Symbolic, Increment, mode_of, register}
use Rattle.tms_defs.specs.Step.{operand, index_of, with_word, two}
use Rattle.tms_defs.specs.declared.instruction.TwoOp.{TwoOp}
use Rattle.tms_defs.specs.declared.instruction.Place.{Place}
use Rattle.console_defs.proofs.MemoryLaws.{with_ports, word_read_past_ports, word_written_past_ports}
use Rattle.console_defs.proofs.MemoryLaws.{word_written_in, write_is_by_region}
use Rattle.tms_step.specs.Parts.{from_source, from_port}

-- what a read of a port leaves of the video processor and of the GROMs, and the byte that it gives; the rest of the
-- memory makes no difference to them
abbrev vdp_after : Port → Memory → VdpState → VdpState
vdp_after port m vdp = (port_read port (record m { vdp = vdp })).1.vdp

abbrev grom_after : Port → Memory → GromState → GromState
grom_after port m grom = (port_read port (record m { grom = grom })).1.grom

abbrev byte_of : Port → Memory → VdpState → GromState → ℕ
byte_of port m vdp grom = (port_read port (with_ports m vdp grom)).0

given : {X : Type 0} (a b : X) → Gives a ≡ Gives b → a ≡ b
given a b e = cc

-- a word that is written leaves the ports
keeps_in : (place : Region) (m left : Memory) (address word : ℕ) → word_written_in place m address word ≡ Gives left →
    (left.vdp ≡ m.vdp) × (left.grom ≡ m.grom)
keeps_in (Rom at) m left address word e =
    let same = given m left e in (ap (λ (n : Memory). n.vdp) (sym same), ap (λ (n : Memory). n.grom) (sym same))
keeps_in (LowExpansion at) m left address word e =
    let same = given _ left e in (ap (λ (n : Memory). n.vdp) (sym same), ap (λ (n : Memory). n.grom) (sym same))
keeps_in (HighExpansion at) m left address word e =
    let same = given _ left e in (ap (λ (n : Memory). n.vdp) (sym same), ap (λ (n : Memory). n.grom) (sym same))
keeps_in (Scratchpad at) m left address word e =
    let same = given _ left e in (ap (λ (n : Memory). n.vdp) (sym same), ap (λ (n : Memory). n.grom) (sym same))
keeps_in (PortOf port) m left address word e = absurd (cc)
keeps_in Unmapped m left address word e =
    let same = given m left e in (ap (λ (n : Memory). n.vdp) (sym same), ap (λ (n : Memory). n.grom) (sym same))

-- a word that is read, beside the state after it
abbrev beside : Answer ℕ → Cpu Memory → Answer (ℕ × Cpu Memory)
beside word x = word >>= λ w. Gives (w, x)

module _ (a : VdpState → VdpState) (b : GromState → GromState)
    (k : ℕ × Cpu Memory → VdpState → GromState → Answer (Cpu Memory)) where
  -- the state where the ports have gone on
  abbrev moved : Cpu Memory → Cpu Memory
  moved x = record x { memory = with_ports x.memory (a x.memory.vdp) (b x.memory.grom) }

  -- what follows an operand that is derived before the ports go on, and after it
  abbrev before : Cpu Memory → Answer (ℕ × Cpu Memory) → Answer (Cpu Memory)
  before x found = found >>= λ d. k d x.memory.vdp x.memory.grom

  abbrev after : Answer (ℕ × Cpu Memory) → Answer (Cpu Memory)
  after found = found >>= λ d. k (d.0, moved d.1) d.1.memory.vdp d.1.memory.grom

  indirect : (x : Cpu Memory) (word : Answer ℕ) → before x (word >>= λ w. Gives (w, moved x))
      ≡ after (word >>= λ w. Gives (w, x))
  indirect x (Gives word) = refl
  indirect x (AtPort address) = refl
  indirect x NoInstruction = refl

  read_past : (x : Cpu Memory) (address : ℕ) → word_read (moved x).memory address ≡ word_read x.memory address
  read_past x address = word_read_past_ports x.memory (a x.memory.vdp) (b x.memory.grom) address

  by_index : (x : Cpu Memory) (word : ℕ) (index : Answer ℕ) → before x (index >>= λ i. Gives (plus word i, moved x))
      ≡ after (index >>= λ i. Gives (plus word i, x))
  by_index x word (Gives index) = refl
  by_index x word (AtPort address) = refl
  by_index x word NoInstruction = refl

  index_past : (x : Cpu Memory) (number : ℕ) → index_of Memory console (moved x) number
      ≡ index_of Memory console x number
  index_past x number =
      ap (λ (word : Answer ℕ). if number == 0 then Gives 0 else word)
      (read_past x (register number x))

  indexed : (x : Cpu Memory) (number : ℕ) (word : Answer ℕ) →
      before x
      (beside word (moved x) >>= λ base. index_of Memory console base.1 number >>= λ i. Gives (plus base.0 i, base.1))
      ≡ after (beside word x >>= λ base. index_of Memory console base.1 number >>= λ i. Gives (plus base.0 i, base.1))
  indexed x number (Gives word) =
      ap (λ (index : Answer ℕ). before x (index >>= λ i. Gives (plus word i, moved x))) (index_past x number)
      ∙ by_index x word (index_of Memory console x number)
  indexed x number (AtPort address) = refl
  indexed x number NoInstruction = refl

  auto_incremented : (x : Cpu Memory) (address place word : ℕ) →
      before x (with_word Memory console (moved x) place word >>= λ y. Gives (address, y))
      ≡ after (with_word Memory console x place word >>= λ y. Gives (address, y))
  auto_incremented x address place word =
      ap (λ (written : Answer Memory). before x ((written >>= λ memory. Gives (record (moved x) { memory = memory })) >>= λ y. Gives (address, y)))
      (word_written_past_ports x.memory (a x.memory.vdp) (b x.memory.grom) place word)
      ∙ by (word_written x.memory place word) refl
    where
      by : (written : Answer Memory) → word_written x.memory place word ≡ written →
          before x (((written >>= λ left. Gives (with_ports left (a x.memory.vdp) (b x.memory.grom))) >>= λ memory. Gives (record (moved x) { memory = memory })) >>= λ y. Gives (address, y))
          ≡ after ((written >>= λ memory. Gives (record x { memory = memory })) >>= λ y. Gives (address, y))
      by (Gives left) e =
          let kept = keeps_in (region (even place)) x.memory left (even place) word (sym (write_is_by_region x.memory place word) ∙ e) in
          ap (λ (ports : VdpState × GromState). k (address, record x { memory = with_ports left (a ports.0) (b ports.1) }) ports.0 ports.1)
          (λ i. (sym kept.0 i, sym kept.1 i))
      by (AtPort port) e = refl
      by NoInstruction e = refl

  incremented : (x : Cpu Memory) (place more : ℕ) (word : Answer ℕ) →
      before x (word >>= λ w. with_word Memory console (moved x) place (plus w more) >>= λ y. Gives (w, y))
      ≡ after (word >>= λ w. with_word Memory console x place (plus w more) >>= λ y. Gives (w, y))
  incremented x place more (Gives word) = auto_incremented x word place (plus word more)
  incremented x place more (AtPort address) = refl
  incremented x place more NoInstruction = refl

  -- An operand is the same before the ports go on and after it.
  pub operand_past : (mode : Mode) (width : Width) (number : ℕ) (x : Cpu Memory) →
      before x (operand Memory console mode width number (moved x))
      ≡ after (operand Memory console mode width number x)
  operand_past Register width number x = refl
  operand_past Indirect width number x =
      ap (λ (word : Answer ℕ). before x (word >>= λ w. Gives (w, moved x)))
      (read_past x (register number x))
      ∙ indirect x (word_read x.memory (register number x))
  operand_past Symbolic width number x =
      let on : Cpu Memory = record x { pc = plus x.pc 2 } in
      ap
      (λ (word : Answer ℕ). before on (beside word (moved on) >>= λ base. index_of Memory console base.1 number >>= λ i. Gives (plus base.0 i, base.1)))
      (read_past x x.pc)
      ∙ indexed on number (word_read x.memory x.pc)
  operand_past Increment width number x =
      ap
      (λ (word : Answer ℕ). before x (word >>= λ w. with_word Memory console (moved x) (register number x) (plus w (size_of width)) >>= λ y. Gives (w, y)))
      (read_past x (register number x))
      ∙ incremented x (register number x) (size_of width)
      (word_read x.memory (register number x))

-- what follows a byte in a region, before a destination is derived and after it
abbrev byte_first : Region → TwoOp → Place → Cpu Memory → Answer (Cpu Memory)
byte_first place op dst x =
    operand Memory console (mode_of dst.mode) Byte dst.reg (record x {
      memory =
          (byte_read_in place x.memory).1;
    }) >>= λ d. two Memory console op Byte (byte_read_in place x.memory).0 d.0 d.1

abbrev byte_last : Region → TwoOp → Place → Cpu Memory → Answer (Cpu Memory)
byte_last place op dst x =
    operand Memory console (mode_of dst.mode) Byte dst.reg x >>= λ d. two Memory console op Byte (byte_read_in place d.1.memory).0 d.0 (record d.1 { memory = (byte_read_in place d.1.memory).1 })

abbrev then_two : Port → Memory → TwoOp → ℕ × Cpu Memory → VdpState → GromState → Answer (Cpu Memory)
then_two port m op d vdp grom = two Memory console op Byte (byte_of port m vdp grom) d.0 d.1

-- the operand is the same where the port has gone on
past_port : (port : Port) (op : TwoOp) (dst : Place) (x : Cpu Memory) →
    before (vdp_after port x.memory) (grom_after port x.memory) (then_two port x.memory op) x
    (operand Memory console (mode_of dst.mode) Byte dst.reg (moved (vdp_after port x.memory) (grom_after port x.memory) (then_two port x.memory op) x))
    ≡ after (vdp_after port x.memory) (grom_after port x.memory) (then_two port x.memory op)
    (operand Memory console (mode_of dst.mode) Byte dst.reg x)
past_port port op dst x =
    operand_past (vdp_after port x.memory) (grom_after port x.memory) (then_two port x.memory op) (mode_of dst.mode)
    Byte dst.reg x

last_at : (port : Port) (op : TwoOp) (dst : Place) (x : Cpu Memory) →
    byte_first (PortOf port) op dst x ≡ byte_last (PortOf port) op dst x
last_at VdpDataRead op dst x = past_port VdpDataRead op dst x
last_at VdpStatusRead op dst x = past_port VdpStatusRead op dst x
last_at VdpDataWrite op dst x = refl
last_at VdpAddressWrite op dst x = refl
last_at GromDataRead op dst x = past_port GromDataRead op dst x
last_at GromAddressRead op dst x = past_port GromAddressRead op dst x
last_at GromDataWrite op dst x = refl
last_at GromAddressWrite op dst x = refl

last_in : (place : Region) (op : TwoOp) (dst : Place) (x : Cpu Memory) → is_port_region place ≡ true →
    byte_first place op dst x ≡ byte_last place op dst x
last_in (Rom at) op dst x e = absurd (cc)
last_in (LowExpansion at) op dst x e = absurd (cc)
last_in (HighExpansion at) op dst x e = absurd (cc)
last_in (Scratchpad at) op dst x e = absurd (cc)
last_in (PortOf port) op dst x e = last_at port op dst x
last_in Unmapped op dst x e = absurd (cc)

-- What follows a source at a port is the same where the port is read last.
pub port_last : (op : TwoOp) (source : ℕ) (dst : Place) (x : Cpu Memory) → is_port_address source ≡ true →
    from_port op source dst x ≡ from_source op Byte source dst x
port_last op source dst x e = sym (last_in (region source) op dst x e)
