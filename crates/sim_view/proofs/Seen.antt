-- The view as the processor's memory.
use Rattle.std.proofs.Common.{ℕ, zero, suc, ◌-◌, ◌/◌, ◌%◌, List, [], ◌∷◌, Bool, true, false, eqb}
use Rattle.std.specs.Prelude.{slice_index, slice_set, nat_lt, nat_le, ◌&&◌}
use Rattle.sim_view.specs.Prelude.{even, grom_address_read, grom_address_written, grom_data_read, high, INTERP, join, low}
use Rattle.console_defs.specs.Vdp.{vdp_data_read, vdp_status_read, vdp_data_written, vdp_address_written}
use Rattle.tms_defs.specs.Accesses.{Answer, Gives, NoInstruction, ◌>>=◌, Accesses}
use Rattle.tms_defs.specs.Operand.{Cpu}
use Rattle.tms_defs.specs.Step.{execution}
use Rattle.console_defs.specs.Memory.{Port, VdpDataRead, VdpStatusRead, VdpDataWrite, VdpAddressWrite, GromDataRead, GromAddressRead, GromDataWrite}
use Rattle.console_defs.specs.Memory.{GromAddressWrite, Region, Rom, LowExpansion, HighExpansion, Scratchpad, PortOf, Unmapped, port_at, port_region}
use Rattle.native_interp.specs.declared.addresses.TheConstants.{BEHIND, ORIGIN, WORKSPACE}
use Rattle.sim_view.specs.View.{View, listed, relisted}
use Rattle.sim_view.specs.Running.{ends_piece}

-- The bytes of words.
abbrev pub spell : List ℕ → List ℕ
spell [] = []
spell (w ∷ ws) = high w ∷ low w ∷ spell ws

-- Where an address leads in the view; RegLow is the low byte of a register.
pub data Spot : Type 0 where
  Reg : ℕ → Spot
  RegLow : ℕ → Spot
  Code : ℕ → Spot
  Cell : ℕ → Spot
  Spare : ℕ → Spot
  AtThePort : Port → Spot
  Unknown : Spot

abbrev pub port_spot : Region → Spot
port_spot (Rom at) = Unknown
port_spot (LowExpansion at) = Unknown
port_spot (HighExpansion at) = Unknown
port_spot (Scratchpad at) = Unknown
port_spot (PortOf port) = AtThePort port
port_spot Unmapped = Unknown

abbrev pub spot : ℕ → Spot
spot a =
    elim (nat_le WORKSPACE a && nat_lt a 0x8400) [
      | true ↦ elim (eqb (a % 2) 0) [ true ↦ Reg ((a - WORKSPACE) / 2) | false ↦ RegLow ((a - WORKSPACE) / 2) ]
      | false ↦
          elim (nat_le ORIGIN a && nat_lt a BEHIND) [
            | true ↦ elim (eqb (a % 2) 0) [ true ↦ Code ((a - ORIGIN) / 2) | false ↦ Unknown ]
            | false ↦
                elim (nat_le 0x8300 a && nat_lt a 0x83C2) [
                  | true ↦ Cell (a - 0x8300)
                  | false ↦
                      elim (nat_le 0x83C2 a && nat_lt a WORKSPACE) [
                        | true ↦ elim (eqb (a % 2) 0) [ true ↦ Spare ((a - 0x83C2) / 2) | false ↦ Unknown ]
                        | false ↦ elim (nat_le 0x8400 a && nat_lt a 0xA000) [ true ↦ port_spot (port_region (port_at a)) | false ↦ Unknown ]
                      ]
                ]
          ]
    ]

abbrev pub word_on : Spot → View → Answer ℕ
word_on (Reg k) v = Gives (slice_index (listed v.r) k)
word_on (RegLow k) v = NoInstruction
word_on (Code k) v = Gives (slice_index INTERP k)
word_on (Cell i) v = NoInstruction
word_on (Spare k) v = Gives (slice_index v.spare k)
word_on (AtThePort p) v = NoInstruction
word_on Unknown v = NoInstruction

abbrev pub with_word_on : Spot → View → ℕ → Answer View
with_word_on (Reg k) v w = Gives (record v { r = relisted (slice_set (listed v.r) k w) })
with_word_on (RegLow k) v w = NoInstruction
with_word_on (Code k) v w = NoInstruction
with_word_on (Cell i) v w = NoInstruction
with_word_on (Spare k) v w = Gives (record v { spare = slice_set v.spare k w })
with_word_on (AtThePort p) v w = NoInstruction
with_word_on Unknown v w = NoInstruction

abbrev pub port_seen : Port → View → ℕ × View
port_seen VdpDataRead v = ((vdp_data_read v.vdp).0, record v { vdp = (vdp_data_read v.vdp).1 })
port_seen VdpStatusRead v = ((vdp_status_read v.vdp).0, record v { vdp = (vdp_status_read v.vdp).1 })
port_seen VdpDataWrite v = (0, v)
port_seen VdpAddressWrite v = (0, v)
port_seen GromDataRead v = ((grom_data_read v.grom).0, record v { grom = (grom_data_read v.grom).1 })
port_seen GromAddressRead v = ((grom_address_read v.grom).0, record v { grom = (grom_address_read v.grom).1 })
port_seen GromDataWrite v = (0, v)
port_seen GromAddressWrite v = (0, v)

abbrev pub port_put : Port → View → ℕ → View
port_put VdpDataRead v byte = v
port_put VdpStatusRead v byte = v
port_put VdpDataWrite v byte = record v { vdp = vdp_data_written v.vdp byte }
port_put VdpAddressWrite v byte = record v { vdp = vdp_address_written v.vdp byte }
port_put GromDataRead v byte = v
port_put GromAddressRead v byte = v
port_put GromDataWrite v byte = v
port_put GromAddressWrite v byte = record v { grom = grom_address_written v.grom byte }

abbrev pub byte_on : Spot → View → Answer (ℕ × View)
byte_on (Reg k) v = Gives (high (slice_index (listed v.r) k), v)
byte_on (RegLow k) v = Gives (low (slice_index (listed v.r) k), v)
byte_on (Code k) v = NoInstruction
byte_on (Cell i) v = Gives (slice_index v.cells i, v)
byte_on (Spare k) v = Gives (high (slice_index v.spare k), v)
byte_on (AtThePort p) v = Gives (port_seen p v)
byte_on Unknown v = NoInstruction

-- the low byte of a register is set to a byte
abbrev pub with_low_on : Bool → ℕ → View → ℕ → Answer View
with_low_on true k v b =
    Gives (record v { r = relisted (slice_set (listed v.r) k (join (high (slice_index (listed v.r) k)) b)) })
with_low_on false k v b = NoInstruction

abbrev pub with_byte_on : Spot → View → ℕ → Answer View
with_byte_on (Reg k) v b =
    Gives (record v { r = relisted (slice_set (listed v.r) k (join b (low (slice_index (listed v.r) k)))) })
with_byte_on (RegLow k) v b = with_low_on (nat_lt b 256) k v b
with_byte_on (Code k) v b = NoInstruction
with_byte_on (Cell i) v b = Gives (record v { cells = slice_set v.cells i b })
with_byte_on (Spare k) v b = Gives (record v { spare = slice_set v.spare k (join b (low (slice_index v.spare k))) })
with_byte_on (AtThePort p) v b = Gives (port_put p v b)
with_byte_on Unknown v b = NoInstruction

abbrev pub shown : Accesses View
shown =
    record {
      word = λ v a. word_on (spot (even a)) v;
      with_word = λ v a w. with_word_on (spot (even a)) v w;
      byte = λ v a. byte_on (spot a) v;
      with_byte =
          λ v a b. with_byte_on (spot a) v b;
    }

-- The run of a piece on the view: how many instructions it has, beside those made before, and what is left.
abbrev pub seen_run : List ℕ → ℕ → ℕ → Cpu View → Answer (ℕ × Cpu View)
seen_run ends made zero x = NoInstruction
seen_run ends made (suc most) x =
    execution View shown x >>= λ done.
    elim (ends_piece ends done.0 done.1.pc) [
      | true ↦ Gives (suc made, done.1)
      | false ↦ seen_run ends (suc made) most done.1
    ]
