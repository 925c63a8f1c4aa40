-- The memory map of the console.
use Rattle.std.specs.Prelude.{◌≡◌, ◌≤◌, ℕ, ◌+◌, ◌-◌, ◌%◌, ◌==◌, Bool, true, false, nat_lt, if◌then◌else◌, List, [], ◌∷◌}
use Rattle.std.specs.Prelude.{slice_index, slice_set, Option, Some, None}
use Rattle.tms_defs.specs.Words.{high, low, join, even}
use Rattle.tms_defs.specs.Bytes.{HoldsBytes, HoldsZeros, with_word_in}
use Rattle.console_defs.specs.Vdp.{VdpState, IsVdp, vdp_address_written, vdp_data_written, vdp_data_read}
use Rattle.console_defs.specs.Vdp.{vdp_status_read}
use Rattle.console_defs.specs.Grom.{GromState, IsGrom, grom_address_written, grom_address_read, grom_data_read}
use Rattle.tms_defs.specs.Accesses.{Answer, Gives, AtPort, Accesses}

-- The memory of a console: four lists of bytes, and the states of the video processor and of the GROMs.
-- Editor/Assembler manual, on the memory of the computer.
pub record Memory : Type 0 where
  pub scratchpad : List ℕ
  pub low_expansion : List ℕ
  pub high_expansion : List ℕ
  pub rom : List ℕ
  pub vdp : VdpState
  pub grom : GromState

-- What is true of every memory: the lengths of its lists, and that they hold bytes.
pub record IsMemory (memory : Memory) : Type 0 where
  pub scratchpad : HoldsBytes 256 memory.scratchpad
  pub low_expansion : HoldsBytes 8192 memory.low_expansion
  pub high_expansion : HoldsBytes 24576 memory.high_expansion
  pub rom : HoldsBytes 8192 memory.rom
  pub vdp : IsVdp memory.vdp
  pub grom : IsGrom memory.grom

-- Profile: a new memory is 0 everywhere; the ports are as they were given.
pub record IsNewMemory (memory : Memory) (vdp : VdpState) (grom : GromState) : Type 0 where
  pub scratchpad : HoldsZeros 256 memory.scratchpad
  pub low_expansion : HoldsZeros 8192 memory.low_expansion
  pub high_expansion : HoldsZeros 24576 memory.high_expansion
  pub rom : HoldsZeros 8192 memory.rom
  pub vdp_given : memory.vdp ≡ vdp
  pub grom_given : memory.grom ≡ grom

-- The eight ports that are in the memory map.
-- Editor/Assembler manual, on VDP and GROM access.
pub data Port : Type 0 where
  VdpDataRead : Port
  VdpStatusRead : Port
  VdpDataWrite : Port
  VdpAddressWrite : Port
  GromDataRead : Port
  GromAddressRead : Port
  GromDataWrite : Port
  GromAddressWrite : Port

-- The ports and their addresses.
-- Editor/Assembler manual, on VDP and GROM access.
-- Profile: each port is at one address only, and none at an odd one.
abbrev pub ports : List (ℕ × Port)
ports =
    (0x8800, VdpDataRead)
    ∷ (0x8802, VdpStatusRead)
    ∷ (0x8C00, VdpDataWrite)
    ∷ (0x8C02, VdpAddressWrite)
    ∷ (0x9800, GromDataRead)
    ∷ (0x9802, GromAddressRead)
    ∷ (0x9C00, GromDataWrite)
    ∷ (0x9C02, GromAddressWrite)
    ∷ []

-- The first of some ports that is at an address.
abbrev pub port_among : List (ℕ × Port) → ℕ → Option Port
port_among [] address = None
port_among (port ∷ others) address = if address == port.0 then Some port.1 else port_among others address

abbrev pub port_at : ℕ → Option Port
port_at address = port_among ports address

-- Where an address leads, with the offset inside it.
pub data Region : Type 0 where
  Rom : ℕ → Region
  LowExpansion : ℕ → Region
  HighExpansion : ℕ → Region
  Scratchpad : ℕ → Region
  PortOf : Port → Region
  Unmapped : Region

-- Among the ports, an address that is none of theirs leads nowhere.
abbrev pub port_region : Option Port → Region
port_region (Some port) = PortOf port
port_region None = Unmapped

-- Console ROM at >0000, low expansion at >2000, the scratchpad at >8300, the ports from >8800 on, high expansion at
-- >A000. Editor/Assembler manual, on the memory of the computer.
-- The scratchpad answers at >8000, >8100 and >8200 too.
-- Profile: all else leads nowhere.
abbrev pub region : ℕ → Region
region address =
    if nat_lt address 0x2000 then Rom address
    else if nat_lt address 0x4000 then LowExpansion (address - 0x2000)
    else if nat_lt address 0x8000 then Unmapped
    else if nat_lt address 0x8400 then Scratchpad (address % 256)
    else if nat_lt address 0xA000 then port_region (port_at address)
    else HighExpansion (address - 0xA000)

-- A port is at the address.
abbrev pub is_port_region : Region → Bool
is_port_region (PortOf port) = true
is_port_region _ = false

abbrev pub is_port_address : ℕ → Bool
is_port_address address = is_port_region (region address)

-- A byte is read from a port: the byte, and the memory after it.
-- Editor/Assembler manual, on VDP and GROM access.
-- Profile: a read of a port for writing gives 0 and changes nothing.
abbrev pub port_read : Port → Memory → ℕ × Memory
port_read VdpDataRead m = ((vdp_data_read m.vdp).0, record m { vdp = (vdp_data_read m.vdp).1 })
port_read VdpStatusRead m = ((vdp_status_read m.vdp).0, record m { vdp = (vdp_status_read m.vdp).1 })
port_read GromDataRead m = ((grom_data_read m.grom).0, record m { grom = (grom_data_read m.grom).1 })
port_read GromAddressRead m = ((grom_address_read m.grom).0, record m { grom = (grom_address_read m.grom).1 })
port_read _ m = (0, m)

-- A byte is written to a port.
-- Editor/Assembler manual, on VDP and GROM access.
-- Profile: a write to a port for reading changes nothing, nor does a write to the GROM's data port.
abbrev pub port_written : Port → Memory → ℕ → Memory
port_written VdpDataWrite m byte = record m { vdp = vdp_data_written m.vdp byte }
port_written VdpAddressWrite m byte = record m { vdp = vdp_address_written m.vdp byte }
port_written GromAddressWrite m byte = record m { grom = grom_address_written m.grom byte }
port_written _ m byte = m

-- A byte is read: the byte, and the memory after it.
-- Editor/Assembler manual, on the memory of the computer.
-- Profile: where an address leads nowhere, a read gives 0.
abbrev pub byte_read_in : Region → Memory → ℕ × Memory
byte_read_in (Rom at) m = (slice_index m.rom at, m)
byte_read_in (LowExpansion at) m = (slice_index m.low_expansion at, m)
byte_read_in (HighExpansion at) m = (slice_index m.high_expansion at, m)
byte_read_in (Scratchpad at) m = (slice_index m.scratchpad at, m)
byte_read_in (PortOf port) m = port_read port m
byte_read_in Unmapped m = (0, m)

abbrev pub byte_read : Memory → ℕ → ℕ × Memory
byte_read m address = byte_read_in (region address) m

-- A byte is written. A write to ROM changes nothing.
-- Editor/Assembler manual, on the memory of the computer.
-- Profile: a byte write makes no read before it. Where an address leads nowhere, a write changes nothing.
abbrev pub byte_written_in : Region → Memory → ℕ → Memory
byte_written_in (LowExpansion at) m byte = record m { low_expansion = slice_set m.low_expansion at byte }
byte_written_in (HighExpansion at) m byte = record m { high_expansion = slice_set m.high_expansion at byte }
byte_written_in (Scratchpad at) m byte = record m { scratchpad = slice_set m.scratchpad at byte }
byte_written_in (PortOf port) m byte = port_written port m byte
byte_written_in _ m byte = m

abbrev pub byte_written : Memory → ℕ → ℕ → Memory
byte_written m address byte = byte_written_in (region address) m byte

-- A word access is two byte accesses, at the even address and at the next one.
-- TMS9900 data manual, "Registers and memory".
-- Profile: it stops where the first of them is at a port.
abbrev pub word_read : Memory → ℕ → Answer ℕ
word_read m address =
    if is_port_address (even address)
    then AtPort (even address)
    else Gives (join (byte_read m (even address)).0 (byte_read m (even address + 1)).0)

abbrev pub word_written : Memory → ℕ → ℕ → Answer Memory
word_written m address word =
    if is_port_address (even address)
    then AtPort (even address)
    else Gives (byte_written (byte_written m (even address) (high word)) (even address + 1) (low word))

-- The console as the processor's memory.
abbrev pub console : Accesses Memory
console =
    record {
      word = word_read;
      with_word = word_written;
      byte = λ m address. Gives (byte_read m address);
      with_byte = λ m address byte. Gives (byte_written m address byte);
    }

-- A program is loaded into console ROM and expansion memory alone: below >4000, or from >A000 on.
-- Editor/Assembler manual, on the memory of the computer.
abbrev pub MayBePlaced : ℕ → Type 0
MayBePlaced address = 0x4000 ≤ address → 0xA000 ≤ address

-- A word is loaded at its even address, into console ROM too.
-- Profile: the console ROM is loaded as expansion memory is.
abbrev pub word_placed_in : Region → Memory → ℕ → Memory
word_placed_in (Rom at) m word = record m { rom = with_word_in m.rom at word }
word_placed_in (LowExpansion at) m word = record m { low_expansion = with_word_in m.low_expansion at word }
word_placed_in (HighExpansion at) m word = record m { high_expansion = with_word_in m.high_expansion at word }
word_placed_in _ m word = m

abbrev pub word_placed : Memory → ℕ → ℕ → Memory
word_placed m address word = word_placed_in (region address) m word

-- One byte of the scratchpad is set.
abbrev pub cell_set : Memory → ℕ → ℕ → Memory
cell_set m number byte = record m { scratchpad = slice_set m.scratchpad number byte }
