-- The video processor as the processor sees it: its memory, its registers and its four ports.
use Rattle.std.specs.Prelude.{◌≡◌, ◌<◌, ℕ, ◌+◌, ◌/◌, ◌%◌, ◌==◌, Bool}
use Rattle.std.specs.Prelude.{if◌then◌else◌, List, slice_index, slice_set, Option}
use Rattle.std.specs.Prelude.{Some, None, is_none, IfSome}
use Rattle.tms_defs.specs.Words.{join}
use Rattle.tms_defs.specs.Bytes.{HoldsBytes, HoldsZeros}

-- The state of a video processor. `held` is the first byte of an address pair whose second byte is still to come.
-- TMS9918A data manual, "CPU interface".
pub record VdpState : Type 0 where
  pub memory : List ℕ
  pub registers : List ℕ
  pub address : ℕ
  pub fetched : ℕ
  pub held : Option ℕ

-- What is true of every state: 16,384 bytes of memory, eight registers, an address of 14 bits, and bytes.
pub record IsVdp (vdp : VdpState) : Type 0 where
  pub memory : HoldsBytes 16384 vdp.memory
  pub registers : HoldsBytes 8 vdp.registers
  pub address : vdp.address < 16384
  pub fetched : vdp.fetched < 256
  pub held : IfSome vdp.held (λ byte. byte < 256)

-- Profile: a new video processor holds 0 everywhere, and no byte of a pair.
pub record IsNewVdp (vdp : VdpState) : Type 0 where
  pub memory : HoldsZeros 16384 vdp.memory
  pub registers : HoldsZeros 8 vdp.registers
  pub address : vdp.address ≡ 0
  pub fetched : vdp.fetched ≡ 0
  pub held : vdp.held ≡ None

-- Idle: no byte of an address pair is held.
abbrev pub is_vdp_idle : VdpState → Bool
is_vdp_idle vdp = is_none vdp.held

-- The address after an address; the address has 14 bits.
-- TMS9918A data manual, "CPU read from VRAM" and "CPU write to VRAM".
-- Profile: 16,384 bytes in order from the start on, whatever register 1 says of the size of the memory.
abbrev pub next_in_vdp : ℕ → ℕ
next_in_vdp address = (address + 1) % 16384

-- The byte at the address is fetched ahead, and the address counts up.
-- TMS9918A data manual, "CPU read from VRAM".
abbrev pub vdp_fetched_ahead : VdpState → VdpState
vdp_fetched_ahead vdp =
    record vdp { fetched = slice_index vdp.memory vdp.address; address = next_in_vdp vdp.address }

-- What an address pair asks for, by the top bits of its second byte.
pub data PairKind : Type 0 where
  ReadSetup : PairKind
  WriteSetup : PairKind
  RegisterWrite : PairKind
  NoOperation : PairKind

-- TMS9918A data manual, "CPU write to VDP register", "CPU write to VRAM", "CPU read from VRAM".
-- Profile: the top bits 11 ask for nothing.
abbrev pub pair_kind : ℕ → PairKind
pair_kind second =
    if second / 64 == 0 then ReadSetup
    else if second / 64 == 1 then WriteSetup
    else if second / 64 == 2 then RegisterWrite
    else NoOperation

-- The address of a pair: the first byte is its low half, and the low six bits of the second are its high half.
-- TMS9918A data manual, "CPU write to VRAM".
abbrev pub pair_address : ℕ → ℕ → ℕ
pair_address first second = join (second % 64) first

-- A pair is complete; the video processor is idle again.
-- TMS9918A data manual: "CPU read from VRAM", "CPU write to VRAM", "CPU write to VDP register".
-- Profile: a register write takes the register's number from the low three bits and leaves the address, and the top
-- bits 11 change nothing.
abbrev pub pair_done : PairKind → VdpState → ℕ → ℕ → VdpState
pair_done ReadSetup vdp first second =
    vdp_fetched_ahead (record vdp { address = pair_address first second; held = None })
pair_done WriteSetup vdp first second = record vdp { address = pair_address first second; held = None }
pair_done RegisterWrite vdp first second =
    record vdp { registers = slice_set vdp.registers (second % 8) first; held = None }
pair_done NoOperation vdp first second = record vdp { held = None }

-- The address port is written: the first byte of a pair is held, the second byte ends it.
-- TMS9918A data manual, "CPU write to VRAM".
abbrev pub address_byte_taken : Option ℕ → VdpState → ℕ → VdpState
address_byte_taken None vdp byte = record vdp { held = Some byte }
address_byte_taken (Some first) vdp byte = pair_done (pair_kind byte) vdp first byte

abbrev pub vdp_address_written : VdpState → ℕ → VdpState
vdp_address_written vdp byte = address_byte_taken vdp.held vdp byte

-- The data port is written: the byte is stored at the address, and the address counts up.
-- TMS9918A data manual, "CPU write to VRAM".
-- Profile: the byte becomes the fetched byte, and the pair is idle again; a byte of it that was held is lost.
abbrev pub vdp_data_written : VdpState → ℕ → VdpState
vdp_data_written vdp byte =
    record vdp {
      memory = slice_set vdp.memory vdp.address byte;
      address = next_in_vdp vdp.address;
      fetched = byte;
      held = None;
    }

-- The data port is read: it gives the fetched byte, and the next one is fetched ahead.
-- TMS9918A data manual, "CPU read from VRAM".
-- Profile: the pair is idle again; a byte of it that was held is lost.
abbrev pub vdp_data_read : VdpState → ℕ × VdpState
vdp_data_read vdp = (vdp.fetched, vdp_fetched_ahead (record vdp { held = None }))

-- The status port is read: the pair is idle again.
-- TMS9918A data manual, "CPU read from VDP status register".
-- Profile: the status is always 0; a byte of the pair that was held is lost.
abbrev pub vdp_status_read : VdpState → ℕ × VdpState
vdp_status_read vdp = (0, record vdp { held = None })
