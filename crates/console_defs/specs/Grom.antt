-- The GROMs of the console: their bytes, their common address counter and their ports.
use Rattle.std.specs.Prelude.{◌<◌, ℕ, Bool, true, false, not, List, slice_index}
use Rattle.tms_defs.specs.Words.{high, low, join}
use Rattle.tms_defs.specs.Bytes.{HoldsBytes}
use Rattle.base_defs.specs.Addresses.{next_in_grom}

-- The state of the GROMs. `half_written` marks that one byte of an address was written and the other is to come.
-- GPL Programmer's Guide, on the GROM ports.
pub record GromState : Type 0 where
  pub image : List ℕ
  pub counter : ℕ
  pub fetched : ℕ
  pub half_written : Bool

-- What is true of every state: 65,536 bytes, a counter of 16 bits, and bytes. Profile: a GROM has bytes at all of its
-- 8,192 addresses.
pub record IsGrom (grom : GromState) : Type 0 where
  pub image : HoldsBytes 65536 grom.image
  pub counter : grom.counter < 65536
  pub fetched : grom.fetched < 256

-- Profile: new GROMs are at address 0, with 0 as the fetched byte.
abbrev pub new_grom : List ℕ → GromState
new_grom image = record { image = image; counter = 0; fetched = 0; half_written = false }

-- Idle: no half of an address was written.
abbrev pub is_grom_idle : GromState → Bool
is_grom_idle grom = not grom.half_written

-- The byte at the counter is fetched ahead, and the counter goes on.
-- GPL Programmer's Guide, on the GROM address counter.
abbrev pub grom_fetched_ahead : GromState → GromState
grom_fetched_ahead grom =
    record grom { fetched = slice_index grom.image grom.counter; counter = next_in_grom grom.counter }

-- The address port is written: the first byte becomes the high half of the counter; the second becomes its low
-- half, and the byte there is fetched ahead.
-- GPL Programmer's Guide, on the GROM address counter.
abbrev pub grom_half_taken : Bool → GromState → ℕ → GromState
grom_half_taken false grom byte = record grom { counter = join byte (low grom.counter); half_written = true }
grom_half_taken true grom byte =
    grom_fetched_ahead (record grom { counter = join (high grom.counter) byte; half_written = false })

abbrev pub grom_address_written : GromState → ℕ → GromState
grom_address_written grom byte = grom_half_taken grom.half_written grom byte

-- The address port is read: it gives the high half of the counter and copies the low half over it, so that two
-- reads give the counter, which is one past the byte to come.
-- GPL Programmer's Guide, on the GROM address counter.
-- Profile: a half-written address is idle again; the half that was written stays in the counter.
abbrev pub grom_address_read : GromState → ℕ × GromState
grom_address_read grom =
    (high grom.counter, record grom { counter = join (low grom.counter) (low grom.counter); half_written = false })

-- The data port is read: it gives the fetched byte, and the next one is fetched ahead.
-- GPL Programmer's Guide, on the GROM address counter.
-- Profile: a half-written address is idle again; the half that was written stays in the counter.
abbrev pub grom_data_read : GromState → ℕ × GromState
grom_data_read grom = (grom.fetched, grom_fetched_ahead (record grom { half_written = false }))
