-- The addresses of GROM.
use Rattle.std.specs.Prelude.{ℕ, ◌+◌, ◌-◌, ◌*◌, ◌/◌, ◌%◌}
use Rattle.base_defs.specs.declared.size.TheConstants.{GROM_SIZE}

-- The address at an offset in the GROM of another address.
-- GPL Programmer's Guide, on the GROM address counter.
abbrev pub in_grom_of : ℕ → ℕ → ℕ
in_grom_of address offset = address / GROM_SIZE * GROM_SIZE + offset

-- The address after an address. A GROM has 8 KiB of addresses: the top three bits stay, the low thirteen wrap.
-- GPL Programmer's Guide, on the GROM address counter.
abbrev pub next_in_grom : ℕ → ℕ
next_in_grom address = in_grom_of address ((address + 1) % GROM_SIZE)

-- The address before an address, in the same GROM.
abbrev pub previous_in_grom : ℕ → ℕ
previous_in_grom address = in_grom_of address ((address + (GROM_SIZE - 1)) % GROM_SIZE)
