-- How many bytes lie between addresses of a GROM.
use Rattle.std.specs.Prelude.{ℕ, ◌+◌, ◌-◌, ◌%◌}
use Rattle.base_defs.specs.declared.size.TheConstants.{GROM_SIZE}

-- From an address up to one after it in the same GROM, in which a GROM's first address follows its last.
abbrev pub size_between : ℕ → ℕ → ℕ
size_between at next = (next + 0x10000 - at) % GROM_SIZE
