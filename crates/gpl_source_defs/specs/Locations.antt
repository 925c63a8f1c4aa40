-- The locations of a GPL source.
--
-- GPL Programmer's Guide, GROM: each has its addresses, and the next begins >2000 after. Profile: it has bytes at all
-- of them.
use Rattle.std.specs.Prelude.{◌≡◌, ◌≤◌, ℕ, ◌+◌, ◌/◌, ◌%◌, ◌==◌, Bool, nat_lt, if◌then◌else◌, List, Option, Some, None}
use Rattle.std.specs.Prelude.{Result, Ok, Err}
use Rattle.expression_defs.specs.Expression.{to_word}
use Rattle.expression_defs.specs.Layout as layout
use Rattle.expression_defs.specs.Layout.{LayoutLine}
use Rattle.gpl_source_defs.specs.declared.causes.GplCause.{GplCause}
use Rattle.gpl_source_defs.specs.declared.causes.GplCause.TheVariants.{OtherGrom}
use Rattle.gpl_source_defs.specs.declared.location.Location.{Location}
use Rattle.gpl_source_defs.specs.Statements.{Statement, Grom, Aorg}
use Rattle.base_defs.specs.declared.size.TheConstants.{GROM_SIZE}

-- a line of a GPL source
abbrev pub Line : Type 0
Line = LayoutLine Location Statement

-- Profile: a source starts at >6000.
abbrev pub start : Location
start = record { grom = 0x6000; number = 0x6000 }

abbrev pub after : Location → ℕ → Location
after location bytes = record { grom = location.grom; number = location.number + bytes }

abbrev pub location : List Line → Location
location before = layout.location start after before

abbrev pub place : List Line → Line → Location
place before line = layout.place start after before line

-- What $ and a label stand for. Profile: after the last address of all it is 0.
abbrev pub address_of : Location → ℕ
address_of location = to_word location.number

-- some bytes from a location on pass the last address of its GROM
abbrev pub passes : Location → ℕ → Bool
passes here bytes = nat_lt (here.grom + GROM_SIZE) (here.number + bytes)

-- The location that a line sets. Profile: GROM sets the first address of a GROM, and AORG an offset in the GROM that
-- was set last.
abbrev pub origin_of : Location → Statement → Option Location
origin_of here (Grom address) = Some (record { grom = address; number = address })
origin_of here (Aorg offset) = Some (record { grom = here.grom; number = here.grom + offset })
origin_of here _ = None

-- Profile: BR and BS lead to an offset in the GROM of their line.
abbrev pub branch_offset : Location → ℕ → Result ℕ GplCause
branch_offset at target =
    if target / GROM_SIZE == at.grom / GROM_SIZE then Ok (target % GROM_SIZE) else Err OtherGrom

-- a location of a GROM, or the one after its last
pub record IsInGrom (here : Location) : Type 0 where
  pub aligned : here.grom % GROM_SIZE ≡ 0
  pub address : here.grom ≤ 65535
  pub from : here.grom ≤ here.number
  pub within : here.number ≤ here.grom + GROM_SIZE
