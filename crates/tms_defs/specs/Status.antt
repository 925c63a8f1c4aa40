-- The status register and its word.
use Rattle.std.specs.Prelude.{ℕ, ◌+◌, ◌*◌, ◌/◌, ◌%◌, ◌<◌, Bool, true, false, ◌==◌}
use Rattle.tms_defs.specs.declared.flags.Flags.{Flags}
use Rattle.tms_defs.specs.declared.status.Status.{Status}
use Rattle.tms_defs.specs.Flags.{Width, Byte, Word, by_order, has_odd_parity}

-- The other ten bits have room below OP.
abbrev pub IsStatus : Status → Type 0
IsStatus status = status.rest < 1024

abbrev pub bit_of : Bool → ℕ → ℕ
bit_of true weight = weight
bit_of false weight = 0

-- The word of a status register. TMS9900 data manual, "Status register".
abbrev pub status_word : Status → ℕ
status_word status =
    bit_of status.flags.lgt 0x8000
    + bit_of status.flags.agt 0x4000
    + bit_of status.flags.eq 0x2000
    + bit_of status.flags.c 0x1000
    + bit_of status.flags.ov 0x0800
    + bit_of status.op 0x0400
    + status.rest

abbrev pub is_set : ℕ → ℕ → Bool
is_set word weight = word / weight % 2 == 1

-- The status register of a word. TMS9900 data manual, "Status register".
-- Profile: bits 7 to 11, which have no use there, are kept as the other bits are.
abbrev pub status_at : ℕ → Status
status_at word =
    record {
      flags = record {
        lgt = is_set word 0x8000;
        agt = is_set word 0x4000;
        eq = is_set word 0x2000;
        c = is_set word 0x1000;
        ov = is_set word 0x0800;
      };
      op = is_set word 0x0400;
      rest = word % 1024;
    }

-- The status bits after a result. An operation on bytes sets OP where the result has an odd number of ones; one on
-- words leaves it. TMS9900 data manual, "Status register".
abbrev pub with_result : Width → ℕ → Flags → Status → Status
with_result Byte number flags status = record status { flags = flags; op = has_odd_parity number }
with_result Word number flags status = record status { flags = flags }

-- The status bits after a comparison of a first number with a second. C and OV stay, and the comparison of words leaves
-- OP. TMS9900 data manual, "Compare words", "Compare bytes", "Compare immediate".
-- Profile: the comparison of bytes sets OP by the first byte, which is the source.
abbrev pub with_order : Width → ℕ → ℕ → Status → Status
with_order Byte first second status =
    record status { flags = by_order Byte first second status.flags; op = has_odd_parity first }
with_order Word first second status = record status { flags = by_order Word first second status.flags }

-- The status bits where X is set. TMS9900 data manual, "Extended operation (XOP) instruction".
abbrev pub with_extension : Status → Status
with_extension status = record status { rest = 0x0200 + status.rest % 0x0200 }

-- The status bits with the interrupt mask of a word, its low four bits.
-- TMS9900 data manual, "Internal register load immediate instructions".
abbrev pub with_mask : ℕ → Status → Status
with_mask word status = record status { rest = status.rest / 16 * 16 + word % 16 }
