-- Which instructions have bytes at all.
use Rattle.std.specs.Prelude.{◌&&◌, ◌||◌, not, Bool, true, false, nat_lt}
use Rattle.gpl_defs.specs.declared.instruction.OneName.{OneName}
use Rattle.gpl_defs.specs.declared.instruction.OneName.TheVariants.{FETCH, PUSH}
use Rattle.gpl_defs.specs.declared.instruction.TwoName.{TwoName}
use Rattle.gpl_defs.specs.declared.instruction.TwoName.TheVariants.{EX}
use Rattle.gpl_defs.specs.declared.instruction.GplSource.{GplSource}
use Rattle.gpl_defs.specs.declared.instruction.GplSource.TheVariants as source
use Rattle.gpl_defs.specs.declared.instruction.MoveTarget.{MoveTarget}
use Rattle.gpl_defs.specs.declared.instruction.MoveTarget.TheVariants as target
use Rattle.gpl_defs.specs.declared.instruction.MoveSource.{MoveSource}
use Rattle.gpl_defs.specs.declared.instruction.MoveSource.TheVariants as from
use Rattle.gpl_defs.specs.declared.instruction.GplInstr.{GplInstr}
use Rattle.gpl_defs.specs.declared.instruction.GplInstr.TheVariants.{Plain, Byte, Jump, Branch, One, Two, Move}
use Rattle.base_defs.specs.declared.size.TheConstants.{GROM_SIZE}

-- Profile: FETCH and PUSH have no form of words.
abbrev pub has_words : OneName → Bool
has_words FETCH = false
has_words PUSH = false
has_words _ = true

-- Profile: EX has no immediate source.
abbrev pub has_immediate : TwoName → Bool
has_immediate EX = false
has_immediate _ = true

-- GPL Programmer's Guide, the statements with two operands: an immediate source of bytes is a byte.
abbrev pub is_valid_source : TwoName → Bool → GplSource → Bool
is_valid_source op word (source.At operand) = true
is_valid_source op word (source.Immediate value) = has_immediate op && (word || nat_lt value 256)

-- Profile: registers of the video processor are loaded from GROM, without an index.
abbrev pub is_valid_move : MoveTarget → MoveSource → Bool
is_valid_move (target.At operand) source = true
is_valid_move (target.Register number) (from.Grom address) = true
is_valid_move (target.Register number) (from.GromIndexed address index) = false
is_valid_move (target.Register number) (from.At operand) = false

-- An instruction has bytes if its offset in the GROM has thirteen bits and the table has its form. GPL Programmer's
-- Guide, BR and BS, and the statements.
abbrev pub is_valid : GplInstr → Bool
is_valid (Plain op) = true
is_valid (Byte op value) = true
is_valid (Jump op to) = true
is_valid (Branch on offset) = nat_lt offset GROM_SIZE
is_valid (One op word at) = has_words op || not word
is_valid (Two op word dst src) = is_valid_source op word src
is_valid (Move length target source) = is_valid_move target source
