-- The module of words that come one after the other, and the listed jumps that the assembler refuses.
use Rattle.std.specs.Prelude.{ℕ, zero, suc, ℤ, pos, negsuc, ◌+◌, ◌*◌, Bool, false, nat_lt}
use Rattle.std.specs.Prelude.{if◌then◌else◌, List, [], ◌∷◌, length, drop}
use Rattle.std.specs.Prelude.{Option, Some, None, Result, Ok, Err}
use Rattle.std.specs.Option.{option_map}
use Rattle.source_defs.specs.Refusals.{Refusal}
use Rattle.tms_defs.specs.Words.{join}
use Rattle.tms_defs.specs.Instructions.{instr_at}
use Rattle.tms_defs.specs.declared.instruction.JumpOp.{JumpOp}
use Rattle.tms_defs.specs.declared.instruction.JumpOp.TheVariants.{SBO, SBZ, TB}
use Rattle.tms_defs.specs.declared.instruction.Instr.{Instr}
use Rattle.tms_defs.specs.declared.instruction.Instr.TheVariants.{Two, Reg, Shift, One, Jump, Imm, Bare}
use Rattle.object_defs.specs.declared.spot.Spot.TheVariants as spot
use Rattle.object_defs.specs.Digits.{padded}
use Rattle.object_defs.specs.Modules.{Module}
use Rattle.instruction_defs.specs.declared.causes.FormError.TheVariants.{JumpTooFar}
use Rattle.instruction_defs.specs.Printed.{printed}
use Rattle.asm_defs.specs.declared.causes.AsmCause.{AsmCause}
use Rattle.asm_defs.specs.declared.causes.AsmCause.TheVariants.{Form}
use Rattle.line_laws.specs.KnownLines.{pieces_of}

-- bytes as words, the high byte first; a last odd byte is the high one of a word whose low one is 0
abbrev pub padded_words : List ℕ → List ℕ
padded_words [] = []
padded_words (byte ∷ []) = join byte 0 ∷ []
padded_words (more ∷ less ∷ rest) = join more less ∷ padded_words rest

-- The module of words that come one after the other from an absolute place on, with an absolute entry or none: these
-- words, and no name, no use of a name and no relocatable code.
abbrev pub module_of_words : ℕ → List ℕ → Option ℕ → Module
module_of_words at words entry =
    record {
      name = padded 8 [];
      size = 0;
      pieces = pieces_of at words;
      defs = [];
      refs = [];
      entry = option_map spot.Absolute entry;
    }

-- a number of words from the next instruction on lead below address 0, or past the last address
abbrev pub leads_out : ℕ → ℤ → Bool
leads_out next (pos count) = nat_lt 0xFFFF (next + 2 * count)
leads_out next (negsuc count) = nat_lt next (2 * suc count)

-- The jump of an operation, whose next instruction is at an address, wraps around the ends of memory. SBO, SBZ and
-- TB do not jump.
abbrev pub jump_wraps : JumpOp → ℕ → ℤ → Bool
jump_wraps SBO next disp = false
jump_wraps SBZ next disp = false
jump_wraps TB next disp = false
jump_wraps op next disp = leads_out next disp

abbrev pub wraps : ℕ → Option Instr → Bool
wraps at (Some (Jump op disp)) = jump_wraps op (at + 2) disp
wraps at (Some (Two op byte dst src)) = false
wraps at (Some (Reg op number src)) = false
wraps at (Some (Shift op count number)) = false
wraps at (Some (One op place)) = false
wraps at (Some (Imm op number)) = false
wraps at (Some (Bare op)) = false
wraps at None = false

-- The first jump that wraps in at most a number of lines of words, by the number of its line, from the number of the
-- first line and the address of the first word on.
abbrev pub wrapping_from : ℕ → ℕ → ℕ → List ℕ → Option ℕ
wrapping_from zero number at words = None
wrapping_from (suc most) number at [] = None
wrapping_from (suc most) number at (word ∷ words) =
    if wraps at (instr_at word) then Some number
    else (let count = (printed (word ∷ words) at).count in
    wrapping_from most (number + 1) (at + 2 * count) (drop count (word ∷ words)))

-- the first listed jump that wraps
abbrev pub first_wrapping : ℕ → ℕ → List ℕ → Option ℕ
first_wrapping number at words = wrapping_from (length words) number at words

-- A module, unless a line holds a jump that leads too far: the distance of a jump in a source does not wrap.
abbrev pub unless_far : Option ℕ → Module → Result Module (Refusal AsmCause)
unless_far None found = Ok found
unless_far (Some number) found = Err (record { line = number; cause = Form JumpTooFar })
