-- A step is refused exactly where the word at the program counter is one that no step executes, and stops at ports
-- alone: each instruction that is executed gives a state, or meets one of the eight ports.
use Rattle.std.proofs.Common.{◌≡◌, ℕ, Bool, true, false, refl, ap, sym, subst, Option, Some, None, List, [], ◌∷◌}
use Rattle.std.specs.Prelude.{eqb, ℤ, if◌then◌else◌}
use Rattle.tms_defs.specs.Words.{even, plus}
use Rattle.tms_defs.specs.Flags.{Width, Byte, Word, byte_or_word}
use Rattle.tms_defs.specs.Instructions.{instr_at}
use Rattle.tms_defs.specs.Accesses.{Answer, Gives, AtPort, NoInstruction, ◌>>=◌}
use Rattle.console_defs.specs.Memory.{Memory, Region, Rom, PortOf}
use Rattle.console_defs.specs.Memory.{region, is_port_region, is_port_address, word_read}
use Rattle.console_defs.specs.Memory.{word_written, console}
use Rattle.console_defs.proofs.MemoryLaws.{word_read_in, word_written_in, read_is_by_region, write_is_by_region}
use Rattle.tms_defs.specs.Operand.{Cpu, Mode, Register, Indirect, Symbolic, Increment}
use Rattle.tms_defs.specs.Step.{operand, index_of, with_words, value_at, with_value, stored, two, two_operands, reg}
use Rattle.tms_defs.specs.Step.{with_source, with_division, two_words_from, shift, count_of, one, one_operand, jump, jump_where}
use Rattle.tms_defs.specs.Step.{imm, bare, is_unsupported, executed, executed_where, step_end, step}
use Rattle.console_defs.specs.Causes.{is_refused, refused_at, refusal, MeetsPort}
use Rattle.tms_defs.specs.declared.flags.Flags.{Flags}
use Rattle.tms_defs.specs.declared.instruction.Place.{Place}
use Rattle.tms_defs.specs.declared.instruction.TwoOp.{TwoOp}
use Rattle.tms_defs.specs.declared.instruction.TwoOp.TheVariants.{SZC}
use Rattle.tms_defs.specs.declared.instruction.RegOp.{RegOp}
use Rattle.tms_defs.specs.declared.instruction.RegOp.TheVariants.{LDCR, STCR, DIV}
use Rattle.tms_defs.specs.declared.instruction.ShiftOp.{ShiftOp}
use Rattle.tms_defs.specs.declared.instruction.OneOp.{OneOp}
use Rattle.tms_defs.specs.declared.instruction.OneOp.TheVariants.{BLWP, X}
use Rattle.tms_defs.specs.declared.instruction.JumpOp.{JumpOp}
use Rattle.tms_defs.specs.declared.instruction.JumpOp.TheVariants.{SBO, SBZ, TB}
use Rattle.tms_defs.specs.declared.instruction.ImmOp.{ImmOp}
use Rattle.tms_defs.specs.declared.instruction.ImmOp.TheVariants.{LI, STWP, STST}
use Rattle.tms_defs.specs.declared.instruction.BareOp.{BareOp}
use Rattle.tms_defs.specs.declared.instruction.BareOp.TheVariants.{LWPI, LIMI, RTWP}
use Rattle.tms_defs.specs.declared.instruction.Instr.{Instr}
use Rattle.tms_defs.specs.declared.instruction.Instr.TheVariants.{Two, Reg, Shift, One, Jump, Imm, Bare}
use Rattle.tms_defs.specs.declared.step_end.StepEnd.{StepEnd}

-- An access, an operand or an instruction that is executed: it gives a value, or a port is where it stops.
pub data Executes {X : Type 0} : Answer X → Type 0 where
  GivesValue : (x : X) → Executes (Gives x)
  MeetsPortAt : (address : ℕ) → is_port_address address ≡ true → Executes (AtPort address)

-- So does what is done with its value, where that does.
next_executes : {X Y : Type 0} (a : Answer X) (next : X → Answer Y) →
    Executes a → ((x : X) → Executes (next x)) → Executes (a >>= next)
next_executes (Gives x) next is all = all x
next_executes (AtPort address) next (MeetsPortAt a port) all = MeetsPortAt address port
next_executes NoInstruction next is all = elim is [ ]

either_executes : (test : Bool) (a b : Answer ℕ) → Executes a → Executes b →
    Executes (if test then a else b)
either_executes true a b first second = first
either_executes false a b first second = second

-- The word accesses of the console.
read_in : (place : Region) (m : Memory) (address : ℕ) → region address ≡ place →
    Executes (word_read_in place m address)
read_in (Rom at) m address e = GivesValue _
read_in (PortOf port) m address e = MeetsPortAt address (ap is_port_region e)
read_in _ m address e = GivesValue _

read_executes : (m : Memory) (address : ℕ) → Executes (word_read m address)
read_executes m address =
    subst Executes (sym (read_is_by_region m address)) (read_in (region (even address)) m (even address) refl)

write_in : (place : Region) (m : Memory) (address word : ℕ) → region address ≡ place →
    Executes (word_written_in place m address word)
write_in (Rom at) m address word e = GivesValue _
write_in (PortOf port) m address word e = MeetsPortAt address (ap is_port_region e)
write_in _ m address word e = GivesValue _

write_executes : (m : Memory) (address word : ℕ) → Executes (word_written m address word)
write_executes m address word =
    subst Executes (sym (write_is_by_region m address word)) (write_in (region (even address)) m (even address) word refl)

ruleset accesses = (next_executes, read_executes, write_executes, GivesValue)

with_words_executes : (x : Cpu Memory) (writes : List (ℕ × ℕ)) → Executes (with_words Memory console x writes)
with_words_executes x [] = GivesValue x
with_words_executes x ((address, word) ∷ rest) =
    let all : (written : Cpu Memory) → Executes (with_words Memory console written rest) =
    λ written. with_words_executes written rest in
    search (accesses, all)

index_executes : (x : Cpu Memory) (number : ℕ) → Executes (index_of Memory console x number)
index_executes x number = either_executes (eqb number 0) _ _ (search accesses) (search accesses)

-- The operands, in each mode.
operand_executes : (mode : Mode) (width : Width) (number : ℕ) (x : Cpu Memory) →
    Executes (operand Memory console mode width number x)
operand_executes Register width number x = search accesses
operand_executes Indirect width number x = search accesses
operand_executes Symbolic width number x = search (accesses, index_executes)
operand_executes Increment width number x = search accesses

value_executes : (width : Width) (address : ℕ) (x : Cpu Memory) → Executes (value_at Memory console width address x)
value_executes Byte address x = search accesses
value_executes Word address x = search accesses

with_value_executes : (width : Width) (address number : ℕ) (x : Cpu Memory) →
    Executes (with_value Memory console width address number x)
with_value_executes Byte address number x = search accesses
with_value_executes Word address number x = search accesses

stored_executes : (width : Width) (address number : ℕ) (flags : Flags) (x : Cpu Memory) →
    Executes (stored Memory console width address number flags x)
stored_executes width address number flags x = search (accesses, with_value_executes)

ruleset operands = (accesses, operand_executes, value_executes, stored_executes, with_words_executes)

-- The operations, by form; those that are not executed are left out.
two_executes : (op : TwoOp) (width : Width) (source address : ℕ) (x : Cpu Memory) →
    Executes (two Memory console op width source address x)
two_executes SZC width source address x = search operands
two_executes _ width source address x = search operands

two_operands_executes : (op : TwoOp) (width : Width) (dst src : Place) (x : Cpu Memory) →
    Executes (two_operands Memory console op width dst src x)
two_operands_executes op width dst src x = search (operands, two_executes)

division_executes : (words : Option (ℕ × ℕ)) (address : ℕ) (x : Cpu Memory) →
    Executes (with_division Memory console words address x)
division_executes (Some words) address x = with_words_executes x (two_words_from address words)
division_executes None address x = GivesValue x

reg_executes : (op : RegOp) (number source : ℕ) (src : Place) (x : Cpu Memory) →
    is_unsupported (Reg op number src) ≡ false →
    Executes (reg Memory console op number source x)
reg_executes LDCR number source src x e = absurd (cc)
reg_executes STCR number source src x e = absurd (cc)
reg_executes DIV number source src x e = search (operands, division_executes) depth 8
reg_executes _ number source src x e = search operands

source_executes : (op : RegOp) (number : ℕ) (src : Place) (x : Cpu Memory) →
    is_unsupported (Reg op number src) ≡ false → Executes (with_source Memory console op number src x)
source_executes op number src x e =
    let all : (source : ℕ) (y : Cpu Memory) → Executes (reg Memory console op number source y) =
    λ source y. reg_executes op number source src y e in
    search (operands, all)

count_executes : (count : ℕ) (x : Cpu Memory) → Executes (count_of Memory console count x)
count_executes count x = either_executes (eqb count 0) _ _ (search accesses) (search accesses)

shift_executes : (op : ShiftOp) (count number : ℕ) (x : Cpu Memory) →
    Executes (shift Memory console op count number x)
shift_executes op count number x = search (operands, count_executes)

one_executes : (op : OneOp) (address : ℕ) (at : Place) (x : Cpu Memory) → is_unsupported (One op at) ≡ false →
    Executes (one Memory console op address x)
one_executes BLWP address at x e = search operands depth 8
one_executes X address at x e = absurd (cc)
one_executes _ address at x e = search operands

one_operand_executes : (op : OneOp) (at : Place) (x : Cpu Memory) → is_unsupported (One op at) ≡ false →
    Executes (one_operand Memory console op at x)
one_operand_executes op at x e =
    let all : (address : ℕ) (y : Cpu Memory) → Executes (one Memory console op address y) =
    λ address y. one_executes op address at y e in
    search (operands, all)

jump_where_executes : (taken : Bool) (disp : ℤ) (x : Cpu Memory) → Executes (jump_where (Some taken) disp x)
jump_where_executes taken disp x = GivesValue _

jump_executes : (op : JumpOp) (disp : ℤ) (x : Cpu Memory) → is_unsupported (Jump op disp) ≡ false →
    Executes (jump op disp x)
jump_executes SBO disp x e = absurd (cc)
jump_executes SBZ disp x e = absurd (cc)
jump_executes TB disp x e = absurd (cc)
jump_executes _ disp x e = search jump_where_executes

imm_executes : (op : ImmOp) (number : ℕ) (x : Cpu Memory) → Executes (imm Memory console op number x)
imm_executes LI number x = search operands
imm_executes STWP number x = search operands
imm_executes STST number x = search operands
imm_executes _ number x = search operands depth 8

bare_executes : (op : BareOp) (x : Cpu Memory) → is_unsupported (Bare op) ≡ false →
    Executes (bare Memory console op x)
bare_executes LWPI x e = search operands
bare_executes LIMI x e = search operands
bare_executes RTWP x e = search operands depth 8
bare_executes _ x e = absurd (cc)

-- An instruction whose operation is executed gives a state, or meets a port.
pub instr_executes : (instr : Instr) (x : Cpu Memory) → is_unsupported instr ≡ false →
    Executes (executed Memory console instr x)
instr_executes (Two op byte dst src) x e = two_operands_executes op (byte_or_word byte) dst src x
instr_executes (Reg op number src) x e = source_executes op number src x e
instr_executes (Shift op count number) x e = shift_executes op count number x
instr_executes (One op at) x e = one_operand_executes op at x e
instr_executes (Jump op disp) x e = jump_executes op disp x e
instr_executes (Imm op number) x e = imm_executes op number x
instr_executes (Bare op) x e = bare_executes op x e

-- An end that is refused at the address that is given, or nowhere where none is, and that stops at a port alone.
record HasCause (refused : Option ℕ) (end : StepEnd) : Type 0 where
  is_refused : refused_at end ≡ refused
  port : MeetsPort end

-- the end of a step from x by what its instruction leaves, and by the word at the program counter
abbrev end_by_state : Cpu Memory → ℕ → Answer (Cpu Memory) → StepEnd
end_by_state x word left = (step_end Memory console x (left >>= λ y. Gives (word, y))).0

abbrev execution_by_word : Cpu Memory → Answer ℕ → Answer (ℕ × Cpu Memory)
execution_by_word x word = do
  (found, next) ← word >>= given
  left ← executed_where Memory console (instr_at found) next
  Gives (found, left)
  where
    given : ℕ → Answer (ℕ × Cpu Memory)
    given w = Gives (w, record x { pc = plus x.pc 2 })

abbrev end_by_word : Cpu Memory → Answer ℕ → StepEnd
end_by_word x word = (step_end Memory console x (execution_by_word x word)).0

abbrev refusal_by_word : Cpu Memory → Answer ℕ → Option ℕ
refusal_by_word x word =
    elim word [
      | Gives w ↦ if is_refused w then Some x.pc else None
      | AtPort address ↦ None
      | NoInstruction ↦ None
    ]

by_state : (x : Cpu Memory) (word : ℕ) (left : Answer (Cpu Memory)) → Executes left →
    HasCause None (end_by_state x word left)
by_state x word (Gives y) is = record { is_refused = refl; port = tt }
by_state x word (AtPort address) (MeetsPortAt at port) = record { is_refused = refl; port = port }
by_state x word NoInstruction is = elim is [ ]

by_test : (x y : Cpu Memory) (word : ℕ) (instr : Instr) (stopping : Bool) → is_unsupported instr ≡ stopping →
    HasCause (if stopping then Some x.pc else None)
    (end_by_state x word (if stopping then NoInstruction else executed Memory console instr y))
by_test x y word instr true e = record { is_refused = refl; port = tt }
by_test x y word instr false e = by_state x word (executed Memory console instr y) (instr_executes instr y e)

by_row : (x y : Cpu Memory) (word : ℕ) (found : Option Instr) →
    HasCause (if elim found [ Some instr ↦ is_unsupported instr | None ↦ true ] then Some x.pc else None)
    (end_by_state x word (executed_where Memory console found y))
by_row x y word (Some instr) = by_test x y word instr (is_unsupported instr) refl
by_row x y word None = record { is_refused = refl; port = tt }

by_word : (x : Cpu Memory) (word : Answer ℕ) → Executes word →
    HasCause (refusal_by_word x word) (end_by_word x word)
by_word x (Gives word) is = by_row x (record x { pc = plus x.pc 2 }) word (instr_at word)
by_word x (AtPort address) (MeetsPortAt at port) = record { is_refused = refl; port = port }
by_word x NoInstruction is = elim is [ ]

-- A step is refused where the word at the program counter is read and no step executes it, and nowhere else.
pub step_refused : (x : Cpu Memory) → refused_at (step Memory console x).0 ≡ refusal x
step_refused x = (by_word x (word_read x.memory x.pc) (read_executes x.memory x.pc)).is_refused

-- A step that stops at an address meets a port there.
pub step_meets_port : (x : Cpu Memory) → MeetsPort (step Memory console x).0
step_meets_port x = (by_word x (word_read x.memory x.pc) (read_executes x.memory x.pc)).port

-- The word 0 belongs to no row; LREX has a row and is not executed; RTWP is.
pub zero_is_refused : is_refused 0 ≡ true
zero_is_refused = refl

pub lrex_is_refused : is_refused 0x03E0 ≡ true
lrex_is_refused = refl

pub rtwp_is_not_refused : is_refused 0x0380 ≡ false
rtwp_is_not_refused = refl
