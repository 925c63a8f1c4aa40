-- What the processor does: its operands, its instructions by their forms, and one step. All is stated over any memory
-- with the four accesses, so the order of the lines is the order of the accesses.
use Rattle.std.specs.Prelude.{ℕ, ℤ, ◌+◌, ◌*◌, ◌==◌, Bool, true, false, if◌then◌else◌, Option, Some, None}
use Rattle.std.specs.Prelude.{List, [], ◌∷◌, ◌++◌}
use Rattle.tms_defs.specs.Words.{plus, even}
use Rattle.tms_defs.specs.Flags.{Width, Byte, Word, byte_or_word, size_of, by_result, sum_of, sum_flags, difference_of}
use Rattle.tms_defs.specs.Flags.{difference_flags, negation_of, negation_flags, absolute_of, absolute_flags}
use Rattle.tms_defs.specs.Logic.{conjunction_of, ones_set, ones_cleared, exclusive_or_of, complement_of, swapped}
use Rattle.tms_defs.specs.Logic.{by_ones}
use Rattle.tms_defs.specs.Logic.{by_zeros}
use Rattle.tms_defs.specs.MultiplyDivide.{product_of, division_of, by_division}
use Rattle.tms_defs.specs.Shifts.{count_in, shifted, by_shift}
use Rattle.tms_defs.specs.Jumps.{condition, jump_target}
use Rattle.tms_defs.specs.Status.{status_word, status_at, with_result, with_order, with_extension, with_mask}
use Rattle.tms_defs.specs.Instructions.{instr_at}
use Rattle.tms_defs.specs.Accesses.{Answer, Gives, AtPort, NoInstruction, ◌>>=◌, Accesses}
use Rattle.tms_defs.specs.Operand.{Cpu, Mode, Register, Indirect, Symbolic, Increment, mode_of, register_in, register}
use Rattle.tms_defs.specs.declared.flags.Flags.{Flags}
use Rattle.tms_defs.specs.declared.instruction.TwoOp.{TwoOp}
use Rattle.tms_defs.specs.declared.instruction.TwoOp.TheVariants.{SZC, S, C, A, MOV, SOC}
use Rattle.tms_defs.specs.declared.instruction.RegOp.{RegOp}
use Rattle.tms_defs.specs.declared.instruction.RegOp.TheVariants.{COC, CZC, XOR, XOP, LDCR, STCR, MPY, DIV}
use Rattle.tms_defs.specs.declared.instruction.ShiftOp.{ShiftOp}
use Rattle.tms_defs.specs.declared.instruction.OneOp.{OneOp}
use Rattle.tms_defs.specs.declared.instruction.OneOp.TheVariants.{BLWP, B, X, CLR, NEG, INV, INC, INCT, DEC, DECT}
use Rattle.tms_defs.specs.declared.instruction.OneOp.TheVariants.{BL, SWPB, SETO, ABS}
use Rattle.tms_defs.specs.declared.instruction.JumpOp.{JumpOp}
use Rattle.tms_defs.specs.declared.instruction.JumpOp.TheVariants.{SBO, SBZ, TB}
use Rattle.tms_defs.specs.declared.instruction.ImmOp.{ImmOp}
use Rattle.tms_defs.specs.declared.instruction.ImmOp.TheVariants.{LI, AI, ANDI, ORI, CI, STWP, STST}
use Rattle.tms_defs.specs.declared.instruction.BareOp.{BareOp}
use Rattle.tms_defs.specs.declared.instruction.BareOp.TheVariants.{LWPI, LIMI, IDLE, RSET, RTWP, CKON, CKOF, LREX}
use Rattle.tms_defs.specs.declared.instruction.Place.{Place}
use Rattle.tms_defs.specs.declared.instruction.Instr.{Instr}
use Rattle.tms_defs.specs.declared.instruction.Instr.TheVariants.{Two, Reg, Shift, One, Jump, Imm, Bare}
use Rattle.tms_defs.specs.declared.step_end.StepEnd.{StepEnd}
use Rattle.tms_defs.specs.declared.step_end.StepEnd.TheVariants.{Done, Refused, Port}

-- Two words and their addresses: one at an address, and one after it.
abbrev pub two_words_from : ℕ → ℕ × ℕ → List (ℕ × ℕ)
two_words_from address (first, second) = (address, first) ∷ (plus address 2, second) ∷ []

-- Profile: these operations are not executed: those of the communication register unit, the instructions of external
-- devices, and the execution of a word elsewhere.
abbrev pub is_unsupported : Instr → Bool
is_unsupported (Reg LDCR number src) = true
is_unsupported (Reg STCR number src) = true
is_unsupported (One X at) = true
is_unsupported (Jump SBO disp) = true
is_unsupported (Jump SBZ disp) = true
is_unsupported (Jump TB disp) = true
is_unsupported (Bare IDLE) = true
is_unsupported (Bare RSET) = true
is_unsupported (Bare CKON) = true
is_unsupported (Bare CKOF) = true
is_unsupported (Bare LREX) = true
is_unsupported _ = false

module _ {M : Type 0} where
  abbrev pub with_flags : Cpu M → Flags → Cpu M
  with_flags x flags = record x { status = record x.status { flags = flags } }

  -- What is kept of the processor in registers 13, 14 and 15 of the new workspace.
  -- TMS9900 data manual, "Branch and load workspace pointer", "Extended operation (XOP) instruction".
  -- Profile: it is written in this order.
  abbrev pub kept_in : ℕ → Cpu M → List (ℕ × ℕ)
  kept_in wp x =
      (register_in wp 13, x.wp) ∷ (register_in wp 14, x.pc) ∷ (register_in wp 15, status_word x.status) ∷ []

  -- A jump whose condition holds goes to its target; without a condition it is no jump.
  -- TMS9900 data manual, "Jump instructions".
  abbrev pub jump_where : Option Bool → ℤ → Cpu M → Answer (Cpu M)
  jump_where (Some taken) disp x = Gives (record x { pc = if taken then jump_target x.pc disp else x.pc })
  jump_where None disp x = NoInstruction

  abbrev pub jump : JumpOp → ℤ → Cpu M → Answer (Cpu M)
  jump op disp x = jump_where (condition op x.status) disp x

module _ (M : Type 0) (access : Accesses M) where
  abbrev pub word_at : ℕ → Cpu M → Answer ℕ
  word_at address x = access.word x.memory address

  abbrev pub with_word : Cpu M → ℕ → ℕ → Answer (Cpu M)
  with_word x address word = access.with_word x.memory address word >>= λ memory. Gives (record x { memory = memory })

  -- Words are written in a row; of each pair the first is the address.
  abbrev pub with_words : Cpu M → List (ℕ × ℕ) → Answer (Cpu M)
  with_words x [] = Gives x
  with_words x ((address, word) ∷ rest) = do
    written ← with_word x address word
    with_words written rest

  -- The word at the program counter, which goes on by two.
  abbrev pub next_word : Cpu M → Answer (ℕ × Cpu M)
  next_word x = word_at x.pc x >>= λ word. Gives (word, record x { pc = plus x.pc 2 })

  -- Register 0 is no index. TMS9900 data manual, "Indexed addressing".
  abbrev pub index_of : Cpu M → ℕ → Answer ℕ
  index_of x number = if number == 0 then Gives 0 else word_at (register number x) x

  -- The address of an operand, and the state after the growth of its register: by the bytes of the operand. A register
  -- is at the address of its word, so an operand of a byte in it is the high byte.
  -- TMS9900 data manual, "Addressing modes".
  -- Profile: the following word is read before the index register.
  abbrev pub operand : Mode → Width → ℕ → Cpu M → Answer (ℕ × Cpu M)
  operand Register width number x = Gives (register number x, x)
  operand Indirect width number x = word_at (register number x) x >>= λ address. Gives (address, x)
  operand Symbolic width number x = do
    (base, next) ← next_word x
    index ← index_of next number
    Gives (plus base index, next)
  operand Increment width number x = do
    address ← word_at (register number x) x
    grown ← with_word x (register number x) (plus address (size_of width))
    Gives (address, grown)

  -- The value at an address. A byte that is read may change a port.
  -- Profile: it does so too as an operand in a register whose place is a port.
  abbrev pub value_at : Width → ℕ → Cpu M → Answer (ℕ × Cpu M)
  value_at Byte address x = do
    (byte, memory) ← access.byte x.memory address
    Gives (byte, record x { memory = memory })
  value_at Word address x = word_at address x >>= λ word. Gives (word, x)

  abbrev pub with_value : Width → ℕ → ℕ → Cpu M → Answer (Cpu M)
  with_value Byte address number x = do
    memory ← access.with_byte x.memory address number
    Gives (record x { memory = memory })
  with_value Word address number x = with_word x address number

  -- A result is stored at an address, and its status bits are set.
  abbrev pub stored : Width → ℕ → ℕ → Flags → Cpu M → Answer (Cpu M)
  stored width address number flags x = do
    written ← with_value width address number x
    Gives (record written { status = with_result width number flags written.status })

  -- A result that sets L>, A> and EQ, and leaves C and OV.
  abbrev pub stored_by_result : Width → ℕ → ℕ → Cpu M → Answer (Cpu M)
  stored_by_result width address number x =
      stored width address number (by_result width number x.status.flags) x

  -- A change to another workspace: the new workspace pointer and program counter are two words of memory.
  -- TMS9900 data manual, "Branch and load workspace pointer", "Extended operation (XOP) instruction".
  -- Profile: their lowest bits are cleared, and both are read before anything is written.
  abbrev pub vector_at : ℕ → Cpu M → Answer (ℕ × ℕ)
  vector_at address x = do
    wp ← word_at address x
    pc ← word_at (plus address 2) x
    Gives (even wp, even pc)

  -- What a context switch kept in registers 13, 14 and 15.
  -- TMS9900 data manual, "Return workspace pointer (RTWP) instruction".
  -- Profile: they are read in this order, before anything changes.
  abbrev pub kept_of : Cpu M → Answer (ℕ × ℕ × ℕ)
  kept_of x = do
    wp ← word_at (register 13 x) x
    pc ← word_at (register 14 x) x
    status ← word_at (register 15 x) x
    Gives (wp, pc, status)

  -- Two operands in any mode: an operation on a source and the destination at an address, each by the sections of the
  -- TMS9900 data manual that have its name, for words and for bytes.
  abbrev pub two : TwoOp → Width → ℕ → ℕ → Cpu M → Answer (Cpu M)
  -- Set zeros corresponding.
  two SZC width source address x = do
    (found, read) ← value_at width address x
    stored_by_result width address (ones_cleared width found source) read
  -- Subtract: L>, A>, EQ, C and OV by the difference.
  two S width source address x = do
    (found, read) ← value_at width address x
    stored width address (difference_of width found source) (difference_flags width found source) read
  -- Compare: the source against the destination, of which neither changes.
  two C width source address x = do
    (found, read) ← value_at width address x
    Gives (record read { status = with_order width source found read.status })
  -- Add: L>, A>, EQ, C and OV by the sum.
  two A width source address x = do
    (found, read) ← value_at width address x
    stored width address (sum_of width found source) (sum_flags width found source) read
  -- Move: L>, A> and EQ by the source. Profile: the destination is written without being read.
  two MOV width source address x = stored_by_result width address source x
  -- Set ones corresponding.
  two SOC width source address x = do
    (found, read) ← value_at width address x
    stored_by_result width address (ones_set found source) read

  -- The source is derived first.
  -- TMS9900 data manual, "Dual operand instructions with multiple addressing modes for source and destination operand".
  -- Profile: its register grows and it is read before the destination is derived.
  abbrev pub two_operands : TwoOp → Width → Place → Place → Cpu M → Answer (Cpu M)
  two_operands op width dst src x = do
    (source, derived) ← operand (mode_of src.mode) width src.reg x
    (value, read) ← value_at width source derived
    (destination, left) ← operand (mode_of dst.mode) width dst.reg read
    two op width value destination left

  -- A source in any mode, and a register: the value of the source, and the register's.
  -- Profile: the register is read after the source, by COC, CZC, XOR, MPY and DIV.
  abbrev pub values_at : ℕ → ℕ → Cpu M → Answer (ℕ × ℕ)
  values_at source address x = do
    value ← word_at source x
    found ← word_at address x
    Gives (value, found)

  -- A quotient and a remainder, where there are any, go to an address and the word after it.
  -- Profile: in this order; where there are none, nothing is written.
  abbrev pub with_division : Option (ℕ × ℕ) → ℕ → Cpu M → Answer (Cpu M)
  with_division (Some words) address x = with_words x (two_words_from address words)
  with_division None address x = Gives x

  -- An operation on a source at an address, and a register or the number of an extended operation, each by the section
  -- of the TMS9900 data manual that has its name.
  abbrev pub reg : RegOp → ℕ → ℕ → Cpu M → Answer (Cpu M)
  -- Compare ones corresponding.
  reg COC number source x = do
    (value, found) ← values_at source (register number x) x
    Gives (with_flags x (by_ones found value x.status.flags))
  -- Compare zeros corresponding.
  reg CZC number source x = do
    (value, found) ← values_at source (register number x) x
    Gives (with_flags x (by_zeros found value x.status.flags))
  -- Exclusive OR.
  reg XOR number source x = do
    (value, found) ← values_at source (register number x) x
    stored_by_result Word (register number x) (exclusive_or_of found value) x
  -- Extended operation: a context switch by the vector of the number; the
  -- source's address goes to register 11 of the new workspace, and X is set.
  -- Profile: the value of the source is not read, an odd address of it is handed on as it is, register 11 is written
  -- last, and the status that is kept is the one before X was set.
  reg XOP number source x = do
    (wp, pc) ← vector_at (0x0040 + 4 * number) x
    left ← with_words x (kept_in wp x ++ ((register_in wp 11, source) ∷ []))
    Gives (record left { wp = wp; pc = pc; status = with_extension left.status })
  -- Multiply: the product goes to the register and the word after it; no status bit is set.
  -- Profile: the high word is written before the low one, and the word after register 15 is the one after the workspace.
  reg MPY number source x = do
    (value, found) ← values_at source (register number x) x
    with_words x (two_words_from (register number x) (product_of found value))
  -- Divide: the number of the register and of the word after it, divided by the source.
  -- Profile: both words are read, whatever the source is; the word after register 15 is the one after the workspace.
  reg DIV number source x = do
    (divisor, high) ← values_at source (register number x) x
    low ← word_at (plus (register number x) 2) x
    left ← with_division (division_of high low divisor) (register number x) x
    Gives (with_flags left (by_division high low divisor left.status.flags))
  reg _ number source x = NoInstruction  -- never reached: `executed_where` refuses these first

  -- TMS9900 data manual, "Dual operand instructions with multiple addressing modes for the source operand and workspace
  -- register addressing for the destination", "Extended operation (XOP) instruction".
  abbrev pub with_source : RegOp → ℕ → Place → Cpu M → Answer (Cpu M)
  with_source op number src x = do
    (source, derived) ← operand (mode_of src.mode) Word src.reg x
    reg op number source derived

  -- Shifts of a register. A count of 0 in the instruction takes it from register 0.
  -- TMS9900 data manual, "Shift instructions".
  abbrev pub count_of : ℕ → Cpu M → Answer ℕ
  count_of count x =
      if count == 0 then (word_at (register 0 x) x >>= λ word. Gives (count_in word)) else Gives count

  -- TMS9900 data manual, "Shift instructions".
  -- Profile: the register is read before register 0.
  abbrev pub shift : ShiftOp → ℕ → ℕ → Cpu M → Answer (Cpu M)
  shift op count number x = do
    found ← word_at (register number x) x
    places ← count_of count x
    stored Word (register number x) (shifted op found places) (by_shift op found places x.status.flags) x

  -- One operand in any mode: an operation on the operand at an address.
  -- TMS9900 data manual, "Single operand instructions".
  abbrev pub one : OneOp → ℕ → Cpu M → Answer (Cpu M)
  -- Branch and load workspace pointer: a context switch by the vector at the address.
  one BLWP address x = do
    (wp, pc) ← vector_at address x
    left ← with_words x (kept_in wp x)
    Gives (record left { wp = wp; pc = pc })
  -- Branch. Profile: the address itself is taken, its lowest bit cleared, and no value is read.
  one B address x = Gives (record x { pc = even address })
  -- Clear: no status bit is set. Profile: the operand is written without being read.
  one CLR address x = with_word x address 0
  -- Negate: L>, A>, EQ, C and OV by its own rule.
  one NEG address x = do
    found ← word_at address x
    stored Word address (negation_of Word found) (negation_flags Word found) x
  -- Invert.
  one INV address x = do
    found ← word_at address x
    stored_by_result Word address (complement_of Word found) x
  -- Increment, and increment by two: as an addition.
  one INC address x = do
    found ← word_at address x
    stored Word address (sum_of Word found 1) (sum_flags Word found 1) x
  one INCT address x = do
    found ← word_at address x
    stored Word address (sum_of Word found 2) (sum_flags Word found 2) x
  -- Decrement, and decrement by two: as a subtraction.
  one DEC address x = do
    found ← word_at address x
    stored Word address (difference_of Word found 1) (difference_flags Word found 1) x
  one DECT address x = do
    found ← word_at address x
    stored Word address (difference_of Word found 2) (difference_flags Word found 2) x
  -- Branch and link: as a branch; the address of the next instruction goes to register 11.
  -- Profile: the address itself is taken, its lowest bit cleared, and no value is read.
  one BL address x = with_word x (register 11 x) x.pc >>= λ linked. Gives (record linked { pc = even address })
  -- Swap bytes: no status bit is set.
  one SWPB address x = do
    found ← word_at address x
    with_word x address (swapped found)
  -- Set to ones: no status bit is set. Profile: the operand is written without being read.
  one SETO address x = with_word x address 0xFFFF
  -- Absolute value: L>, A>, EQ, C and OV by its own rule.
  -- Profile: the value is written where it has not changed too.
  one ABS address x = do
    found ← word_at address x
    stored Word address (absolute_of Word found) (absolute_flags Word found) x
  one _ address x = NoInstruction  -- never reached: `executed_where` refuses these first

  abbrev pub one_operand : OneOp → Place → Cpu M → Answer (Cpu M)
  one_operand op at x = do
    (address, derived) ← operand (mode_of at.mode) Word at.reg x
    one op address derived

  -- A register, most with a word that follows: the word, the register, and the state after both.
  -- Profile: the register is read after the word.
  abbrev pub immediate : ℕ → Cpu M → Answer (ℕ × ℕ × Cpu M)
  immediate number x = do
    (word, next) ← next_word x
    found ← word_at (register number next) next
    Gives (word, found, next)

  -- TMS9900 data manual, "Immediate register instructions", "Internal register store instructions".
  abbrev pub imm : ImmOp → ℕ → Cpu M → Answer (Cpu M)
  -- Load immediate. Profile: the register is written without being read.
  imm LI number x = do
    (word, next) ← next_word x
    stored_by_result Word (register number next) word next
  -- Add immediate: L>, A>, EQ, C and OV by the sum.
  imm AI number x = do
    (word, found, next) ← immediate number x
    stored Word (register number next) (sum_of Word found word) (sum_flags Word found word) next
  -- And immediate.
  imm ANDI number x = do
    (word, found, next) ← immediate number x
    stored_by_result Word (register number next) (conjunction_of found word) next
  -- Or immediate.
  imm ORI number x = do
    (word, found, next) ← immediate number x
    stored_by_result Word (register number next) (ones_set found word) next
  -- Compare immediate: the register against the word.
  imm CI number x = do
    (word, found, next) ← immediate number x
    Gives (record next { status = with_order Word found word next.status })
  -- Store workspace pointer: no status bit is set. Profile: the register is written without being read.
  imm STWP number x = with_word x (register number x) x.wp
  -- Store status: no status bit is set. Profile: the register is written without being read.
  imm STST number x = with_word x (register number x) (status_word x.status)

  -- No operand but a word that may follow the instruction.
  abbrev pub bare : BareOp → Cpu M → Answer (Cpu M)
  -- Load workspace pointer immediate: no status bit is set.
  -- TMS9900 data manual, "Internal register load immediate instructions".
  -- Profile: the lowest bit is cleared.
  bare LWPI x = do
    (word, next) ← next_word x
    Gives (record next { wp = even word })
  -- Load interrupt mask: the low four bits of the word.
  -- TMS9900 data manual, "Internal register load immediate instructions".
  bare LIMI x = do
    (word, next) ← next_word x
    Gives (record next { status = with_mask word next.status })
  -- Return from a context switch: workspace pointer, program counter and the whole status register.
  -- TMS9900 data manual, "Return workspace pointer (RTWP) instruction".
  -- Profile: the lowest bits of the workspace pointer and of the program counter are cleared.
  bare RTWP x = do
    (wp, pc, status) ← kept_of x
    Gives (record x { wp = even wp; pc = even pc; status = status_at status })
  bare _ x = NoInstruction  -- never reached: `executed_where` refuses these first

  -- An instruction is executed; the program counter is after its first word.
  -- TMS9900 data manual, "Instructions".
  abbrev pub executed : Instr → Cpu M → Answer (Cpu M)
  executed (Two op byte dst src) x = two_operands op (byte_or_word byte) dst src x
  executed (Reg op number src) x = with_source op number src x
  executed (Shift op count number) x = shift op count number x
  executed (One op at) x = one_operand op at x
  executed (Jump op disp) x = jump op disp x
  executed (Imm op number) x = imm op number x
  executed (Bare op) x = bare op x

  -- Profile: a word that belongs to no row is no instruction; nor is an operation that is not executed, whatever its
  -- operands are.
  abbrev pub executed_where : Option Instr → Cpu M → Answer (Cpu M)
  executed_where (Some instr) x = if is_unsupported instr then NoInstruction else executed instr x
  executed_where None x = NoInstruction

  -- The instruction at the program counter is read and executed: its word, and the state after it.
  abbrev pub execution : Cpu M → Answer (ℕ × Cpu M)
  execution x = do
    (word, next) ← next_word x
    left ← executed_where (instr_at word) next
    Gives (word, left)

  -- Profile: a step that meets a port, or a word that is no instruction, changes nothing.
  abbrev pub step_end : Cpu M → Answer (ℕ × Cpu M) → StepEnd × Cpu M
  step_end x (Gives (word, left)) = (Done word, left)
  step_end x (AtPort address) = (Port address, x)
  step_end x NoInstruction = (Refused x.pc, x)

  -- One step: how it ends, and the state after it.
  abbrev pub step : Cpu M → StepEnd × Cpu M
  step x = step_end x (execution x)
