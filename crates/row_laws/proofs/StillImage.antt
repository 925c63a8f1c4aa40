-- No step changes the image.
use Rattle.std.proofs.Common.{◌≡◌, ℕ, zero, suc, ◌*◌, ◌%◌, ◌/◌, Bool, true, false, List, Some, None, Ok, Err, refl, ◌∙◌}
use Rattle.std.specs.Prelude.{Option, Result, IfOk, ⊤, if◌then◌else◌}
use Rattle.tms_defs.specs.Words.{high, low, plus}
use Rattle.tms_defs.specs.Flags.{Width, Byte, Word, size_of}
use Rattle.base_defs.specs.Addresses.{in_grom_of, next_in_grom}
use Rattle.gpl_defs.specs.declared.instruction.Space.{Space}
use Rattle.gpl_defs.specs.declared.instruction.Space.TheVariants.{Cpu, Vdp}
use Rattle.gpl_defs.specs.declared.instruction.PlainOp.{PlainOp}
use Rattle.gpl_defs.specs.declared.instruction.PlainOp.TheVariants.{RTN, RTNC, H, GT, EXIT, CARRY, OVF}
use Rattle.gpl_defs.specs.declared.instruction.ByteOp.{ByteOp}
use Rattle.gpl_defs.specs.declared.instruction.ByteOp.TheVariants.{RAND, BACK, ALL}
use Rattle.gpl_defs.specs.declared.instruction.GoOp.{GoOp}
use Rattle.gpl_defs.specs.declared.instruction.GoOp.TheVariants.{B, CALL}
use Rattle.gpl_defs.specs.declared.instruction.OneName.{OneName}
use Rattle.gpl_defs.specs.declared.instruction.OneName.TheVariants.{ABS, NEG, INV, CLR, CASE, CZ, INC, DEC, INCT, DECT, FETCH, PUSH}
use Rattle.gpl_defs.specs.declared.instruction.TwoName.{TwoName}
use Rattle.gpl_defs.specs.declared.instruction.TwoName.TheVariants.{ADD, SUB, MUL, DIV, AND, OR, XOR, ST, EX, CH, CHE, CGT, CGE, CEQ, CLOG, SRA, SLL, SRL, SRC}
use Rattle.gpl_defs.specs.declared.instruction.GplInstr.{GplInstr}
use Rattle.gpl_defs.specs.declared.instruction.GplInstr.TheVariants.{Plain, Byte as OfByte, Jump, Branch, One, Two, Move}
use Rattle.gpl_defs.specs.declared.instruction.GplRead.{GplRead}
use Rattle.gpl_defs.specs.declared.instruction.GplRead.TheVariants.{Instr, Refused}
use Rattle.gpl_defs.specs.Reading.{reading}
use Rattle.gpl_step_defs.specs.declared.cells.TheConstants.{RETURN_STACK, VALUE_STACK, SEED}
use Rattle.gpl_step_defs.specs.declared.status_bits.TheConstants.{CONDITION_BIT, OVERFLOW_BIT}
use Rattle.gpl_step_defs.specs.declared.reason.Reason.{Reason}
use Rattle.gpl_step_defs.specs.State.{GplState}
use Rattle.gpl_step_defs.specs.Place.{Place, further, place_of, value_at, word_at, double_at}
use Rattle.gpl_step_defs.specs.Changes.{Changes, unchanged, with_pc, with_cell, with_byte_in, with_byte, with_value, with_double, with_bit}
use Rattle.gpl_step_defs.specs.Changes.{with_overflow, condition, shown}
use Rattle.gpl_step_defs.specs.Arithmetic.{Source, has_quotient, with_quotient, exchanged, two}
use Rattle.gpl_step_defs.specs.Flow.{is_taken, branched, cells_at, with_word, top_of, on_stack, grown_by, called, returned, pushed, fetched, next_seed}
use Rattle.gpl_step_defs.specs.Copy.{From, To, ToMemory, ToRegisters, byte_from, next_from, with_byte_to, next_to, copied, move_found}
use Rattle.gpl_step_defs.specs.Step.{word_or_byte, plain, with_immediate, jump, one, source_of, destination_size, changes_of}
use Rattle.gpl_step_defs.specs.Step.{after, executed, step}
use Rattle.gpl_step_defs.specs.Run.{GplRun, one_more, run}
use Rattle.source_modules.proofs.Answers.{ok_then, any}

abbrev image_of : Changes → List ℕ
image_of c = c.state.image

-- ---- stores

byte_still : (space : Space) (address byte : ℕ) (c : Changes) → image_of (with_byte_in space address byte c) ≡ image_of c
byte_still Cpu address byte c = refl
byte_still Vdp address byte c = refl

value_still : (w : Width) (p : Place) (number : ℕ) (c : Changes) → image_of (with_value w p number c) ≡ image_of c
value_still Byte p number c = byte_still p.space p.address number c
value_still Word p number c =
    byte_still (further 1 p).space (further 1 p).address (low number) (with_byte p (high number) c) ∙ byte_still p.space p.address (high number) c

double_still : (w : Width) (p : Place) (number : ℕ) (c : Changes) → image_of (with_double w p number c) ≡ image_of c
double_still Byte p number c = value_still Word p number c
double_still Word p number c =
    value_still Word (further 2 p) (number % 65536) (with_value Word p (number / 65536) c) ∙ value_still Word p (number / 65536) c

bit_still : (mask : ℕ) (holds : Bool) (c : Changes) → image_of (with_bit mask holds c) ≡ image_of c
bit_still mask true c = refl
bit_still mask false c = refl

either_still : (b : Bool) (one other : Changes) (image : List ℕ) → image_of one ≡ image → image_of other ≡ image → image_of (if b then one else other) ≡ image
either_still true one other image this that = this
either_still false one other image this that = that

-- ---- the operations

abbrev Still : List ℕ → Changes → Type 0
Still image c = image_of c ≡ image

branch_still : (on : Bool) (to : ℕ) (c : Changes) → image_of (branched on to c) ≡ image_of c
branch_still on to c =
    bit_still CONDITION_BIT false (if is_taken on (condition c.state) then with_pc to c else c)
    ∙ either_still (is_taken on (condition c.state)) (with_pc to c) c (image_of c) refl refl

call_still : (to : ℕ) (c : Changes) → IfOk (called to c) (Still (image_of c))
call_still to c =
    ok_then (λ top. ⊤) (Still (image_of c)) (on_stack 2 (grown_by 2 (top_of RETURN_STACK c.state))) _
    (any (on_stack 2 (grown_by 2 (top_of RETURN_STACK c.state))))
    (λ top some. value_still Word (cells_at top) c.state.pc (with_cell RETURN_STACK top c))

return_still : (c : Changes) → IfOk (returned c) (Still (image_of c))
return_still c =
    ok_then (λ top. ⊤) (Still (image_of c)) (on_stack 2 (top_of RETURN_STACK c.state)) _ (any (on_stack 2 (top_of RETURN_STACK c.state))) (λ top some. refl)

push_still : (byte : ℕ) (c : Changes) → IfOk (pushed byte c) (Still (image_of c))
push_still byte c =
    ok_then (λ top. ⊤) (Still (image_of c)) (on_stack 1 (grown_by 1 (top_of VALUE_STACK c.state))) _
    (any (on_stack 1 (grown_by 1 (top_of VALUE_STACK c.state)))) (λ top some. refl)

fetch_still : (at : Place) (c : Changes) → IfOk (fetched at c) (Still (image_of c))
fetch_still at c =
    ok_then (λ top. ⊤) (Still (image_of c)) (on_stack 2 (top_of RETURN_STACK c.state)) _ (any (on_stack 2 (top_of RETURN_STACK c.state)))
    (λ top some. byte_still at.space at.address _ (with_word top (next_in_grom (word_at c.state top)) c)
    ∙ value_still Word (cells_at top) (next_in_grom (word_at c.state top)) c)

plain_still : (op : PlainOp) (c : Changes) → IfOk (plain op c) (Still (image_of c))
plain_still RTN c = ok_then (Still (image_of c)) (Still (image_of c)) (returned c) _ (return_still c) (λ d still. bit_still CONDITION_BIT false d ∙ still)
plain_still RTNC c = return_still c
plain_still EXIT c = tt
plain_still H c = bit_still CONDITION_BIT _ c
plain_still GT c = bit_still CONDITION_BIT _ c
plain_still CARRY c = bit_still CONDITION_BIT _ c
plain_still OVF c = bit_still CONDITION_BIT _ c

immediate_still : (op : ByteOp) (value : ℕ) (c : Changes) → image_of (with_immediate op value c) ≡ image_of c
immediate_still RAND value c = value_still Word (cells_at SEED) (next_seed (word_at c.state SEED)) c
immediate_still BACK value c = refl
immediate_still ALL value c = refl

jump_still : (op : GoOp) (to : ℕ) (c : Changes) → IfOk (jump op to c) (Still (image_of c))
jump_still B to c = refl
jump_still CALL to c = call_still to c

one_still : (op : OneName) (width : Width) (at : Place) (x : ℕ) (c : Changes) → IfOk (one op width at x c) (Still (image_of c))
one_still CASE width at x c = bit_still CONDITION_BIT false (with_pc (plus c.state.pc (2 * x)) c)
one_still CZ width at x c = bit_still CONDITION_BIT _ c
one_still FETCH width at x c = fetch_still at c
one_still PUSH width at x c = push_still x c
one_still ABS width at x c = value_still width at _ c
one_still NEG width at x c = value_still width at _ c
one_still INV width at x c = value_still width at _ c
one_still CLR width at x c = value_still width at 0 c
one_still INC width at x c = value_still width at _ c
one_still DEC width at x c = value_still width at _ c
one_still INCT width at x c = value_still width at _ c
one_still DECT width at x c = value_still width at _ c

exchange_still : (width : Width) (at : Place) (old : ℕ) (source : Source) (place : Option Place) (c : Changes)
    → image_of (exchanged width at old source place c) ≡ image_of c
exchange_still width at old source None c = value_still width at source.number c
exchange_still width at old source (Some place) c = value_still width place old (with_value width at source.number c) ∙ value_still width at source.number c

divide_still : (width : Width) (at : Place) (dividend divisor : ℕ) (c : Changes)
    → image_of (if has_quotient width dividend divisor
    then with_overflow false (with_quotient width at (dividend / divisor) (dividend % divisor) c)
    else with_overflow true c) ≡ image_of c
divide_still width at dividend divisor c =
    let quotient = with_value width at (dividend / divisor) c in
    either_still (has_quotient width dividend divisor) (with_overflow false (with_quotient width at (dividend / divisor) (dividend % divisor) c))
    (with_overflow true c) (image_of c)
    (bit_still OVERFLOW_BIT false (with_quotient width at (dividend / divisor) (dividend % divisor) c)
    ∙ (value_still width (further (size_of width) at) (dividend % divisor) quotient ∙ value_still width at (dividend / divisor) c))
    (bit_still OVERFLOW_BIT true c)

two_still : (op : TwoName) (width : Width) (at : Place) (x : ℕ) (source : Source) (c : Changes) → image_of (two op width at x source c) ≡ image_of c
two_still ADD width at x source c = value_still width at _ c
two_still SUB width at x source c = value_still width at _ c
two_still MUL width at x source c = double_still width at _ c
two_still DIV width at x source c = divide_still width at (double_at c.state width at) source.number c
two_still AND width at x source c = value_still width at _ c
two_still OR width at x source c = value_still width at _ c
two_still XOR width at x source c = value_still width at _ c
two_still ST width at x source c = value_still width at source.number c
two_still EX width at x source c = exchange_still width at x source source.place c
two_still CH width at x source c = bit_still CONDITION_BIT _ c
two_still CHE width at x source c = bit_still CONDITION_BIT _ c
two_still CGT width at x source c = bit_still CONDITION_BIT _ c
two_still CGE width at x source c = bit_still CONDITION_BIT _ c
two_still CEQ width at x source c = bit_still CONDITION_BIT _ c
two_still CLOG width at x source c = bit_still CONDITION_BIT _ c
two_still SRA width at x source c = value_still width at _ c
two_still SLL width at x source c = value_still width at _ c
two_still SRL width at x source c = value_still width at _ c
two_still SRC width at x source c = value_still width at _ c

to_still : (to : To) (byte : ℕ) (c : Changes) → image_of (with_byte_to to byte c) ≡ image_of c
to_still (ToMemory p) byte c = byte_still p.space p.address byte c
to_still (ToRegisters number) byte c = refl

copy_still : (bytes : ℕ) (from : From) (to : To) (c : Changes) → image_of (copied bytes from to c) ≡ image_of c
copy_still zero from to c = refl
copy_still (suc bytes) from to c =
    copy_still bytes (next_from from) (next_to to) (with_byte_to to (byte_from from c.state) c) ∙ to_still to (byte_from from c.state) c

-- ---- a step

still : (instr : GplInstr) (at : ℕ) (c : Changes) → IfOk (changes_of instr at c) (Still (image_of c))
still (Plain op) at c = plain_still op c
still (OfByte op value) at c = immediate_still op value c
still (Jump op to) at c = jump_still op to c
still (Branch on offset) at c = branch_still on (in_grom_of at offset) c
still (One op word operand) at c =
    ok_then (λ p. ⊤) (Still (image_of c)) (place_of c.state (size_of (word_or_byte word)) operand) _
    (any (place_of c.state (size_of (word_or_byte word)) operand))
    (λ p some. one_still op (word_or_byte word) p (value_at c.state (word_or_byte word) p) c)
still (Two op word dst src) at c =
    let width = word_or_byte word in
    ok_then (λ p. ⊤) (Still (image_of c)) (place_of c.state (destination_size op width) dst) _ (any (place_of c.state (destination_size op width) dst))
    (λ p some. ok_then (λ source. ⊤) (Still (image_of c)) (source_of c.state width src) _ (any (source_of c.state width src))
    (λ source found. two_still op width p (value_at c.state width p) source c))
still (Move length target source) at c =
    ok_then (λ found. ⊤) (Still (image_of c)) (move_found length target source c.state) _ (any (move_found length target source c.state))
    (λ found some. copy_still found.bytes found.from found.to c)

shown_still : (shows : Bool) (s : GplState) → (shown shows s).image ≡ s.image
shown_still true s = refl
shown_still false s = refl

abbrev StillState : List ℕ → GplState → Type 0
StillState image s = s.image ≡ image

after_still : (instr : GplInstr) (next : ℕ) (s : GplState) → IfOk (after instr next s) (StillState s.image)
unfolding after
after_still instr next s =
    let c = unchanged (record s { pc = next }) in
    ok_then (Still s.image) (StillState s.image) (changes_of instr s.pc c) _ (still instr s.pc c) (λ d same. shown_still d.shows d.state ∙ same)

read_still : (found : GplRead) (s : GplState) → IfOk (executed found s) (StillState s.image)
read_still (Instr instr next) s = after_still instr next s
read_still (Refused code) s = tt

step_still : (s : GplState) → IfOk (step s) (StillState s.image)
step_still s = read_still (reading s.image s.pc) s

-- a run from a state, by what its first step answers
abbrev pub run_on : ℕ → GplState → Result GplState Reason → GplRun
run_on limit s answer =
    elim answer [
      | Ok next ↦ one_more (run limit next)
      | Err reason ↦ record { done = 0; last = s; stop = Some reason }
    ]

run_by : (answer : Result GplState Reason) (limit : ℕ) (s : GplState) → IfOk answer (StillState s.image)
    → ((next : GplState) → (run limit next).last.image ≡ next.image) → (run_on limit s answer).last.image ≡ s.image
run_by (Ok next) limit s same again = again next ∙ same
run_by (Err reason) limit s same again = refl

-- a run leaves the image
pub run_still : (limit : ℕ) (s : GplState) → (run limit s).last.image ≡ s.image
run_still zero s = refl
run_still (suc limit) s = run_by (step s) limit s (step_still s) (λ next. run_still limit next)
