-- Each row of the table leaves a state with its lists of bytes.
use Rattle.std.proofs.Common.{◌≡◌, ℕ, zero, suc, ◌+◌, ◌*◌, ◌/◌, ◌%◌, ◌<◌, ◌≤◌, Bool, true, false, cond, List, [], ◌∷◌, ◌++◌, replicate, drop, length-append}
use Rattle.std.proofs.Common.{length-drop, Option, Some, None, Result, Ok, Err, IfOk, refl, arith}
use Rattle.std.specs.Prelude.{nat_lt, not, ◌&&◌, ◌||◌, ◌==◌, bit_and, bit_or, bit_xor, unsigned_abs, pos, ◌-ℤ◌, slice_index}
use Rattle.std.specs.Int.Bits.{and_lt}
use Rattle.std.proofs.lemmas.Nat.{or_lt, xor_lt}
use Rattle.std.proofs.lemmas.Int.{ints}
use Rattle.std.proofs.lemmas.List.{length-replicate}
use Rattle.std.proofs.lemmas.Bool.Decides.{nat_tests}
use Rattle.source_defs.specs.Refusals.{◌>>=◌}
use Rattle.tms_defs.specs.Words.{plus}
use Rattle.tms_defs.specs.Bytes.{HoldsBytes}
use Rattle.tms_defs.specs.Status.{is_set}
use Rattle.tms_defs.specs.Flags.{Width, Byte, Word, modulus, half, size_of, sum_of, sum_flags, difference_of, difference_flags, negation_of, negation_flags}
use Rattle.tms_defs.specs.Flags.{absolute_of, absolute_flags}
use Rattle.base_defs.specs.Addresses.{next_in_grom}
use Rattle.tms_defs.specs.Logic.{complement_of, swapped}
use Rattle.tms_defs.proofs.WordLaws.{join-fits, plus-fits}
use Rattle.base_defs.proofs.AddressLaws.{next-fits}
use Rattle.gpl_defs.specs.declared.instruction.PlainOp.{PlainOp}
use Rattle.gpl_defs.specs.declared.instruction.PlainOp.TheVariants.{RTN, RTNC, H, GT, EXIT, CARRY, OVF}
use Rattle.gpl_defs.specs.declared.instruction.ByteOp.{ByteOp}
use Rattle.gpl_defs.specs.declared.instruction.ByteOp.TheVariants.{RAND, BACK, ALL}
use Rattle.gpl_defs.specs.declared.instruction.GoOp.{GoOp}
use Rattle.gpl_defs.specs.declared.instruction.GoOp.TheVariants.{B, CALL}
use Rattle.gpl_defs.specs.declared.instruction.OneName.{OneName}
use Rattle.gpl_defs.specs.declared.instruction.OneName.TheVariants.{ABS, NEG, INV, CLR, CASE, CZ, INC, DEC, INCT, DECT, FETCH, PUSH}
use Rattle.gpl_defs.specs.declared.instruction.TwoName.{TwoName}
use Rattle.gpl_defs.specs.declared.instruction.TwoName.TheVariants.{ADD, SUB, MUL, DIV, AND, OR, XOR, ST, EX, SRA, SLL, SRL, SRC}
use Rattle.gpl_defs.specs.Valid.{has_words}
use Rattle.gpl_step_defs.specs.declared.cells.TheConstants.{VALUE_STACK, RETURN_STACK, RANDOM, SEED}
use Rattle.gpl_step_defs.specs.declared.reason.Reason.{Reason}
use Rattle.gpl_step_defs.specs.State.{GplState, IsState}
use Rattle.gpl_step_defs.specs.Place.{Place, further, is_visible, word_at}
use Rattle.gpl_step_defs.specs.Changes.{Changes, condition, with_pc, with_value, with_cell, with_overflow, status_of}
use Rattle.gpl_step_defs.specs.Arithmetic.{with_result, Source, with_quotient, divided, exchanged, count_of, repeated, repeated_sign, shifted_left, shifted_right}
use Rattle.gpl_step_defs.specs.Arithmetic.{two}
use Rattle.gpl_step_defs.specs.Flow.{is_taken, branched, selected, cells_at, with_word, top_of, on_stack, grown_by, called, returned, pushed, fetched, next_seed}
use Rattle.gpl_step_defs.specs.Flow.{drawn}
use Rattle.gpl_step_defs.specs.Step.{word_or_byte, plain, with_immediate, jump, one}
use Rattle.gpl_step_defs.proofs.Kept.{Kept, with_cell_keeps, with_register_keeps, with_pc_keeps, with_byte_keeps, with_value_keeps, with_double_keeps}
use Rattle.gpl_step_defs.proofs.Kept.{with_flags_keeps, with_condition_keeps, with_overflow_keeps, sum_fits, difference_fits, negation_fits, complement_fits}

-- what follows a check that passes
pub then_if_ok : {A B C : Type 0} (Q : A → Type 0) (P : B → Type 0) (first : Result A C) (next : A → Result B C) → IfOk first Q → ((x : A) → Q x → IfOk (next x) P) → IfOk (first >>= next) P
then_if_ok Q P (Ok x) next q goes = goes x q
then_if_ok Q P (Err cause) next q goes = tt

-- ---- results

abs_fits : (x m : ℕ) (b : Bool) → x < m → 0 < x → unsigned_abs (cond b (pos x) (pos x -ℤ pos m)) < m
abs_fits x m true lt some = lt
abs_fits x m false lt some = omega (arith, ints)

absolute_fits : (width : Width) (x : ℕ) → x < modulus width → absolute_of width x < modulus width
absolute_fits Byte zero lt = lt
absolute_fits Word zero lt = lt
absolute_fits width (suc x) lt = abs_fits (suc x) (modulus width) (nat_lt (suc x) (half width)) lt (omega arith)

and_fits : (width : Width) (x y : ℕ) → x < modulus width → y < modulus width → bit_and x y < modulus width
and_fits Byte x y p q = and_lt 8 x y p q
and_fits Word x y p q = and_lt 16 x y p q

or_fits : (width : Width) (x y : ℕ) → x < modulus width → y < modulus width → bit_or x y < modulus width
or_fits Byte x y p q = or_lt 8 x y p q
or_fits Word x y p q = or_lt 16 x y p q

xor_fits : (width : Width) (x y : ℕ) → x < modulus width → y < modulus width → bit_xor x y < modulus width
xor_fits Byte x y p q = xor_lt 8 x y p q
xor_fits Word x y p q = xor_lt 16 x y p q

product_fits : (m x y : ℕ) → x < m → y < m → x * y < m * m
product_fits m x y p q = grind arith

left_fits : (width : Width) (x count : ℕ) → shifted_left width x count < modulus width
left_fits Byte x count = omega arith
left_fits Word x count = omega arith

right_fits : (width : Width) (bits x count : ℕ) → shifted_right width bits x count < modulus width
right_fits Byte bits x count = omega arith
right_fits Word bits x count = omega arith

-- ---- two operands

result_keeps : (width : Width) (at : Place) (number : ℕ) (flags : Rattle.tms_defs.specs.declared.flags.Flags.Flags) (c : Changes) → number < modulus width → Kept c → Kept (with_result width at number flags c)
result_keeps width at number flags c lt h = with_flags_keeps flags (with_value width at number c) (with_value_keeps width at number c lt h)

divided_keeps : (width : Width) (at : Place) (dividend divisor : ℕ) (c : Changes) → divisor < modulus width → Kept c → Kept (divided width at dividend divisor c)
divided_keeps width at dividend divisor c lt h = by (nat_lt 0 divisor) (nat_lt (dividend / divisor) (modulus width)) refl refl
  where
    by : (some fits : Bool) → nat_lt 0 divisor ≡ some → nat_lt (dividend / divisor) (modulus width) ≡ fits
        → Kept (cond (some && fits) (with_overflow false (with_quotient width at (dividend / divisor) (dividend % divisor) c)) (with_overflow true c))
    by false fits p q = with_overflow_keeps true c h
    by true false p q = with_overflow_keeps true c h
    by true true p q =
        let some : 0 < divisor = grind (arith, nat_tests) in
        let fits : dividend / divisor < modulus width = grind (arith, nat_tests) in
        let rest : dividend % divisor < modulus width = omega (arith, some, lt) in
        with_overflow_keeps false (with_quotient width at (dividend / divisor) (dividend % divisor) c)
        (with_value_keeps width (further (size_of width) at) (dividend % divisor) (with_value width at (dividend / divisor) c) rest (with_value_keeps width at (dividend / divisor) c fits h))

exchanged_keeps : (width : Width) (at : Place) (old : ℕ) (source : Source) (place : Option Place) (c : Changes) → old < modulus width → source.number < modulus width → Kept c → Kept (exchanged width at old source place c)
exchanged_keeps width at old source None c p q h = with_value_keeps width at source.number c q h
exchanged_keeps width at old source (Some place) c p q h = with_value_keeps width place old (with_value width at source.number c) p (with_value_keeps width at source.number c q h)

pub two_keeps : (op : TwoName) (width : Width) (at : Place) (x : ℕ) (source : Source) (c : Changes) → x < modulus width → source.number < modulus width → Kept c → Kept (two op width at x source c)
two_keeps ADD width at x source c p q h = result_keeps width at _ _ c (sum_fits width x source.number) h
two_keeps SUB width at x source c p q h = result_keeps width at _ _ c (difference_fits width x source.number) h
two_keeps MUL width at x source c p q h = with_double_keeps width at _ c (product_fits (modulus width) x source.number p q) h
two_keeps DIV width at x source c p q h = divided_keeps width at _ source.number c q h
two_keeps AND width at x source c p q h = with_value_keeps width at _ c (and_fits width x source.number p q) h
two_keeps OR width at x source c p q h = with_value_keeps width at _ c (or_fits width x source.number p q) h
two_keeps XOR width at x source c p q h = with_value_keeps width at _ c (xor_fits width x source.number p q) h
two_keeps ST width at x source c p q h = with_value_keeps width at _ c q h
two_keeps EX width at x source c p q h = exchanged_keeps width at x source source.place c p q h
two_keeps SRA width at x source c p q h = with_value_keeps width at _ c (right_fits width (repeated_sign width x) x (count_of source.number)) h
two_keeps SLL width at x source c p q h = with_value_keeps width at _ c (left_fits width x (count_of source.number)) h
two_keeps SRL width at x source c p q h = with_value_keeps width at _ c (right_fits width 0 x (count_of source.number)) h
two_keeps SRC width at x source c p q h = with_value_keeps width at _ c (right_fits width (repeated width x) x (count_of source.number)) h
two_keeps comparison width at x source c p q h = with_condition_keeps _ c h

-- ---- flow

pub word_fits : (s : GplState) (offset : ℕ) → IsState s → word_at s offset < 65536
word_fits s offset h = join-fits (slice_index s.cells offset) (slice_index s.cells (offset + 1)) (h.cells.fits offset) (h.cells.fits (offset + 1))

grown_fits : (bytes top : ℕ) → grown_by bytes top < 256
grown_fits bytes top = omega arith

top_fits : (bytes top : ℕ) → top < 256 → IfOk (on_stack bytes top) (λ t. t < 256)
top_fits bytes top lt = by (is_visible bytes top)
  where
    by : (b : Bool) → IfOk (cond b (Ok top) (Err Rattle.gpl_step_defs.specs.declared.reason.Reason.TheVariants.Stack)) (λ t. t < 256)
    by true = lt
    by false = tt

pub branched_keeps : (on : Bool) (to : ℕ) (c : Changes) → to < 65536 → Kept c → Kept (branched on to c)
branched_keeps on to c lt h = with_condition_keeps false (cond (is_taken on (condition c.state)) (with_pc to c) c) (by (is_taken on (condition c.state)))
  where
    by : (b : Bool) → Kept (cond b (with_pc to c) c)
    by true = with_pc_keeps to c lt h
    by false = h

selected_keeps : (number : ℕ) (c : Changes) → Kept c → Kept (selected number c)
selected_keeps number c h = with_condition_keeps false (with_pc (plus c.state.pc (2 * number)) c) (with_pc_keeps (plus c.state.pc (2 * number)) c (plus-fits c.state.pc (2 * number)) h)

with_word_keeps : (offset word : ℕ) (c : Changes) → word < 65536 → Kept c → Kept (with_word offset word c)
with_word_keeps offset word c lt h = with_value_keeps Word (cells_at offset) word c lt h

called_keeps : (to : ℕ) (c : Changes) → to < 65536 → Kept c → IfOk (called to c) Kept
called_keeps to c lt h =
    then_if_ok (λ t. t < 256) Kept _ _ (top_fits 2 _ (grown_fits 2 (top_of RETURN_STACK c.state)))
    (λ top small. with_pc_keeps to (with_word top c.state.pc (with_cell RETURN_STACK top c)) lt (with_word_keeps top c.state.pc (with_cell RETURN_STACK top c) h.pc (with_cell_keeps RETURN_STACK top c small h)))

returned_keeps : (c : Changes) → Kept c → IfOk (returned c) Kept
returned_keeps c h =
    then_if_ok (λ t. t < 256) Kept _ _ (top_fits 2 _ (h.cells.fits RETURN_STACK))
    (λ top small. with_pc_keeps (word_at c.state top) (with_cell RETURN_STACK (grown_by 254 top) c) (word_fits c.state top h) (with_cell_keeps RETURN_STACK (grown_by 254 top) c (grown_fits 254 top) h))

pushed_keeps : (byte : ℕ) (c : Changes) → byte < 256 → Kept c → IfOk (pushed byte c) Kept
pushed_keeps byte c lt h =
    then_if_ok (λ t. t < 256) Kept _ _ (top_fits 1 _ (grown_fits 1 (top_of VALUE_STACK c.state)))
    (λ top small. with_cell_keeps top byte (with_cell VALUE_STACK top c) lt (with_cell_keeps VALUE_STACK top c small h))

fetched_keeps : (at : Place) (c : Changes) → Kept c → IfOk (fetched at c) Kept
fetched_keeps at c h =
    then_if_ok (λ t. t < 256) Kept _ _ (top_fits 2 _ (h.cells.fits RETURN_STACK))
    (λ top small. with_byte_keeps at (slice_index c.state.image (word_at c.state top)) (with_word top (next_in_grom (word_at c.state top)) c) (h.image.fits (word_at c.state top)) (with_word_keeps top (next_in_grom (word_at c.state top)) c (next-fits (word_at c.state top) (word_fits c.state top h)) h))

seed_fits : (seed : ℕ) → next_seed seed < 65536
seed_fits seed = omega arith

drawn_keeps : (limit : ℕ) (c : Changes) → limit < 256 → Kept c → Kept (drawn limit c)
drawn_keeps limit c lt h =
    let seed : ℕ = next_seed (word_at c.state SEED) in
    let number : swapped seed % (limit + 1) < 256 = omega arith in
    with_cell_keeps RANDOM (swapped seed % (limit + 1)) (with_word SEED seed c) number (with_word_keeps SEED seed c (seed_fits (word_at c.state SEED)) h)

-- ---- the operations without operand, on a byte, on an address, and on one operand

pub plain_keeps : (op : PlainOp) (c : Changes) → Kept c → IfOk (plain op c) Kept
plain_keeps RTN c h = then_if_ok Kept Kept _ _ (returned_keeps c h) (λ c h. with_condition_keeps false c h)
plain_keeps RTNC c h = returned_keeps c h
plain_keeps EXIT c h = tt
plain_keeps H c h = with_condition_keeps (is_set (status_of c.state) 0x80) c h
plain_keeps GT c h = with_condition_keeps (is_set (status_of c.state) 0x40) c h
plain_keeps CARRY c h = with_condition_keeps (is_set (status_of c.state) 0x10) c h
plain_keeps OVF c h = with_condition_keeps (is_set (status_of c.state) 0x08) c h

nil_dropped : (count : ℕ) → drop {A = ℕ} count [] ≡ []
nil_dropped zero = refl
nil_dropped (suc count) = refl

-- a list of bytes with another byte at its first places
fill_each : (count byte : ℕ) (xs : List ℕ) → byte < 256 → ((k : ℕ) → slice_index xs k < 256) → (k : ℕ) → slice_index (replicate count byte ++ drop count xs) k < 256
fill_each zero byte xs lt fits k = fits k
fill_each (suc count) byte xs lt fits zero = lt
fill_each (suc count) byte [] lt fits (suc k) = rw nil_dropped at (fill_each count byte [] lt (λ k. omega arith) k)
fill_each (suc count) byte (x ∷ xs) lt fits (suc k) = fill_each count byte xs lt (λ k. fits (suc k)) k

fill_fits : (count size byte : ℕ) (xs : List ℕ) → count ≤ size → byte < 256 → HoldsBytes size xs → HoldsBytes size (replicate count byte ++ drop count xs)
fill_fits count size byte xs le lt h = record {
  size = omega (arith, h.size, length-append (replicate count byte) (drop count xs), length-replicate {A = ℕ} count byte, length-drop count xs);
  fits = fill_each count byte xs lt h.fits;
}

pub immediate_keeps : (op : ByteOp) (value : ℕ) (c : Changes) → value < 256 → Kept c → Kept (with_immediate op value c)
immediate_keeps RAND value c lt h = drawn_keeps value c lt h
immediate_keeps BACK value c lt h = with_register_keeps 7 value c lt h
immediate_keeps ALL value c lt h =
    record { cells = h.cells; vdp = fill_fits 768 16384 value c.state.vdp (omega arith) lt h.vdp; registers = h.registers; pc = h.pc; image = h.image }

pub jump_keeps : (op : GoOp) (to : ℕ) (c : Changes) → to < 65536 → Kept c → IfOk (jump op to c) Kept
jump_keeps B to c lt h = with_pc_keeps to c lt h
jump_keeps CALL to c lt h = called_keeps to c lt h

pub one_keeps : (op : OneName) (word : Bool) (at : Place) (x : ℕ) (c : Changes) → (has_words op || not word) ≡ true → x < modulus (word_or_byte word) → Kept c → IfOk (one op (word_or_byte word) at x c) Kept
one_keeps ABS word at x c may lt h = result_keeps (word_or_byte word) at (absolute_of (word_or_byte word) x) (absolute_flags (word_or_byte word) x) c (absolute_fits (word_or_byte word) x lt) h
one_keeps NEG word at x c may lt h = result_keeps (word_or_byte word) at (negation_of (word_or_byte word) x) (negation_flags (word_or_byte word) x) c (negation_fits (word_or_byte word) x) h
one_keeps INV word at x c may lt h = with_value_keeps (word_or_byte word) at (complement_of (word_or_byte word) x) c (complement_fits (word_or_byte word) x) h
one_keeps CLR true at x c may lt h = with_value_keeps Word at 0 c (omega arith) h
one_keeps CLR false at x c may lt h = with_value_keeps Byte at 0 c (omega arith) h
one_keeps CASE word at x c may lt h = selected_keeps x c h
one_keeps CZ word at x c may lt h = with_condition_keeps (x == 0) c h
one_keeps INC word at x c may lt h = result_keeps (word_or_byte word) at (sum_of (word_or_byte word) x 1) (sum_flags (word_or_byte word) x 1) c (sum_fits (word_or_byte word) x 1) h
one_keeps DEC word at x c may lt h = result_keeps (word_or_byte word) at (difference_of (word_or_byte word) x 1) (difference_flags (word_or_byte word) x 1) c (difference_fits (word_or_byte word) x 1) h
one_keeps INCT word at x c may lt h = result_keeps (word_or_byte word) at (sum_of (word_or_byte word) x 2) (sum_flags (word_or_byte word) x 2) c (sum_fits (word_or_byte word) x 2) h
one_keeps DECT word at x c may lt h = result_keeps (word_or_byte word) at (difference_of (word_or_byte word) x 2) (difference_flags (word_or_byte word) x 2) c (difference_fits (word_or_byte word) x 2) h
one_keeps FETCH word at x c may lt h = fetched_keeps at c h
one_keeps PUSH false at x c may lt h = pushed_keeps x c lt h
one_keeps PUSH true at x c may lt h = absurd cc
