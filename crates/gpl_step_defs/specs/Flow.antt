-- Jumps, the two stacks, and random numbers.
use Rattle.std.specs.Prelude.{ℕ, ◌+◌, ◌*◌, ◌%◌, Bool, true, false, not, if◌then◌else◌, slice_index, Result, Ok, Err}
use Rattle.tms_defs.specs.Words.{plus}
use Rattle.tms_defs.specs.Flags.{Word}
use Rattle.tms_defs.specs.Logic.{swapped}
use Rattle.base_defs.specs.Addresses.{next_in_grom}
use Rattle.source_defs.specs.Refusals.{◌>>=◌}
use Rattle.gpl_defs.specs.declared.instruction.Space.TheVariants.{Cpu}
use Rattle.gpl_step_defs.specs.declared.cells.TheConstants.{VALUE_STACK, RETURN_STACK, RANDOM, SEED}
use Rattle.gpl_step_defs.specs.declared.reason.Reason.{Reason}
use Rattle.gpl_step_defs.specs.declared.reason.Reason.TheVariants.{Stack}
use Rattle.gpl_step_defs.specs.State.{GplState}
use Rattle.gpl_step_defs.specs.Place.{Place, is_visible, word_at}
use Rattle.gpl_step_defs.specs.Changes.{Changes, condition, with_cell, with_byte, with_value, with_pc, with_condition}

-- BS jumps where COND is 1, BR where it is 0. GPL Programmer's Guide, BR and BS.
abbrev pub is_taken : Bool → Bool → Bool
is_taken true holds = holds
is_taken false holds = not holds

-- Profile: both clear COND, whether they jump or not.
abbrev pub branched : Bool → ℕ → Changes → Changes
branched on to c = with_condition false (if is_taken on (condition c.state) then with_pc to c else c)

-- CASE goes to the branch in a table of branches after it, each of two bytes. GPL Programmer's Guide, CASE.
-- Profile: the sum keeps 16 bits; COND is cleared.
abbrev pub selected : ℕ → Changes → Changes
selected number c = with_condition false (with_pc (plus c.state.pc (2 * number)) c)

-- The stacks.

abbrev pub cells_at : ℕ → Place
cells_at offset = record { space = Cpu; address = offset }

abbrev pub with_word : ℕ → ℕ → Changes → Changes
with_word offset word c = with_value Word (cells_at offset) word c

-- what the pointer to a stack's top says; it is at an offset of its own
abbrev pub top_of : ℕ → GplState → ℕ
top_of stack s = slice_index s.cells stack

-- So many cells at a stack's top. Profile: they must be visible.
abbrev pub on_stack : ℕ → ℕ → Result ℕ Reason
on_stack bytes top = if is_visible bytes top then Ok top else Err Stack

-- Profile: sums on the pointers of the stacks wrap in a byte.
abbrev pub grown_by : ℕ → ℕ → ℕ
grown_by bytes top = (top + bytes) % 256

-- CALL puts the next address on the stack and goes on elsewhere. GPL Programmer's Guide, CALL.
-- Profile: the pointer is stored first.
abbrev pub called : ℕ → Changes → Result Changes Reason
called to c = do
  top ← on_stack 2 (grown_by 2 (top_of RETURN_STACK c.state))
  Ok (with_pc to (with_word top c.state.pc (with_cell RETURN_STACK top c)))

-- RTN goes on at the word on the stack, and takes it off. GPL Programmer's Guide, RTN and RTNC.
abbrev pub returned : Changes → Result Changes Reason
returned c = do
  top ← on_stack 2 (top_of RETURN_STACK c.state)
  Ok (with_pc (word_at c.state top) (with_cell RETURN_STACK (grown_by 254 top) c))

-- PUSH puts a byte on the data stack. GPL Programmer's Guide, PUSH.
-- Profile: the pointer is stored first.
abbrev pub pushed : ℕ → Changes → Result Changes Reason
pushed byte c = do
  top ← on_stack 1 (grown_by 1 (top_of VALUE_STACK c.state))
  Ok (with_cell top byte (with_cell VALUE_STACK top c))

-- the byte at a GROM address goes to an operand, and the address on the stack goes on
abbrev pub with_byte_from : ℕ → ℕ → Place → Changes → Changes
with_byte_from address top at c =
    with_byte at (slice_index c.state.image address) (with_word top (next_in_grom address) c)

-- FETCH takes the byte of GROM at the address on the stack, which goes on. GPL Programmer's Guide, FETCH.
-- Profile: the address is stored first, then the byte at the operand.
abbrev pub fetched : Place → Changes → Result Changes Reason
fetched at c = on_stack 2 (top_of RETURN_STACK c.state) >>= λ top. Ok (with_byte_from (word_at c.state top) top at c)

-- RAND makes the next seed, and of it a number up to a limit. GPL Programmer's Guide, RAND.
abbrev pub next_seed : ℕ → ℕ
next_seed seed = (seed * 0x6FE5 + 0x7AB9) % 65536

abbrev pub drawn : ℕ → Changes → Changes
drawn limit c =
    let seed = next_seed (word_at c.state SEED) in
    with_cell RANDOM (swapped seed % (limit + 1)) (with_word SEED seed c)
