-- A memory that holds the interpreter, and the registers that the interpreter works with.
use Rattle.std.specs.Prelude.{◌≡◌, ◌<◌, ℕ, ◌*◌, List, length, slice_index}
use Rattle.tms_defs.specs.Bytes.{word_in}
use Rattle.tms_defs.specs.Accesses.{Gives}
use Rattle.tms_defs.specs.Operand.{register_in}
use Rattle.console_defs.specs.Memory.{Memory, word_read}
use Rattle.native_interp.specs.declared.addresses.TheConstants.{WORKSPACE}
use Rattle.native_interp.specs.declared.words.TheConstants.{INTERP}

-- The interpreter's words stand from >2000 on, where low expansion memory begins.
abbrev pub HoldsInterpreter : List ℕ → Type 0
HoldsInterpreter bytes =
    (number : ℕ) → number < length INTERP → word_in bytes (2 * number) ≡ slice_index INTERP number

-- A register of the interpreter's workspace holds a word.
abbrev pub HoldsRegister : Memory → ℕ → ℕ → Type 0
HoldsRegister memory number word = word_read memory (register_in WORKSPACE number) ≡ Gives word

-- Profile: at the dispatch of a step, where the first table has led, these two registers hold the code byte and its
-- address.
abbrev pub code_register : ℕ
code_register = 0

abbrev pub address_register : ℕ
address_register = 1

-- No more instructions than these lead to the dispatch from the beginning of a step.
abbrev pub bound_to_dispatch : ℕ
bound_to_dispatch = 16
