-- What an operation field names: an operation, or one of the manual's two names for words of other operations.
use Rattle.std.specs.Prelude.{ℕ, find, if◌then◌else◌, List, codes, Option, Some}
use Rattle.std.specs.Option.{option_map}
use Rattle.source_defs.specs.Names.{is_word}
use Rattle.tms_defs.specs.Instructions.{name_of, operations}
use Rattle.instruction_defs.specs.declared.mnemonic.Mnemonic.{Mnemonic}
use Rattle.instruction_defs.specs.declared.mnemonic.Mnemonic.TheVariants.{Of, Fixed}

-- What an operation field names. NOP is a jump to the next instruction, and RT a branch by register 11.
-- Editor/Assembler manual, "Pseudo-instructions".
unfoldable pub mnemonic : List ℕ → Option Mnemonic
mnemonic text =
    if is_word text (codes "NOP") then Some (Fixed 0x1000)
    else if is_word text (codes "RT") then Some (Fixed 0x045B)
    else option_map Of (find (λ operation. is_word text (name_of operation)) operations)
