-- The instructions by the numbers of their names.
use Rattle.std.specs.Prelude.{ℕ, List, map}
use Rattle.gpl_source_defs.specs.declared.mnemonic.Mnemonic.{Mnemonic}
use Rattle.gpl_source_defs.specs.Mnemonics.{mnemonics, name_of}
use Rattle.asm_text.specs.WordKeys.{key_of}

-- the instructions, each after the number of its name
abbrev pub named : List (ℕ × Mnemonic)
named = map (λ thing. (key_of (name_of thing), thing)) mnemonics
