-- The instructions by their names.
use Rattle.std.specs.Prelude.{ℕ, true, false, find, filter, List, [], ◌∷◌, ◌++◌, map, codes, Option}
use Rattle.source_defs.specs.Names.{is_word}
use Rattle.gpl_defs.specs.Codes.{
  Row,
  plain_row,
  byte_row,
  go_row,
  branch_row,
  one_row,
  two_row,
  plain_operations,
  byte_operations,
  go_operations,
  one_operations,
  two_operations,
}
use Rattle.gpl_defs.specs.Valid.{has_words}
use Rattle.gpl_source_defs.specs.declared.mnemonic.Mnemonic.{Mnemonic}
use Rattle.gpl_source_defs.specs.declared.mnemonic.Mnemonic.TheVariants.{Plain, Byte, Jump, Branch, One, Two, Move}

-- Profile: the form of words has D before the name.
abbrev pub name_of_words : Row → List ℕ
name_of_words row = codes "D" ++ row.name

-- The name of an instruction: the name of its row in the table of codes.
abbrev pub name_of : Mnemonic → List ℕ
name_of (Plain op) = (plain_row op).name
name_of (Byte op) = (byte_row op).name
name_of (Jump op) = (go_row op).name
name_of (Branch on) = (branch_row on).name
name_of (One op false) = (one_row op).name
name_of (One op true) = name_of_words (one_row op)
name_of (Two op false) = (two_row op).name
name_of (Two op true) = name_of_words (two_row op)
name_of Move = codes "MOVE"

-- The instructions that have a name. Profile: FETCH and PUSH have no form of words.
abbrev pub mnemonics : List Mnemonic
mnemonics =
    map (λ op. Two op false) two_operations
    ++ (map (λ op. Two op true) two_operations
    ++ (Move
    ∷ (map Branch (false ∷ true ∷ [])
    ++ (map Jump go_operations
    ++ (map (λ op. One op false) one_operations
    ++ (map (λ op. One op true) (filter has_words one_operations)
    ++ (map Plain plain_operations ++ map Byte byte_operations)))))))

-- What an operation field names, where it is an instruction. GPL Programmer's Guide, the statements.
unfoldable pub mnemonic : List ℕ → Option Mnemonic
mnemonic text = find (λ named. is_word text (name_of named)) mnemonics
