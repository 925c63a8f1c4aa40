-- What the code finds in a line has bytes, and is as short as a line.
use Rattle.std.specs.Prelude.{⊤, Bool, ◌≤◌, ◌||◌, not, true, length, IsTrue}
use Rattle.gpl_defs.specs.Valid.{has_words, is_valid}
use Rattle.gpl_source_defs.specs.Skeletons.{instr_by_zero}
use Rattle.gpl_source_defs.specs.declared.mnemonic.Mnemonic.{Mnemonic}
use Rattle.gpl_source_defs.specs.declared.mnemonic.Mnemonic.TheVariants.{One}
use Rattle.gpl_lines.specs.Defined.{model_of_skeleton}
use Rattle.gpl_lines.specs.declared.skeleton.Skeleton.{Skeleton}
use Rattle.gpl_lines.specs.declared.statement.Statement.{Statement}
use Rattle.gpl_lines.specs.declared.statement.Statement.TheVariants.{Instruction, Data, Byte, Text}

-- the table of codes has the form that the name is of
abbrev pub has_form : Mnemonic → Bool
has_form (One op word) = has_words op || not word
has_form _ = true

abbrev pub HasForm : Mnemonic → Type 0
HasForm named = IsTrue (has_form named)

abbrev pub IsValidSkeleton : Skeleton → Type 0
IsValidSkeleton skeleton = IsTrue (is_valid (instr_by_zero (model_of_skeleton skeleton)))

abbrev pub IsValid : Statement → Type 0
IsValid (Instruction skeleton) = IsValidSkeleton skeleton
IsValid (Data field) = length field.now ≤ 256
IsValid (Byte field) = length field.now ≤ 256
IsValid (Text quoted) = length quoted.now ≤ 256
IsValid _ = ⊤
