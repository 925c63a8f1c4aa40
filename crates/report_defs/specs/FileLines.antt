-- The lines that standard error gets of files.
--
-- Profile: what is wrong in a file is reported with the file's name before the line.
use Rattle.std.specs.Prelude.{ℕ, List, ◌∷◌, ◌++◌, codes, Option, Some, None}
use Rattle.report_defs.specs.FaultLine.{refusal_line}
use Rattle.report_defs.specs.SourceFaults.{asm_cause_text}
use Rattle.shelf_defs.specs.Copied.{Place, Cause, Asm, BadCopy, TooDeep, TooMany, Missing}

-- a line about a file, or about the input itself
abbrev pub in_file : Option (List ℕ) → List ℕ → List ℕ
in_file None line = line
in_file (Some name) line = name ++ (0x20 ∷ line)

abbrev pub missing_text : List ℕ → List ℕ
missing_text name = codes "missing " ++ name

-- Profile: a COPY line that is none is a bad directive.
abbrev pub copy_cause_text : Cause → List ℕ
copy_cause_text (Asm cause) = asm_cause_text cause
copy_cause_text BadCopy = codes "bad directive"
copy_cause_text TooDeep = codes "copy too deep"
copy_cause_text TooMany = codes "too many copies"
copy_cause_text (Missing name) = missing_text name

-- a refused line at its place
abbrev pub place_line : Place → Cause → List ℕ
place_line place cause = in_file place.file (refusal_line place.line (copy_cause_text cause))

-- Profile: a file that `link` does not find is reported alone.
abbrev pub missing_line : List ℕ → List ℕ
missing_line name = missing_text name ++ codes "\n"
