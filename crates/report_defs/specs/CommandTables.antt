-- Tables of commands: the words that name them, and the usage line of a program.
use Rattle.std.specs.Prelude.{ℕ, ◌++◌, if◌then◌else◌, List, [], ◌∷◌, codes, Option, Some, None}
use Rattle.source_defs.specs.Names.{same_text}

-- a row: the word that names a command, what the usage line shows after it, and the command's name
abbrev pub CommandRow : Type 0 → Type 0
CommandRow N = List ℕ × List ℕ × N

-- the command that a word names
abbrev pub command_named : {N : Type 0} → List (CommandRow N) → List ℕ → Option N
command_named [] word = None
command_named (row ∷ rows) word = if same_text word row.0 then Some row.2 else command_named rows word

-- what the usage line shows of a command
abbrev pub shown : {N : Type 0} → CommandRow N → List ℕ
shown row = row.0 ++ row.1

abbrev pub by_bars : List (List ℕ) → List ℕ
by_bars [] = []
by_bars (text ∷ []) = text
by_bars (text ∷ next ∷ texts) = text ++ (codes "|" ++ by_bars (next ∷ texts))

-- Profile: the usage line of a program shows its commands in the order of their table.
abbrev pub usage_of : List ℕ → List (List ℕ) → List ℕ
usage_of program texts = codes "usage: " ++ (program ++ (codes " " ++ (by_bars texts ++ codes "\n")))
