-- The text of lines that are each ended by a line feed alone.
use Rattle.std.specs.Prelude.{◌≡◌, ℕ, nat_le, List, [], ◌∷◌, ◌++◌, IsTrue}
use Rattle.std.specs.List.{flat_map, list_all, AllByRecursion}
use Rattle.source_defs.specs.Lines.{line_texts, numbered}

-- no control character is in a line: so neither a line feed nor a carriage return does
abbrev pub IsWithoutControls : List ℕ → Type 0
IsWithoutControls text = IsTrue (list_all (λ byte. nat_le 0x20 byte) text)

-- the text of some lines, each with a line feed after it
abbrev pub fed_text : List (List ℕ) → List ℕ
fed_text texts = flat_map (λ text. text ++ 0x0A ∷ []) texts

-- The law, which is proved: the lines of that text are these lines, which count from 1.
abbrev pub FedTextsHaveTheirLines : Type 0
FedTextsHaveTheirLines =
    (texts : List (List ℕ)) → AllByRecursion IsWithoutControls texts → line_texts (fed_text texts) ≡ numbered 1 texts
