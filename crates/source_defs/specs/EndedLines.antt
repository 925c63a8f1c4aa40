-- The text of lines that are each ended by a carriage return and a line feed.
use Rattle.std.specs.Prelude.{◌≡◌, ℕ, not, List, [], ◌∷◌, ◌++◌, IsTrue}
use Rattle.std.specs.List.{flat_map, list_all, AllByRecursion}
use Rattle.source_defs.specs.Characters.{is_line_feed}
use Rattle.source_defs.specs.Lines.{line_texts, numbered}

-- no line feed is in a line
abbrev pub IsOneLine : List ℕ → Type 0
IsOneLine text = IsTrue (list_all (λ byte. not (is_line_feed byte)) text)

-- the text of some lines, each with a carriage return and a line feed after it
abbrev pub text_of : List (List ℕ) → List ℕ
text_of texts = flat_map (λ text. text ++ 0x0D ∷ 0x0A ∷ []) texts

-- The law, which is proved: the lines of that text are these lines, which count from 1.
abbrev pub TextsHaveTheirLines : Type 0
TextsHaveTheirLines =
    (texts : List (List ℕ)) → AllByRecursion IsOneLine texts → line_texts (text_of texts) ≡ numbered 1 texts
