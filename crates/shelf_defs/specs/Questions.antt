-- The files that a command asks a shelf for, one by one, and the answers.
use Rattle.std.specs.Prelude.{◌≡◌, ⊤, ℕ, ◌+◌, ◌<◌, List, [], ◌∷◌, ◌++◌, length, map, Option, Some, None, Err}
use Rattle.shelf_defs.specs.Files.{Contents}
use Rattle.shelf_defs.specs.Copied.{Place, At, Missing, most_bytes}
use Rattle.shelf_defs.specs.Assembly.{module_by}

-- An answer: the bytes of the file; or that no file has the name; or that the file is too large; or none, where a call
-- failed or memory ran out.
pub data FileAnswer : Type 0 where
  Bytes : List ℕ → FileAnswer
  NoFile : FileAnswer
  OverLimit : FileAnswer
  Unanswered : FileAnswer

-- the name of a file that is asked for, and the answer
pub record Question : Type 0 where
  pub name : List ℕ
  pub answer : FileAnswer

abbrev pub names_of : List Question → List (List ℕ)
names_of questions = map (λ question. question.name) questions

-- by the most bytes that a file may have
module _ (limit : ℕ) where
  -- a name with these contents has this answer
  abbrev pub Fits : FileAnswer → Option (List ℕ) → Type 0
  Fits (Bytes bytes) content = content ≡ Some bytes
  Fits NoFile content = content ≡ None
  Fits OverLimit content = (bytes : List ℕ) × (content ≡ Some bytes) × (limit < length bytes)
  Fits Unanswered content = ⊤

  -- contents have these answers, by the number of the first question
  abbrev pub Agrees : Contents → ℕ → List Question → Type 0
  Agrees contents number [] = ⊤
  Agrees contents number (question ∷ questions) =
      Fits question.answer (contents number question.name) × Agrees contents (number + 1) questions

-- Nothing more is asked after an answer other than the bytes of a file: without this rule a missing file could be asked
-- for twice.
abbrev pub MayFollow : FileAnswer → List Question → Type 0
MayFollow (Bytes bytes) rest = ⊤
MayFollow answer rest = rest ≡ []

-- each question is the next after those before it, and each of these was answered by the bytes of a file
abbrev pub InTurn : (List Question → Question → Type 0) → List Question → List Question → Type 0
InTurn IsNext front [] = ⊤
InTurn IsNext front (question ∷ rest) =
    IsNext front question × MayFollow question.answer rest × InTurn IsNext (front ++ question ∷ []) rest

-- A source asks for this file next, after the answers before: with any contents that have these answers, and no file of
-- this name, it is refused at one of its COPY lines since the file is missing.
abbrev pub IsNextCopied : List ℕ → List Question → Question → Type 0
IsNextCopied source earlier question =
    (place : Place) × ((contents : Contents) → Agrees most_bytes contents 0 earlier
    → contents (length earlier) question.name ≡ None
    → module_by contents source ≡ Err (At place (Missing question.name)))

-- the name of this file is the next of some names
abbrev pub IsNextOf : List (List ℕ) → List Question → Question → Type 0
IsNextOf names front question = (rest : List (List ℕ)) × (names ≡ names_of front ++ question.name ∷ rest)

-- the last of the questions has this answer
pub record EndsWith (answer : FileAnswer) (questions : List Question) : Type 0 where
  pub front : List Question
  pub last : Question
  pub are : questions ≡ front ++ last ∷ []
  pub is : last.answer ≡ answer
