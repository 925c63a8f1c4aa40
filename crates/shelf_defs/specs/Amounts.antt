-- How much is taken of the files that are asked for.
use Rattle.std.specs.Prelude.{◌≡◌, ℕ, ◌+◌, ◌-◌, ◌≤◌, List, [], ◌∷◌, length}
use Rattle.shelf_defs.specs.Questions.{FileAnswer, Bytes, NoFile, OverLimit, Unanswered, Question}

-- by the most bytes that a file may have
module _ (limit : ℕ) where
  -- The bytes that are taken of a file, and the calls that give none. A file that is given is taken whole, and one call
  -- finds its end. Of a file that is too large one byte past the limit is taken, and no call gives none.
  abbrev pub IsTaken : FileAnswer → ℕ → ℕ → Type 0
  IsTaken (Bytes all) bytes empty = (bytes ≡ length all) × (bytes ≤ limit) × (empty ≡ 1)
  IsTaken NoFile bytes empty = (bytes ≡ 0) × (empty ≡ 0)
  IsTaken OverLimit bytes empty = (bytes ≡ limit + 1) × (empty ≡ 0)
  IsTaken Unanswered bytes empty = (bytes ≤ limit) × (empty ≤ 1)

  -- the same of several files together
  abbrev pub AreTaken : List Question → ℕ → ℕ → Type 0
  AreTaken [] bytes empty = (bytes ≡ 0) × (empty ≡ 0)
  AreTaken (question ∷ questions) bytes empty =
      (first : ℕ) × (none : ℕ) × IsTaken question.answer first none × (first ≤ bytes) × (none ≤ empty)
      × AreTaken questions (bytes - first) (empty - none)
