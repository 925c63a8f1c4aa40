-- The first item of a list that is not as it must be.
use Rattle.std.specs.Prelude.{Bool, if◌then◌else◌, List, [], ◌∷◌, ◌++◌, Option, Some, None, Result, Ok, Err}
use Rattle.link_defs.specs.Causes.{LinkCause}

-- the first item that a test picks, which sees those before it and the item itself, where some items have passed
abbrev pub first_after : {X : Type 0} → (List X → X → Bool) → List X → List X → Option X
first_after test before [] = None
first_after test before (item ∷ items) =
    if test before item then Some item else first_after test (before ++ item ∷ []) items

abbrev pub first : {X : Type 0} → (List X → X → Bool) → List X → Option X
first test items = first_after test [] items

-- An item is refused where there is one.
abbrev pub refused_by : {X : Type 0} → (X → LinkCause) → Option X → Result (Option X) LinkCause
refused_by cause (Some item) = Err (cause item)
refused_by cause None = Ok None
