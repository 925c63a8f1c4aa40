-- Lists that run the other way.
use Rattle.std.specs.Prelude.{List, [], ◌∷◌}

-- items in their order after others, of which the nearest comes first
abbrev pub onto : {A : Type 0} → List A → List A → List A
onto before [] = before
onto before (item ∷ items) = onto (item ∷ before) items
