-- What a builder keeps of a line.
use Rattle.std.specs.Prelude.{◌≡◌, ◌+◌, List, [], ◌∷◌, Option, Some, None}
use Rattle.gpl_asm.specs.declared.pending.Pending.{Pending}
use Rattle.gpl_asm.specs.declared.pending.Rest.{Rest}
use Rattle.gpl_asm.specs.declared.lines.GplLines.{GplLines}

-- the next line, by what is left of it
abbrev pub pending_of : GplLines → Option Rest → List Pending
pending_of builder None = []
pending_of builder (Some rest) = record { number = builder.taken + 1; at = builder.location; rest = rest } ∷ []

-- the lines and their names are as before
pub record SameLists (old new : GplLines) : Type 0 where
  pub waiting : new.waiting.items ≡ old.waiting.items
  pub names : new.symbols ≡ old.symbols

-- the location and the rest are as before
pub record KeepsRest (old new : GplLines) : Type 0 where
  pub location : new.location ≡ old.location
  pub taken : new.taken ≡ old.taken
  pub ended : new.ended ≡ old.ended

-- a line that says nothing is counted
pub record Counts (old new : GplLines) : Type 0 where
  pub taken : new.taken ≡ old.taken + 1
  pub lists : SameLists old new
  pub location : new.location ≡ old.location
  pub ended : new.ended ≡ old.ended
