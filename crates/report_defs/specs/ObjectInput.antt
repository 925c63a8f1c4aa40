-- Linked memory of an input.
use Rattle.std.specs.Prelude.{ℕ, List, Result, Ok, Err}
use Rattle.source_defs.specs.Refusals.{Refusal}
use Rattle.object_defs.specs.declared.causes.TagCause.{TagCause}
use Rattle.object_defs.specs.Modules.{Module}
use Rattle.object_defs.specs.Reading.{read}
use Rattle.link_defs.specs.LinkedMemory.{LinkedMemory, linked}
use Rattle.report_defs.specs.ObjectFaults.{tag_line, link_line}

-- a value, or the line that gives the cause
abbrev pub with_line : {T C : Type 0} → (C → List ℕ) → Result T C → Result T (List ℕ)
with_line line (Ok value) = Ok value
with_line line (Err cause) = Err (line cause)

abbrev pub linked_modules : Result (List Module) (Refusal TagCause) → Result LinkedMemory (List ℕ)
linked_modules (Ok modules) = with_line link_line (linked modules)
linked_modules (Err refused) = Err (tag_line refused)

-- the linked memory of an object text, or the line that says why there is none
abbrev pub linked_input : List ℕ → Result LinkedMemory (List ℕ)
linked_input input = linked_modules (read input)
