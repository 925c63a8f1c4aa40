-- What a reader may keep of the groups that it has read, in place of the groups: the module so far, and a load address
-- that each word moves. No rule is here; that reading so is reading is proved (`proofs/ReaderRuns`).
use Rattle.std.specs.Prelude.{ℕ, zero, suc, ◌++◌, Bool, true, false, if◌then◌else◌, List, [], ◌∷◌, length}
use Rattle.std.specs.Prelude.{Option, Some, None, Result, Ok, Err}
use Rattle.source_defs.specs.Refusals.{Refusal, ◌>>=◌, at_line}
use Rattle.object_defs.specs.declared.form.TextForm.{TextForm}
use Rattle.object_defs.specs.declared.spot.Spot.{Spot}
use Rattle.object_defs.specs.declared.spot.Spot.TheVariants.{Relocatable}
use Rattle.object_defs.specs.declared.causes.TagCause.{TagCause}
use Rattle.object_defs.specs.declared.causes.TagCause.TheVariants.{BadTag, NoEnd}
use Rattle.object_defs.specs.Modules.{Module, moved, even}
use Rattle.object_defs.specs.Fields.{all_blank}
use Rattle.object_defs.specs.Groups.{Group, Header, Entry, Referred, Defined, Sum, IgnoredSum, Address, Word}
use Rattle.object_defs.specs.Groups.{EndOfLine, EndOfModule, FoundGroup, Whole, Broken, tag_found, character_found}
use Rattle.object_defs.specs.Groups.{group_found, found_at, ends_line, size_found}
use Rattle.object_defs.specs.Reading.{is_allowed_first, is_allowed_after, NumberedLine}

-- a module whose end is not read yet, and the load address
pub record OpenModule : Type 0 where
  pub found : Module
  pub load : Spot

abbrev pub opened : ℕ → List ℕ → OpenModule
opened size name =
    record {
      found = record { name = name; size = size; pieces = []; defs = []; refs = []; entry = None };
      load = Relocatable 0;
    }

abbrev pub first_of : ℕ → Group → Result OpenModule TagCause
first_of character (Header size name) = Ok (opened size name)
first_of character _ = Err (BadTag character)

-- the module that a group begins, where some have ended
unfoldable pub begun : ℕ → FoundGroup → Result OpenModule TagCause
begun ended at = do
  tag ← is_allowed_first ended (character_found at) (tag_found at)
  group ← group_found at
  first_of (character_found at) group

-- the module with what a group says
abbrev pub grown : OpenModule → Group → OpenModule
grown m (Header size name) = m
grown m (Entry at) = record m { found = record m.found { entry = Some at } }
grown m (Referred reference) = record m { found = record m.found { refs = m.found.refs ++ reference ∷ [] } }
grown m (Defined definition) = record m { found = record m.found { defs = m.found.defs ++ definition ∷ [] } }
grown m Sum = m
grown m IgnoredSum = m
grown m (Address at) = record m { load = moved (even at) 0 }
grown m (Word word) =
    record {
      found = record m.found { pieces = m.found.pieces ++ record { at = m.load; word = word } ∷ [] };
      load = moved m.load 2;
    }
grown m EndOfLine = m
grown m EndOfModule = m

-- the module with one more group
unfoldable pub more : OpenModule → FoundGroup → Result OpenModule TagCause
more m at = do
  tag ← is_allowed_after m.found (character_found at) (tag_found at)
  group ← group_found at
  Ok (grown m group)

abbrev pub ends_module : FoundGroup → Bool
ends_module (Whole character EndOfModule) = true
ends_module (Whole character _) = false
ends_module (Broken character tag cause) = false

-- the modules that have ended, the one that has not, and the number of the last line that is not blank
pub record Kept : Type 0 where
  pub modules : List Module
  pub current : Option OpenModule
  pub last : ℕ

abbrev pub nothing_kept : Kept
nothing_kept = record { modules = []; current = None; last = 0 }

abbrev pub with_current : Kept → OpenModule → Kept
with_current kept m = record kept { current = Some m }

abbrev pub with_ended : Kept → Module → Kept
with_ended kept m = record kept { modules = kept.modules ++ m ∷ []; current = None }

abbrev pub kept_by : Option OpenModule → Kept → FoundGroup → Result Kept TagCause
kept_by None kept at = begun (length kept.modules) at >>= λ m. Ok (with_current kept m)
kept_by (Some m) kept at =
    if ends_module at then Ok (with_ended kept m.found) else more m at >>= λ m. Ok (with_current kept m)

-- what is kept with one more group
abbrev pub kept_with : Kept → FoundGroup → Result Kept TagCause
kept_with kept at = kept_by kept.current kept at

unfoldable pub kept_groups : Kept → List FoundGroup → Result Kept TagCause
kept_groups kept [] = Ok kept
kept_groups kept (group ∷ groups) = kept_with kept group >>= λ kept. kept_groups kept groups

-- the groups in the rest of a line, after the characters before it and those that are left of the last group there
unfoldable pub groups_after : TextForm → List ℕ → ℕ → List ℕ → List FoundGroup
groups_after form before left [] = []
groups_after form before (suc left) (byte ∷ rest) = groups_after form (before ++ byte ∷ []) left rest
groups_after form before zero (byte ∷ rest) =
    let found = found_at form before byte rest in
    found ∷ (if ends_line found then [] else groups_after form (before ++ byte ∷ []) (size_found form found) rest)

unfoldable pub kept_line : TextForm → Kept → NumberedLine → Result Kept (Refusal TagCause)
kept_line form kept line =
    if all_blank line.text then Ok kept
    else at_line line.number (kept_groups (record kept { last = line.number }) (groups_after form [] 0 line.text))

abbrev pub finished : Kept → Option OpenModule → Result (List Module) (Refusal TagCause)
finished kept None = Ok kept.modules
finished kept (Some m) = Err (record { line = kept.last; cause = NoEnd })

-- what is found in the end, with the lines that follow
unfoldable pub kept_lines : TextForm → Kept → List NumberedLine → Result (List Module) (Refusal TagCause)
kept_lines form kept [] = finished kept kept.current
kept_lines form kept (line ∷ lines) = kept_line form kept line >>= λ kept. kept_lines form kept lines
