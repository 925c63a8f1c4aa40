-- What a builder keeps of a line.
use Rattle.std.specs.Prelude.{◌≡◌, ⊤, ℕ, List, ◌++◌, length, take, Option, option_to_list, IsTrue}
use Rattle.expression_defs.specs.Growing.{Grows}
use Rattle.expression_defs.specs.Symbols.{Names}
use Rattle.expression_defs.specs.Layout.{with_names}
use Rattle.asm_text.specs.GivenValues.{model_of_value}
use Rattle.asm_defs.specs.declared.causes.AsmCause.TheVariants.{DuplicateLabel}
use Rattle.asm_defs.specs.FirstChecks.{EarlierLines, any_known, label_in, label_entry, external_entries, defs_in}
use Rattle.asm_defs.specs.FirstChecks.{refs_in}
use Rattle.asm_checks.specs.Defined.{model_of_statement}
use Rattle.asm_checks.specs.declared.first_checks.Checked.{Checked}
use Rattle.asm_checks.specs.declared.failure.Failure.{Failure}
use Rattle.asm_checks.specs.declared.failure.Failure.TheVariants.{Refused, Memory}
use Rattle.asm_core.specs.declared.lines.AsmLines.{AsmLines}
use Rattle.asm_core.specs.declared.pending.Pending.{Pending}

-- what a builder knows of the lines that it has taken
abbrev pub known_in : AsmLines → EarlierLines
known_in builder =
    record {
      names = builder.symbols;
      location = builder.location;
      reached = builder.reached;
      defs = builder.defs.items;
      refs = builder.refs.items;
    }

-- names with the names of a line
abbrev pub names_with : Names → Checked → Names
names_with names checked =
    with_names (with_names names (label_entry checked.parsed.label (model_of_value checked.moved.label)))
    (external_entries (refs_in (model_of_statement checked.parsed.statement)))

-- a label stands for something already, or memory ran out
abbrev pub KnowsLabel : Names → Option (List ℕ) → Failure → Type 0
KnowsLabel names label Memory = ⊤
KnowsLabel names label (Refused cause) = (cause ≡ DuplicateLabel) × IsTrue (any_known names (label_in label))

-- the line is kept with its names
pub record Keeps (old : AsmLines) (waiting : Option Pending) (checked : Checked) (new : AsmLines) : Type 0 where
  pub waits : new.waiting.items ≡ old.waiting.items ++ option_to_list waiting
  pub defs : new.defs.items ≡ old.defs.items ++ defs_in (model_of_statement checked.parsed.statement)
  pub refs : new.refs.items ≡ old.refs.items ++ refs_in (model_of_statement checked.parsed.statement)
  pub names : new.symbols ≡ names_with old.symbols checked
  pub grows : Grows old.symbols new.symbols

pub record SameLists (old new : AsmLines) : Type 0 where
  pub waits : new.waiting.items ≡ old.waiting.items
  pub defs : new.defs.items ≡ old.defs.items
  pub refs : new.refs.items ≡ old.refs.items

pub record SameNames (old new : AsmLines) : Type 0 where
  pub defs : new.defs.items ≡ old.defs.items
  pub refs : new.refs.items ≡ old.refs.items
  pub symbols : new.symbols ≡ old.symbols

-- nothing is kept of the line
pub record IsUnchanged (old new : AsmLines) : Type 0 where
  pub lists : SameLists old new
  pub names : new.symbols ≡ old.symbols

-- the lists begin as before
pub record StartsAs (old new : AsmLines) : Type 0 where
  pub waits : take (length old.waiting.items) new.waiting.items ≡ old.waiting.items
  pub defs : take (length old.defs.items) new.defs.items ≡ old.defs.items
  pub refs : take (length old.refs.items) new.refs.items ≡ old.refs.items

-- the image and the line that is refused are as before
pub record SameWork (old new : AsmLines) : Type 0 where
  pub image : new.image ≡ old.image
  pub refused : new.refused ≡ old.refused

-- the location and the rest are as before
pub record KeepsRest (old new : AsmLines) : Type 0 where
  pub location : new.location ≡ old.location
  pub reached : new.reached ≡ old.reached
  pub title : new.title ≡ old.title
  pub taken : new.taken ≡ old.taken
  pub ended : new.ended ≡ old.ended
