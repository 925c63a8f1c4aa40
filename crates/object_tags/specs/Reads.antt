-- What the reader has kept, and what is to come.
use Rattle.std.specs.Prelude.{◌≡◌, List, Result, Ok, Err}
use Rattle.std.specs.Option.{option_map}
use Rattle.source_defs.specs.Refusals.{Refusal}
use Rattle.object_defs.specs.declared.form.TextForm.{TextForm}
use Rattle.object_defs.specs.declared.causes.TagCause.{TagCause}
use Rattle.object_defs.specs.Reading.{NumberedLine}
use Rattle.object_laws.specs.Running.{Kept, kept_lines, finished}
use Rattle.object_tags.specs.declared.error.TagError.{TagError}
use Rattle.object_tags.specs.declared.reader.Reader.{Reader}
use Rattle.object_tags.specs.Answers.{model_of_modules, model_of_open, Refuses}

-- what the reader has kept
abbrev pub kept_of : Reader → Kept
kept_of reader =
    record {
      modules = model_of_modules reader.modules.items;
      current = option_map model_of_open reader.current;
      last = reader.last;
    }

-- a line leaves what is defined, or is refused as defined
abbrev pub TakesLine : {T : Type 0} → Result T TagError → Kept → Result Kept (Refusal TagCause) → Type 0
TakesLine (Ok _) after defined = defined ≡ Ok after
TakesLine (Err error) after defined = Refuses error defined

-- lines of a text of a form were read, and no lines follow, or they are refused
abbrev pub Reads : {T : Type 0} → TextForm → Result T TagError → Reader → Reader → List NumberedLine → Type 0
Reads form (Ok _) before after lines =
    kept_lines form (kept_of before) lines ≡ finished (kept_of after) (kept_of after).current
Reads form (Err error) before after lines = Refuses error (kept_lines form (kept_of before) lines)
