-- What the definitions see of a group of the code.
use Rattle.std.specs.Prelude.{Result, Ok, Err}
use Rattle.object_defs.specs.declared.causes.TagCause.{TagCause}
use Rattle.object_defs.specs.Groups as defined
use Rattle.object_tags.specs.declared.group.Group.{Group}
use Rattle.object_tags.specs.declared.group.Group.TheVariants as groups
use Rattle.object_tags.specs.declared.group.FoundGroup.{FoundGroup}
use Rattle.object_tags.specs.declared.group.FoundGroup.TheVariants as found
use Rattle.object_tags.specs.Seen.{model_of_def, model_of_ref}

abbrev pub model_of_group : Group → defined.Group
model_of_group (groups.Header size name) = defined.Header size name
model_of_group (groups.Entry at) = defined.Entry at
model_of_group (groups.Referred reference) = defined.Referred (model_of_ref reference)
model_of_group (groups.Defined def) = defined.Defined (model_of_def def)
model_of_group groups.Sum = defined.Sum
model_of_group groups.IgnoredSum = defined.IgnoredSum
model_of_group (groups.Address at) = defined.Address at
model_of_group (groups.Word word) = defined.Word word
model_of_group groups.EndOfLine = defined.EndOfLine
model_of_group groups.EndOfModule = defined.EndOfModule

abbrev pub model_of_found : FoundGroup → defined.FoundGroup
model_of_found (found.Whole character group) = defined.Whole character (model_of_group group)
model_of_found (found.Broken character tag cause) = defined.Broken character tag cause

abbrev pub model_of_whole : Result Group TagCause → Result defined.Group TagCause
model_of_whole (Ok group) = Ok (model_of_group group)
model_of_whole (Err cause) = Err cause
