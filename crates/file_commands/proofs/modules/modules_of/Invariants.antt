use Rattle.std.proofs.Common.{◌≡◌, ◌≤◌, ◌*◌, length, take, Ok}
use Rattle.object_tags.specs.Answers.{model_of_modules}
use Rattle.report_defs.specs.LinkedFiles.{modules_of}
use Rattle.file_commands.specs.Reading.{model_of_texts}
use Rattle.file_commands.proofs.modules.modules_of.Given as goal

-- the modules of the files so far
abbrev pub invariant-loop-text : goal.invariant-loop-text
invariant-loop-text l = record {
  found : modules_of (model_of_texts (take l.text-index l.texts)) ≡ Ok (model_of_modules l.modules.items);
  few : length l.modules.items ≤ 64 * l.text-index;
}
