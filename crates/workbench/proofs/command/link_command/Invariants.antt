use Rattle.std.proofs.Common.{◌≡◌, ◌+◌, ◌∷◌, ◌++◌, length, drop}
use Rattle.std.specs.List.{list_all}
use Rattle.shelf_defs.specs.Files.{is_file_name}
use Rattle.workbench.proofs.NameLaws.{texts}
use Rattle.workbench.proofs.command.link_command.Given as goal

-- the words so far are these names, and the rest decides whether all are
abbrev pub invariant-loop-word : goal.invariant-loop-word
invariant-loop-word l = record {
  names : l.names ++ texts (drop l.word-index l.words) ≡ l.fn.first.items ∷ texts l.words;
  all : list_all is_file_name (l.fn.first.items ∷ texts l.words) ≡ list_all is_file_name (texts (drop l.word-index l.words));
  size : length l.names ≡ l.word-index + 1;
}
