use Rattle.std.proofs.Common.{◌≡◌, ◌≤◌, ◌+◌, ◌*◌, ◌++◌, map, drop}
use Rattle.object_tags.specs.Seen.{model_of_module}
use Rattle.link_defs.specs.Placing.{sections_from, first_base, defs_of, section_words, refs_of, entries_of}
use Rattle.link_loader.proofs.parts.Parts.of.Given as goal

-- the whole lists, with what the modules that are left say
abbrev pub invariant-loop-module : goal.invariant-loop-module
invariant-loop-module l = record {
  base : l.base ≤ 0xA000 + 65536 * l.module-index;
  defs : defs_of (sections_from first_base (map model_of_module l.modules.items)) ≡ l.parts.defs.items ++ defs_of (sections_from l.base (map model_of_module (drop l.module-index l.modules.items)));
  words : section_words (sections_from first_base (map model_of_module l.modules.items)) ≡ l.parts.words.items ++ section_words (sections_from l.base (map model_of_module (drop l.module-index l.modules.items)));
  refs : refs_of (sections_from first_base (map model_of_module l.modules.items)) ≡ l.parts.refs.items ++ refs_of (sections_from l.base (map model_of_module (drop l.module-index l.modules.items)));
  entries : entries_of (sections_from first_base (map model_of_module l.modules.items)) ≡ l.parts.entries.items ++ entries_of (sections_from l.base (map model_of_module (drop l.module-index l.modules.items)));
}
