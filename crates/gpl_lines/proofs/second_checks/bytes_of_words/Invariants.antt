use Rattle.std.proofs.Common.{◌≡◌, take}
use Rattle.std.specs.List.{flat_map}
use Rattle.gpl_defs.specs.Bytes.{word_bytes}
use Rattle.gpl_lines.proofs.second_checks.bytes_of_words.Given as goal

abbrev pub invariant-loop-word : goal.invariant-loop-word
invariant-loop-word l = l.bytes.items ≡ flat_map word_bytes (take l.word-index l.words)
