-- The module of lines is that of their text.
use Rattle.std.proofs.Common.{◌≡◌, ℕ, List, ap}
use Rattle.std.specs.List.{AllByRecursion}
use Rattle.asm_defs.specs.Modules.{module_of, module_of_lines, module_of_source}
use Rattle.source_defs.specs.EndedLines.{IsOneLine, text_of}
use Rattle.source_defs.proofs.EndedLines.{texts_have_their_lines}

pub lines_make_texts : (texts : List (List ℕ)) → AllByRecursion IsOneLine texts
    → module_of_source (text_of texts) ≡ module_of_lines texts
lines_make_texts texts all = ap module_of (texts_have_their_lines texts all)
