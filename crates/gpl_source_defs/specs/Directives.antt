-- The directives by their names.
use Rattle.std.specs.Prelude.{ℕ, List, [], ◌∷◌, codes, Option}
use Rattle.source_defs.specs.Names.{named_in}
use Rattle.gpl_source_defs.specs.declared.directive.Directive.{Directive}
use Rattle.gpl_source_defs.specs.declared.directive.Directive.TheVariants.{Grom, Aorg, Equ, Data, Byte, Text, Bss, End}

-- The directives by their names.
-- Profile: a GPL source has these; all other directives of the Editor/Assembler manual are unknown operations.
abbrev pub directives : List (List ℕ × Directive)
directives =
    (codes "DATA", Data) ∷ (codes "BYTE", Byte) ∷ (codes "TEXT", Text) ∷ (codes "EQU", Equ) ∷
    (codes "BSS", Bss) ∷ (codes "AORG", Aorg) ∷ (codes "GROM", Grom) ∷ (codes "END", End) ∷ []

-- the directive that an operation field names
unfoldable pub directive : List ℕ → Option Directive
directive text = named_in directives text
