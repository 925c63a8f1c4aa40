-- The directives by their names.
use Rattle.std.specs.Prelude.{ℕ, List, [], ◌∷◌, codes, Option}
use Rattle.source_defs.specs.Names.{named_in}
use Rattle.asm_defs.specs.declared.directive.Directive.{Directive}
use Rattle.asm_defs.specs.declared.directive.Directive.TheVariants.{
  Aorg,
  Rorg,
  Dorg,
  Bss,
  Bes,
  Even,
  Equ,
  Data,
  Byte,
  Text,
  Def,
  Ref,
  Idt,
  Titl,
  Quiet,
  End,
}

-- The directives by their names. Editor/Assembler manual, "Assembler Directives".
-- Profile: PAGE, LIST and UNL have no effect, and TITL has none but that its text must be one in quotes.
abbrev pub directives : List (List ℕ × Directive)
directives =
    (codes "DATA", Data) ∷ (codes "BYTE", Byte) ∷ (codes "TEXT", Text) ∷ (codes "EQU", Equ) ∷
    (codes "BSS", Bss) ∷ (codes "BES", Bes) ∷ (codes "EVEN", Even) ∷ (codes "AORG", Aorg) ∷
    (codes "RORG", Rorg) ∷ (codes "DORG", Dorg) ∷ (codes "DEF", Def) ∷ (codes "REF", Ref) ∷
    (codes "IDT", Idt) ∷ (codes "TITL", Titl) ∷ (codes "PAGE", Quiet) ∷ (codes "LIST", Quiet) ∷
    (codes "UNL", Quiet) ∷ (codes "END", End) ∷ []

-- the directive that an operation field names
unfoldable pub directive : List ℕ → Option Directive
directive text = named_in directives text
