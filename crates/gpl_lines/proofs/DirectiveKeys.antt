-- The directive that an operation field names, by the number of its text.
use Rattle.std.proofs.Common.{◌≡◌, ℕ, List, refl, sym, ap, ◌∙◌}
use Rattle.std.specs.Prelude.{Option, map}
use Rattle.gpl_source_defs.specs.declared.directive.Directive.{Directive}
use Rattle.gpl_source_defs.specs.Directives.{directives, directive}
use Rattle.asm_text.specs.WordKeys.{key_of, word_key, with_key}
use Rattle.asm_text.proofs.WordKeys.{AreBytes, first_by_key}

-- the directives, each after the number of its name
abbrev pub named : List (ℕ × Directive)
named = map (λ (row : List ℕ × Directive). (key_of row.0, row.1)) directives

-- by the number that the text has, or by none
pub by_number : (text : List ℕ) (key : Option ℕ) → AreBytes text → key ≡ word_key text → with_key key named ≡ directive text
unfolding directive
by_number text key bytes is = ap (λ key. with_key key named) is ∙ sym (first_by_key text directives bytes refl)
