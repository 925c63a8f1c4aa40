-- What an operation field names, by the number of its text.
use Rattle.std.proofs.Common.{◌≡◌, ℕ, cond, List, Some, false, refl, sym, ap, subst, ◌∙◌, arith}
use Rattle.std.specs.Prelude.{Option, ◌==◌, find, codes}
use Rattle.std.specs.Option.{option_map}
use Rattle.std.proofs.lemmas.Bool.Decides.{nat_tests}
use Rattle.source_defs.specs.Names.{is_word}
use Rattle.tms_defs.specs.Instructions.{operations}
use Rattle.tms_defs.specs.Instructions.{name_of}
use Rattle.instruction_defs.specs.Operations.{mnemonic}
use Rattle.instruction_defs.specs.declared.mnemonic.Mnemonic.{Mnemonic}
use Rattle.instruction_defs.specs.declared.mnemonic.Mnemonic.TheVariants.{Of, Fixed}
use Rattle.asm_text.specs.WordKeys.{word_key, is_of_key, with_key}
use Rattle.asm_forms.specs.Named.{named}
use Rattle.asm_text.proofs.WordKeys.{AreBytes, word_by_key, words_found}

-- what a number names
abbrev pub named_by : Option ℕ → Option Mnemonic
named_by key =
    cond (is_of_key key (codes "NOP")) (Some (Fixed 0x1000))
    (cond (is_of_key key (codes "RT")) (Some (Fixed 0x045B)) (option_map Of (with_key key named)))

by_key : (text : List ℕ) → AreBytes text → mnemonic text ≡ named_by (word_key text)
unfolding mnemonic
by_key text bytes =
    ap (λ same. cond same (Some (Fixed 0x1000)) (cond (is_word text (codes "RT")) (Some (Fixed 0x045B))
    (option_map Of (find (λ operation. is_word text (name_of operation)) operations)))) (word_by_key text (codes "NOP") bytes refl)
    ∙ (ap (λ same. cond (is_of_key (word_key text) (codes "NOP")) (Some (Fixed 0x1000))
    (cond same (Some (Fixed 0x045B)) (option_map Of (find (λ operation. is_word text (name_of operation)) operations))))
    (word_by_key text (codes "RT") bytes refl)
    ∙ ap (λ found. cond (is_of_key (word_key text) (codes "NOP")) (Some (Fixed 0x1000))
    (cond (is_of_key (word_key text) (codes "RT")) (Some (Fixed 0x045B)) (option_map Of found))) (words_found name_of text operations bytes refl))

-- by the number that the text has, or by none
pub by_number : (text : List ℕ) (key : Option ℕ) → AreBytes text → key ≡ word_key text → named_by key ≡ mnemonic text
by_number text key bytes is = ap named_by is ∙ sym (by_key text bytes)

pub is_nop : (key : ℕ) → key ≡ 0x01504F4E → Some (Fixed 0x1000) ≡ named_by (Some key)
is_nop key same = subst (λ (key : ℕ). Some (Fixed 0x1000) ≡ named_by (Some key)) (sym same) refl

pub is_rt : (key : ℕ) → key ≡ 0x015452 → Some (Fixed 0x045B) ≡ named_by (Some key)
is_rt key same = subst (λ (key : ℕ). Some (Fixed 0x045B) ≡ named_by (Some key)) (sym same) refl

pub is_named : (key : ℕ) → (key ≡ 0x01504F4E → ⊥) → (key ≡ 0x015452 → ⊥) → option_map Of (with_key (Some key) named) ≡ named_by (Some key)
is_named key other more =
    let no_nop : (key == 0x01504F4E) ≡ false = grind (arith, nat_tests) in
    let no_rt : (key == 0x015452) ≡ false = grind (arith, nat_tests) in
    sym (ap (λ same. cond same (Some (Fixed 0x1000)) (cond (key == 0x015452) (Some (Fixed 0x045B)) (option_map Of (with_key (Some key) named)))) no_nop
    ∙ ap (λ same. cond same (Some (Fixed 0x045B)) (option_map Of (with_key (Some key) named))) no_rt)
