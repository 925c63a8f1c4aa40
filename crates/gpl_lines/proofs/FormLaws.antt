-- An instruction that has a name has a form in the table of codes.
use Rattle.std.proofs.Common.{◌≡◌, ℕ, Bool, true, false, List, [], ◌∷◌, Some, refl, sym, subst, ◌∙◌}
use Rattle.std.specs.Prelude.{find, ◌&&◌}
use Rattle.std.specs.List.{list_all}
use Rattle.source_defs.specs.Names.{is_word}
use Rattle.gpl_source_defs.specs.declared.mnemonic.Mnemonic.{Mnemonic}
use Rattle.gpl_source_defs.specs.Mnemonics.{mnemonic, mnemonics, name_of}
use Rattle.gpl_lines.specs.Validity.{HasForm, has_form}

all_have : list_all has_form mnemonics ≡ true
all_have = refl

both : (a b : Bool) → (a && b) ≡ true → (a ≡ true) × (b ≡ true)
both true true e = (refl, refl)
both true false e = cc e
both false b e = cc e

found_by : {A : Type 0} (p q : A → Bool) (items : List A) (item found : A) (b : Bool) → p item ≡ b
    → find p (item ∷ items) ≡ Some found → list_all q (item ∷ items) ≡ true → (find p items ≡ Some found → list_all q items ≡ true → q found ≡ true)
    → q found ≡ true
found_by p q items item found true is e all next =
    let first : find p (item ∷ items) ≡ Some item = rw is refl in
    let same : item ≡ found = cc (first, e) in
    subst (λ one. q one ≡ true) same (both (q item) (list_all q items) all).0
found_by p q items item found false is e all next =
    let rest : find p (item ∷ items) ≡ find p items = rw is refl in
    next (sym rest ∙ e) (both (q item) (list_all q items) all).1

found_has : {A : Type 0} (p q : A → Bool) (items : List A) (found : A) → find p items ≡ Some found → list_all q items ≡ true → q found ≡ true
found_has p q [] found e all = cc e
found_has p q (item ∷ items) found e all = found_by p q items item found (p item) refl e all (found_has p q items found)

pub named_has_form : (text : List ℕ) (named : Mnemonic) → mnemonic text ≡ Some named → HasForm named
unfolding mnemonic
named_has_form text named e = found_has (λ one. is_word text (name_of one)) has_form mnemonics named e all_have
