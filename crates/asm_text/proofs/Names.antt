-- What the names that are kept stand for.
use Rattle.std.proofs.Common.{◌≡◌, ℕ, Bool, true, false, cond, List, [], ◌∷◌, ◌++◌, Some, None, Ok, Err, refl, sym, ap, subst, ◌∙◌, arith}
use Rattle.std.specs.Prelude.{Option, Result, ◌==◌, map, is_some, IsSome, OnOk, OnErr}
use Rattle.std.specs.Option.{option_map}
use Rattle.std.specs.Ordering.{nat_cmp, eq_by_cmp, is_eq}
use Rattle.std.specs.declared.cmp.Ordering.{Ordering}
use Rattle.std.specs.declared.cmp.Ordering.TheVariants.{Less, Equal, Greater}
use Rattle.std.specs.FinMap.Entries.{find_tied}
use Rattle.std.specs.Cmp.{eq_by_cmp_equiv}
use Rattle.std.specs.Cmp.Lexicographic.{slice_cmp, nat_list_cmp_total}
use Rattle.std.specs.FinMap.{get, get-from_entries, get-insert, get-remove, insert, remove, same_map, slice_cmp-IsAntisymmetric, nat_cmp-IsAntisymmetric}
use Rattle.std.specs.BTreeMap.{BTreeMap, is_at}
use Rattle.std.specs.BTreeMap as tree
use Rattle.std.specs.Map.{lookup}
use Rattle.expression_defs.specs.Expression as defined
use Rattle.expression_defs.specs.Symbols.{registers}
use Rattle.expression_defs.proofs.SymbolLaws.{found}
use Rattle.asm_text.specs.declared.expressions.values.Value.{Value}
use Rattle.asm_text.specs.GivenValues.{model_of_value}
use Rattle.std.proofs.lemmas.Bool.Decides.{nat_tests}
use Rattle.asm_text.specs.Kept.{begins_as_register, model_of_entry, names_of}

equal_of : (r : Ordering) → is_eq r ≡ true → r ≡ Equal
equal_of Less e = cc
equal_of Equal e = refl
equal_of Greater e = cc

-- the first of two that is there
abbrev pub or_else : Option defined.Value → Option defined.Value → Option defined.Value
or_else (Some value) other = Some value
or_else None other = other

either : (b : Bool) (value : defined.Value) (first second : Option defined.Value)
    → cond b (Some value) (or_else first second) ≡ or_else (cond b (Some value) first) second
either true value first second = refl
either false value first second = refl

found-append : (name : List ℕ) (front after : List (List ℕ × defined.Value)) → found name (front ++ after) ≡ or_else (found name front) (found name after)
found-append name [] after = refl
found-append name (entry ∷ front) after =
    ap (cond (eq_by_cmp (slice_cmp nat_cmp) name entry.0) (Some entry.1)) (found-append name front after)
    ∙ either (eq_by_cmp (slice_cmp nat_cmp) name entry.0) entry.1 (found name front) (found name after)

mapped : (b : Bool) (value : Value) (other : Option Value) → cond b (Some (model_of_value value)) (option_map model_of_value other)
    ≡ option_map model_of_value (cond b (Some value) other)
mapped true value other = refl
mapped false value other = refl

found-map : (name : List ℕ) (entries : List (List ℕ × Value)) → found name (map model_of_entry entries)
    ≡ option_map model_of_value (lookup (is_at (slice_cmp nat_cmp name)) entries)
found-map name [] = refl
found-map name (entry ∷ entries) =
    ap (cond (eq_by_cmp (slice_cmp nat_cmp) name entry.0) (Some (model_of_value entry.1))) (found-map name entries)
    ∙ mapped (eq_by_cmp (slice_cmp nat_cmp) name entry.0) entry.1 (lookup (is_at (slice_cmp nat_cmp name)) entries)

-- a name is a register, or what is kept for it
pub get_kept : (entries : List (List ℕ × Value)) (name : List ℕ) → get (names_of entries) name
    ≡ or_else (found name registers) (option_map model_of_value (lookup (is_at (slice_cmp nat_cmp name)) entries))
get_kept entries name =
    get-from_entries nat_list_cmp_total (registers ++ map model_of_entry entries) name
    ∙ (found-append name registers (map model_of_entry entries) ∙ ap (or_else (found name registers)) (found-map name entries))

pub none_both : (first second : Option defined.Value) → or_else first second ≡ None → first ≡ None
none_both (Some value) second e = cc
none_both None second e = refl

-- nothing is there
pub none_of : (kept : Option Value) → is_some kept ≡ false → option_map model_of_value kept ≡ None
none_of (Some value) e = cc
none_of None e = refl

module _ (old new : BTreeMap (List ℕ) Value) (name : List ℕ) (value : Value) where
  same_at : (b : Bool) (asked : List ℕ) → eq_by_cmp (slice_cmp nat_cmp) name asked ≡ b → found name registers ≡ None
      → or_else (found asked registers) (option_map model_of_value (cond b (Some value) (tree.get (slice_cmp nat_cmp) old asked)))
      ≡ cond b (Some (model_of_value value)) (or_else (found asked registers) (option_map model_of_value (tree.get (slice_cmp nat_cmp) old asked)))
  same_at true asked tied none =
      let other : found asked registers ≡ None = find_tied (slice_cmp nat_cmp) nat_list_cmp_total name asked (equal_of _ tied) registers ∙ none in
      rw other refl
  same_at false asked tied none = refl

  -- a name that stood for nothing is defined
  pub define_kept : tree.Updates (slice_cmp nat_cmp) old new name (Some value) → get (names_of old.entries) name ≡ None
      → names_of new.entries ≡ insert (names_of old.entries) name (model_of_value value)
  define_kept updates none =
      let no_register : found name registers ≡ None = none_both _ _ (sym (get_kept old.entries name) ∙ none) in
      same_map nat_list_cmp_total (slice_cmp-IsAntisymmetric nat_cmp-IsAntisymmetric) _ _
      (λ asked.
      get_kept new.entries asked
      ∙ (ap (λ kept. or_else (found asked registers) (option_map model_of_value kept)) (updates.0 asked)
      ∙ (same_at _ asked refl no_register
      ∙ (ap (λ b. cond b (Some (model_of_value value)) (or_else (found asked registers) (option_map model_of_value (tree.get (slice_cmp nat_cmp) old asked))))
      ((eq_by_cmp_equiv nat_list_cmp_total).symm name asked)
      ∙ (ap (cond (eq_by_cmp (slice_cmp nat_cmp) asked name) (Some (model_of_value value))) (sym (get_kept old.entries asked))
      ∙ sym (get-insert nat_list_cmp_total (names_of old.entries) name (model_of_value value) asked))))))

module _ (old new : BTreeMap (List ℕ) Value) (name : List ℕ) where
  removed_at : (b : Bool) (asked : List ℕ) → eq_by_cmp (slice_cmp nat_cmp) name asked ≡ b → found name registers ≡ None
      → or_else (found asked registers) (option_map model_of_value (cond b None (tree.get (slice_cmp nat_cmp) old asked)))
      ≡ cond b None (or_else (found asked registers) (option_map model_of_value (tree.get (slice_cmp nat_cmp) old asked)))
  removed_at true asked tied none =
      let other : found asked registers ≡ None = find_tied (slice_cmp nat_cmp) nat_list_cmp_total name asked (equal_of _ tied) registers ∙ none in
      rw other refl
  removed_at false asked tied none = refl

  -- a name that is no register is taken out
  pub remove_kept : tree.Updates (slice_cmp nat_cmp) old new name None → found name registers ≡ None
      → names_of new.entries ≡ remove (names_of old.entries) name
  remove_kept updates none =
      same_map nat_list_cmp_total (slice_cmp-IsAntisymmetric nat_cmp-IsAntisymmetric) _ _
      (λ asked.
      get_kept new.entries asked
      ∙ (ap (λ kept. or_else (found asked registers) (option_map model_of_value kept)) (updates.0 asked)
      ∙ (removed_at _ asked refl none
      ∙ (ap (λ b. cond b None (or_else (found asked registers) (option_map model_of_value (tree.get (slice_cmp nat_cmp) old asked))))
      ((eq_by_cmp_equiv nat_list_cmp_total).symm name asked)
      ∙ (ap (cond (eq_by_cmp (slice_cmp nat_cmp) asked name) None) (sym (get_kept old.entries asked))
      ∙ sym (get-remove nat_list_cmp_total (names_of old.entries) name asked))))))

-- the same is kept for each name
pub kept_same : (old new : BTreeMap (List ℕ) Value) → ((asked : List ℕ) → tree.get (slice_cmp nat_cmp) new asked ≡ tree.get (slice_cmp nat_cmp) old asked)
    → names_of new.entries ≡ names_of old.entries
kept_same old new same =
    same_map nat_list_cmp_total (slice_cmp-IsAntisymmetric nat_cmp-IsAntisymmetric) _ _
    (λ asked.
    get_kept new.entries asked
    ∙ (ap (λ kept. or_else (found asked registers) (option_map model_of_value kept)) (same asked) ∙ sym (get_kept old.entries asked)))

-- a name stands for nothing where it is no register and nothing is kept for it
pub get_free : (kept : BTreeMap (List ℕ) Value) (name : List ℕ) → found name registers ≡ None
    → get (names_of kept.entries) name ≡ option_map model_of_value (tree.get (slice_cmp nat_cmp) kept name)
get_free kept name none = get_kept kept.entries name ∙ ap (λ register. or_else register (option_map model_of_value (tree.get (slice_cmp nat_cmp) kept name)))
    none

module _ (old between new : BTreeMap (List ℕ) Value) (name : List ℕ) (value before : Value) where
  back_at : (b : Bool) (asked : List ℕ) → eq_by_cmp (slice_cmp nat_cmp) name asked ≡ b → tree.get (slice_cmp nat_cmp) old name ≡ Some before
      → cond b (Some before) (cond b (Some value) (tree.get (slice_cmp nat_cmp) old asked)) ≡ tree.get (slice_cmp nat_cmp) old asked
  back_at true asked tied was =
      sym was ∙ ap (tree.get (slice_cmp nat_cmp) old) (slice_cmp-IsAntisymmetric nat_cmp-IsAntisymmetric name asked (equal_of _ tied))
  back_at false asked tied was = refl

  -- what was kept for a name is put back
  pub put_back : tree.get (slice_cmp nat_cmp) old name ≡ Some before → tree.Updates (slice_cmp nat_cmp) old between name (Some value)
      → tree.Updates (slice_cmp nat_cmp) between new name (Some before)
      → (asked : List ℕ) → tree.get (slice_cmp nat_cmp) new asked ≡ tree.get (slice_cmp nat_cmp) old asked
  put_back was first then_ asked =
      then_.0 asked
      ∙ (ap (cond (eq_by_cmp (slice_cmp nat_cmp) name asked) (Some before)) (first.0 asked)
      ∙ back_at (eq_by_cmp (slice_cmp nat_cmp) name asked) asked refl was)

pub register_some : (number : Option ℕ) (entries : List (List ℕ × Value)) (name : List ℕ) → option_map defined.Absolute number ≡ found name registers
    → is_some number ≡ true → IsSome (get (names_of entries) name)
register_some None entries name is some = cc some
register_some (Some number) entries name is some =
    subst IsSome
    (sym (get_kept entries name ∙ ap (λ register. or_else register (option_map model_of_value (lookup (is_at (slice_cmp nat_cmp name)) entries))) (sym is))) refl

pub register_none : (number : Option ℕ) (name : List ℕ) → option_map defined.Absolute number ≡ found name registers → is_some number ≡ false
    → found name registers ≡ None
register_none None name is none = sym is
register_none (Some number) name is none = cc none

pub some_seen : (kept : Option Value) → IsSome kept → IsSome (option_map model_of_value kept)
some_seen (Some value) some = refl
some_seen None some = some

pub seen_some : (kept : Option Value) → IsSome (option_map model_of_value kept) → IsSome kept
seen_some (Some value) some = refl
seen_some None some = some

pub on_ok : {A E P Q R : Type 0} (result : Result A E) → OnOk result P → OnOk result Q → (P → Q → R) → OnOk result R
on_ok (Ok value) p q f = f p q
on_ok (Err error) p q f = tt

pub on_err : {A E P Q : Type 0} (result : Result A E) → OnErr result P → (P → Q) → OnErr result Q
on_err (Ok value) p f = tt
on_err (Err error) p f = f p

-- a name that begins otherwise is no register
pub no_register : (name : List ℕ) → begins_as_register name ≡ false → found name registers ≡ None
unfolding registers
no_register [] other = refl
no_register (first ∷ name) other = by (nat_cmp first 0x52) refl
  where
    by : (r : Ordering) → nat_cmp first 0x52 ≡ r → found (first ∷ name) registers ≡ None
    by Less e = rw e refl
    by Equal e =
        let same : first ≡ 0x52 = nat_cmp-IsAntisymmetric first 0x52 e in
        let is : (first == 0x52) ≡ true = grind (arith, nat_tests) in
        cc (is, other)
    by Greater e = rw e refl
