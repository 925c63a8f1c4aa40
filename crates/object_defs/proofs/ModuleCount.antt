-- The number of modules in a text is bounded.
use Rattle.std.proofs.Common.{◌≡◌, ℕ, ◌+◌, ◌≤◌, Bool, true, false, List, [], ◌∷◌, ◌++◌, length, length-append, refl, ap, subst, arith, Result, Ok, Err}
use Rattle.std.specs.Prelude.{nat_le, if◌then◌else◌}
use Rattle.std.proofs.lemmas.Bool.Decides.{nat_tests}
use Rattle.source_defs.specs.Refusals.{◌>>=◌, at_line}
use Rattle.object_defs.specs.declared.form.TextForm.{TextForm}
use Rattle.object_defs.specs.declared.causes.TagCause.{TagCause}
use Rattle.object_defs.specs.declared.causes.TagCause.TheVariants.{TooMany}
use Rattle.object_defs.specs.declared.tag.Tag.{Tag}
use Rattle.object_defs.specs.declared.tag.Tag.TheVariants as tags
use Rattle.object_defs.specs.Modules.{Module, most_modules}
use Rattle.object_defs.specs.Groups.{Group, Header, EndOfModule, FoundGroup, Whole, Broken}
use Rattle.object_defs.specs.Groups.{tag_found, groups_of}
use Rattle.object_defs.specs.Reading.{Found, NumberedLine, is_allowed, is_allowed_first, module_of, added, with_group, with_groups, with_lines, ended}
use Rattle.object_defs.specs.Reading.{nothing_found}
use Rattle.object_defs.specs.Reading.{last_number, form_of, text_lines, read}

-- the module that is open counts too
open_count : List Group → ℕ
open_count [] = 0
open_count (group ∷ groups) = 1

abbrev count_of : Found → ℕ
count_of found = length found.modules + open_count found.current

-- what a bind answers
record Bound {A B C : Type 0} (first : Result A C) (next : A → Result B C) (last : B) : Type 0 where
  value : A
  is : first ≡ Ok value
  leads : next value ≡ Ok last

bound : {A B C : Type 0} (first : Result A C) (next : A → Result B C) (last : B) → (first >>= next) ≡ Ok last → Bound first next last
bound (Ok value) next last e = record { value = value; is = refl; leads = e }
bound (Err cause) next last e = absurd cc

line_ok : {A C : Type 0} (number : ℕ) (result : Result A C) (value : A) → at_line number result ≡ Ok value → result ≡ Ok value
line_ok number (Ok found) value e = ap Ok (cc)
line_ok number (Err cause) value e = absurd cc

some_module : (modules : List Module) (m : Module) → length (modules ++ m ∷ []) ≡ length modules + 1
some_module modules m = length-append modules (m ∷ [])

-- after the groups of an open module
grows : (modules : List Module) (first : Group) (before : List Group) (group : Group) → length modules + 1 ≤ 64 → count_of (added (record { modules = modules; current = first ∷ before }) group) ≤ 64
unfolding open_count
grows modules first before EndOfModule le = let more = some_module modules (module_of (first ∷ before)) in omega (arith, more, le)
grows modules first before _ le = le

-- the first group of a module
begins : (modules : List Module) (character : ℕ) (group : Group) (tag : Tag) → length modules + 0 ≤ 64
    → is_allowed_first (length modules) character (tag_found (Whole character group)) ≡ Ok tag → count_of (added (record { modules = modules; current = [] }) group) ≤ 64
unfolding open_count
begins modules character (Header size name) tag le e = by (nat_le most_modules (length modules)) refl e
  where
    by : (full : Bool) → nat_le most_modules (length modules) ≡ full → (if full then Err TooMany else Ok tags.Header) ≡ Ok tag → length modules + 1 ≤ 64
    by true is e = absurd cc
    by false is e = grind (arith, nat_tests)
begins modules character _ tag le e = absurd cc

same_found : (a b : Found) → ◌≡◌ {A = Result Found TagCause} (Ok a) (Ok b) → a ≡ b
same_found a b e = cc

never : (stood : Result Tag TagCause) (cause : TagCause) (next : Found) → (stood >>= λ tag. Err cause) ≡ Ok next → ⊥
never (Ok tag) cause next e = cc
never (Err other) cause next e = cc

keeps : (modules : List Module) (current : List Group) (at : FoundGroup) (next : Found) → length modules + open_count current ≤ 64
    → with_group (record { modules = modules; current = current }) at ≡ Ok next → count_of next ≤ 64
unfolding open_count
keeps modules current (Broken character tag cause) next le e =
    absurd (never (is_allowed (length modules) current character tag) cause next e)
keeps modules [] (Whole character group) next le e =
    let found : Found = record { modules = modules; current = [] } in
    let stood = bound (is_allowed_first (length modules) character (tag_found (Whole character group))) (λ tag. Ok (added found group)) next e in
    let is : added found group ≡ next = same_found _ _ stood.leads in
    subst (λ (x : Found). count_of x ≤ 64) is (begins modules character group stood.value le stood.is)
keeps modules (first ∷ before) (Whole character group) next le e =
    let found : Found = record { modules = modules; current = first ∷ before } in
    let stood = bound (is_allowed (length modules) (first ∷ before) character (tag_found (Whole character group))) (λ tag. Ok (added found group)) next e in
    subst (λ (x : Found). count_of x ≤ 64) (same_found _ _ stood.leads) (grows modules first before group le)

keeps_groups : (groups : List FoundGroup) (found next : Found) → count_of found ≤ 64 → with_groups found groups ≡ Ok next → count_of next ≤ 64
keeps_groups [] found next le e = let is : found ≡ next = cc in subst (λ (x : Found). count_of x ≤ 64) is le
keeps_groups (group ∷ groups) found next le e =
    let one = bound (with_group found group) (λ found. with_groups found groups) next e in
    keeps_groups groups one.value next (keeps found.modules found.current group one.value le one.is) one.leads

keeps_lines : (form : TextForm) (lines : List NumberedLine) (found next : Found) → count_of found ≤ 64 → with_lines form found lines ≡ Ok next → count_of next ≤ 64
keeps_lines form [] found next le e = let is : found ≡ next = cc in subst (λ (x : Found). count_of x ≤ 64) is le
keeps_lines form (line ∷ lines) found next le e =
    let one = bound (at_line line.number (with_groups found (groups_of form line.text))) (λ found. with_lines form found lines) next e in
    keeps_lines form lines one.value next (keeps_groups (groups_of form line.text) found one.value le (line_ok line.number _ one.value one.is)) one.leads

all_ended : (last : ℕ) (modules found : List Module) (current : List Group) → ended last found current ≡ Ok modules → found ≡ modules
all_ended last modules found [] e = cc
all_ended last modules found (group ∷ groups) e = absurd cc

-- the modules of a text are no more than a text may have
pub few_modules : (text : List ℕ) (modules : List Module) → read text ≡ Ok modules → length modules ≤ 64
unfolding read open_count
few_modules text modules e =
    let lines = text_lines text in
    let whole = bound (with_lines (form_of text) nothing_found lines) (λ found. ended (last_number 0 lines) found.modules found.current) modules e in
    let within : count_of whole.value ≤ 64 = keeps_lines (form_of text) lines nothing_found whole.value (omega arith) whole.is in
    let is : whole.value.modules ≡ modules = all_ended (last_number 0 lines) modules whole.value.modules whole.value.current whole.leads in
    let same = ap (λ (ms : List Module). length ms) is in
    omega (arith, within, same)
