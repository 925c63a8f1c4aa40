-- A reader that keeps a load address reads what is defined.
use Rattle.std.proofs.Common.{◌≡◌, ℕ, ◌+◌, ◌*◌, ◌%◌, Bool, true, false, List, [], ◌∷◌, length, Option, Some, None, Result, Ok, Err, refl, sym, ap, ◌∙◌, arith}
use Rattle.source_defs.specs.Refusals.{Refusal, ◌>>=◌, at_line}
use Rattle.object_defs.specs.declared.form.TextForm.{TextForm}
use Rattle.object_defs.specs.declared.spot.Spot.{Spot}
use Rattle.object_defs.specs.declared.spot.Spot.TheVariants.{Absolute, Relocatable}
use Rattle.object_defs.specs.declared.causes.TagCause.{TagCause}
use Rattle.object_defs.specs.declared.tag.Tag.{Tag}
use Rattle.object_defs.specs.Modules.{Module, moved}
use Rattle.object_defs.specs.Fields.{all_blank}
use Rattle.object_defs.specs.Groups.{Group, Header, Entry, Referred, Defined, Word, FoundGroup, Whole, Broken}
use Rattle.object_defs.specs.Groups.{tag_of_group, groups_from}
use Rattle.object_laws.proofs.Places.{all_places}
use Rattle.object_defs.specs.Reading.{last_address, words_since, place_after, module_of, is_allowed_first, is_allowed_after, Found, nothing_found, added}
use Rattle.object_defs.specs.Reading.{with_group}
use Rattle.object_defs.specs.Reading.{with_groups, NumberedLine, with_lines, last_number, ended, form_of, text_lines, read}
use Rattle.object_laws.specs.Running.{OpenModule, first_of, grown, more, begun, Kept, nothing_kept, kept_with, kept_groups, kept_line, kept_lines, finished}

-- ---- what is kept of some groups

abbrev open_of : List Group → OpenModule
open_of groups = record { found = module_of groups; load = place_after groups }

abbrev current_of : List Group → Option OpenModule
current_of [] = None
current_of (group ∷ before) = Some (open_of (group ∷ before))

abbrev kept_of : ℕ → Found → Kept
kept_of last found = record { modules = found.modules; current = current_of found.current; last = last }

abbrev kept : {E : Type 0} → ℕ → Result Found E → Result Kept E
kept last (Ok found) = Ok (kept_of last found)
kept last (Err cause) = Err cause

-- ---- one more group

moved_more : (at : Spot) (words : ℕ) → moved (moved at (2 * words)) 2 ≡ moved at (2 * (words + 1))
moved_more (Absolute n) words = let e : ((n + 2 * words) % 65536 + 2) % 65536 ≡ (n + 2 * (words + 1)) % 65536 = omega arith in ap Absolute e
moved_more (Relocatable n) words = let e : ((n + 2 * words) % 65536 + 2) % 65536 ≡ (n + 2 * (words + 1)) % 65536 = omega arith in ap Relocatable e

abbrev IsGrown : List Group → Group → Type 0
IsGrown before group = grown (open_of before) group ≡ open_of (group ∷ before)

word_grown : (before : List Group) (word : Spot) → IsGrown before (Word word)
word_grown before word = ap (λ (at : Spot). record { found = module_of (Word word ∷ before); load = at }) (moved_more (last_address before) (words_since before))

module _ (modules : List Module) (last : ℕ) where
  abbrev found_by : List Group → Found
  found_by groups = record { modules = modules; current = groups }

  abbrev kept_by : OpenModule → Kept
  kept_by m = record { modules = modules; current = Some m; last = last }

  -- a group after others, by what its tag's place is
  rest_is : (r : Result Tag TagCause) (before : List Group) (group : Group) → IsGrown before group
      → ((r >>= λ tag. Ok (grown (open_of before) group)) >>= λ m. Ok (kept_by m)) ≡ kept last (r >>= λ tag. Ok (found_by (group ∷ before)))
  rest_is (Ok tag) before group is = ap (λ (m : OpenModule). Ok (kept_by m)) is
  rest_is (Err cause) before group is = refl

  broken : (r : Result Tag TagCause) (cause : TagCause) (f : Group → OpenModule) (g : Group → Found)
      → ((r >>= λ tag. Err cause >>= λ group. Ok (f group)) >>= λ m. Ok (kept_by m)) ≡ kept last (r >>= λ tag. Err cause >>= λ group. Ok (g group))
  broken (Ok tag) cause f g = refl
  broken (Err other) cause f g = refl

  first : (r : Result Tag TagCause) (size : ℕ) (name : List ℕ)
      → ((r >>= λ tag. Ok (open_of (Header size name ∷ []))) >>= λ m. Ok (kept_by m)) ≡ kept last (r >>= λ tag. Ok (found_by (Header size name ∷ [])))
  first (Ok tag) size name = refl
  first (Err cause) size name = refl

  broken_first : (r : Result Tag TagCause) (cause : TagCause) (f : Group → Result OpenModule TagCause) (g : Group → Found)
      → ((r >>= λ tag. Err cause >>= f) >>= λ m. Ok (kept_by m)) ≡ kept last (r >>= λ tag. Err cause >>= λ group. Ok (g group))
  broken_first (Ok tag) cause f g = refl
  broken_first (Err other) cause f g = refl

  with_is : (groups : List Group) (at : FoundGroup) → kept_with (kept_of last (found_by groups)) at ≡ kept last (with_group (found_by groups) at)
  unfolding begun more
  with_is [] (Whole character (Header size name)) = first (is_allowed_first (length modules) character (Some (tag_of_group (Header size name)))) size name
  with_is [] (Broken character tag cause) = broken_first (is_allowed_first (length modules) character tag) cause (first_of character) (added (found_by []))
  with_is (last_group ∷ before) (Whole character (Entry at)) = rest_is (is_allowed_after (module_of (last_group ∷ before)) character (Some (tag_of_group (Entry at)))) (last_group ∷ before) (Entry at) refl
  with_is (last_group ∷ before) (Whole character (Referred reference)) = rest_is (is_allowed_after (module_of (last_group ∷ before)) character (Some (tag_of_group (Referred reference)))) (last_group ∷ before) (Referred reference) refl
  with_is (last_group ∷ before) (Whole character (Defined definition)) = rest_is (is_allowed_after (module_of (last_group ∷ before)) character (Some (tag_of_group (Defined definition)))) (last_group ∷ before) (Defined definition) refl
  with_is (last_group ∷ before) (Whole character (Word word)) = rest_is (is_allowed_after (module_of (last_group ∷ before)) character (Some (tag_of_group (Word word)))) (last_group ∷ before) (Word word) (word_grown (last_group ∷ before) word)
  with_is (last_group ∷ before) (Broken character tag cause) = broken (is_allowed_after (module_of (last_group ∷ before)) character tag) cause (grown (open_of (last_group ∷ before))) (added (found_by (last_group ∷ before)))
  with_is _ _ = refl

-- ---- the groups of a line, and lines

groups_are : (groups : List FoundGroup) (last : ℕ) (found : Found) → kept_groups (kept_of last found) groups ≡ kept last (with_groups found groups)
unfolding kept_groups
groups_are [] last found = refl
groups_are (group ∷ groups) last found =
    ap (λ (r : Result Kept TagCause). r >>= λ k. kept_groups k groups) (with_is found.modules last found.current group) ∙ by (groups_are groups last) (with_group found group)
  where
    by : ((found : Found) → kept_groups (kept_of last found) groups ≡ kept last (with_groups found groups))
        → (r : Result Found TagCause) → (kept last r >>= λ k. kept_groups k groups) ≡ kept last (r >>= λ found. with_groups found groups)
    by go (Ok found) = go found
    by go (Err cause) = refl

abbrev end_of : ℕ → Found → Result (List Module) (Refusal TagCause)
end_of last found = ended last found.modules found.current

ended_is : (last : ℕ) (modules : List Module) (groups : List Group) → finished (kept_of last (record { modules = modules; current = groups })) (current_of groups) ≡ ended last modules groups
ended_is last modules [] = refl
ended_is last modules (group ∷ groups) = refl

lines_are : (form : TextForm) (lines : List NumberedLine) (last : ℕ) (found : Found) → kept_lines form (kept_of last found) lines ≡ (with_lines form found lines >>= λ found. end_of (last_number last lines) found)
unfolding kept_lines kept_line
lines_are form [] last found = ended_is last found.modules found.current
lines_are form (line ∷ lines) last found = by (lines_are form lines) (all_blank line.text) refl
  where
    Goes : Type 0
    Goes = (last : ℕ) (found : Found) → kept_lines form (kept_of last found) lines ≡ (with_lines form found lines >>= λ found. end_of (last_number last lines) found)

    through : Goes → (r : Result Found TagCause) → (at_line line.number (kept line.number r) >>= λ k. kept_lines form k lines) ≡ ((at_line line.number r >>= λ found. with_lines form found lines) >>= λ found. end_of (last_number line.number lines) found)
    through go (Ok found) = go line.number found
    through go (Err cause) = refl

    by : Goes → (b : Bool) → all_blank line.text ≡ b
        → kept_lines form (kept_of last found) (line ∷ lines) ≡ (with_lines form found (line ∷ lines) >>= λ found. end_of (last_number last (line ∷ lines)) found)
    by go true e = rw e (go last found)
    by go false e =
        let groups : List FoundGroup = groups_from (length line.text) form line.text 0 in
        rw (e, ← all_places form line.text)
        (ap (λ (r : Result Kept TagCause). at_line line.number r >>= λ k. kept_lines form k lines) (groups_are groups line.number found)
        ∙ through go (with_groups found groups))

-- what is read is what is kept in the end
pub read_is : (text : List ℕ) → read text ≡ kept_lines (form_of text) nothing_kept (text_lines text)
unfolding read
read_is text = sym (lines_are (form_of text) (text_lines text) 0 nothing_found)
