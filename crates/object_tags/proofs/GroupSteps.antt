-- The groups of a line, one by one.
use Rattle.std.proofs.Common.{◌≡◌, ℕ, ◌+◌, ◌-◌, ◌%◌, ◌<◌, ◌≤◌, get_or, cond, List, [], ◌∷◌, ◌++◌, length, take, drop, sum, refl, sym, ap, ◌∙◌}
use Rattle.std.proofs.Common.{append_assoc, length-append, length-drop, take-append-drop, Result, Ok, arith}
use Rattle.std.proofs.lemmas.List.{take_at, drop_at, length-take-le, take_more, drop_more, nil_from_length}
use Rattle.std.proofs.lemmas.List.Sums.{sum_by-append}
use Rattle.object_defs.specs.declared.form.TextForm.{TextForm}
use Rattle.object_defs.specs.declared.causes.TagCause.{TagCause}
use Rattle.object_defs.specs.Digits.{complement, checksum}
use Rattle.object_defs.specs.Groups.{FoundGroup, tag_at, found_with, ends_line, size_found}
use Rattle.object_laws.proofs.Places.{passed_over}
use Rattle.object_laws.specs.Running.{Kept, kept_with, kept_groups, groups_after}
use Rattle.object_tags.specs.declared.error.Failure.{Failure}
use Rattle.object_tags.specs.declared.error.Failure.TheVariants as failures
use Rattle.object_tags.specs.Answers.{Fails}

sum-append : (a b : List ℕ) → sum (a ++ b) ≡ sum a + sum b
sum-append a b = sum_by-append (λ (x : ℕ). x) a b

-- a line up to a place, some characters after it, and the rest
module _ (line : List ℕ) (at left : ℕ) (inside : at ≤ length line) where
  abbrev passed : List ℕ
  passed = take left (drop at line)

  abbrev rest : List ℕ
  rest = drop left (drop at line)

  parts : line ≡ (take at line ++ passed) ++ rest
  parts =
      sym (take-append-drop at line) ∙ (ap (λ (xs : List ℕ). take at line ++ xs) (sym (take-append-drop left (drop at line)))
      ∙ sym (append_assoc (take at line) passed rest))

  size : length (take at line ++ passed) ≡ at + length passed
  size = length-append (take at line) passed ∙ ap (λ (n : ℕ). n + length passed) (length-take-le at line inside)

  pub front_is : take (at + length passed) line ≡ take at line ++ passed
  front_is = ap (take (at + length passed)) parts ∙ take_at (take at line ++ passed) rest (at + length passed) size

  rest_is : drop (at + length passed) line ≡ rest
  rest_is = ap (drop (at + length passed)) parts ∙ drop_at (take at line ++ passed) rest (at + length passed) size

  pub passed_within : at + length passed ≤ length line
  passed_within = omega (arith, size, ap length parts, length-append (take at line ++ passed) rest)

  -- the groups after the characters
  pub groups_further : (form : TextForm) → groups_after form (take (at + length passed) line) 0 (drop (at + length passed) line)
      ≡ groups_after form (take at line) left (drop at line)
  groups_further form = rw (front_is, rest_is) (sym (passed_over form (take at line) left (drop at line)))

  -- the sum of the line through them
  pub sum_after : (total : ℕ) → total ≡ sum (take at line) % 65536 → (total + sum passed % 65536) % 65536 ≡ sum (take (at + length passed) line) % 65536
  sum_after total is = rw front_is (omega (arith, is, sum-append (take at line) passed))

-- the next character of a line
module _ (line : List ℕ) (at : ℕ) (inside : at < length line) where
  abbrev byte : ℕ
  byte = get_or line at 0

  abbrev before : List ℕ
  before = take at line

  one : take (at + 1) line ≡ before ++ byte ∷ []
  one = take_more line at 0 inside

  cut : drop at line ≡ byte ∷ drop (at + 1) line
  cut = drop_more line at 0 inside

  pub next_sum : (total : ℕ) → total ≡ sum before % 65536 → (total + byte) % 65536 ≡ sum (take (at + 1) line) % 65536
  next_sum total is = rw one (omega (arith, is, sum-append before (byte ∷ [])))

  pub next_checksum : (total : ℕ) → total ≡ sum before % 65536 → complement ((total + byte) % 65536) ≡ checksum (before ++ byte ∷ [])
  unfolding checksum
  next_checksum total is =
      let added : ((total + byte) % 65536) % 65536 ≡ sum (before ++ byte ∷ []) % 65536 = omega (arith, is, sum-append before (byte ∷ [])) in
      ap (λ (n : ℕ). (65536 - n) % 65536) added

  -- what is in the place of a group, and the groups after it
  pub first_group : (form : TextForm) (found : FoundGroup) → found ≡ found_with form (checksum (before ++ byte ∷ [])) byte (tag_at form at byte)
      (drop (at + 1) line)
      → groups_after form before 0 (drop at line) ≡ found ∷ cond (ends_line found) []
      (groups_after form (take (at + 1) line) (size_found form found) (drop (at + 1) line))
  unfolding groups_after
  first_group form found is =
      let place : length before ≡ at = length-take-le at line (omega (arith, inside)) in
      rw (cut, place, ← is, one) refl

-- no group is left
pub no_groups : (form : TextForm) (line : List ℕ) (at : ℕ) → at ≡ length line → groups_after form (take at line) 0 (drop at line) ≡ []
unfolding groups_after
no_groups form line at e = let none : drop at line ≡ [] = nil_from_length (drop at line) (omega (arith, length-drop at line)) in rw none refl

pub none_left : (form : TextForm) → groups_after form [] 0 [] ≡ []
unfolding groups_after
none_left form = refl

-- the groups that are left of a line, and what they lead to
module _ (total : Result Kept TagCause) (kept : Kept) (group : FoundGroup) (groups : List FoundGroup) (so_far : total ≡ kept_groups kept (group ∷ groups)) where
  -- a group that is added
  pub group_added : (after : Kept) → kept_with kept group ≡ Ok after → total ≡ kept_groups after groups
  unfolding kept_groups
  group_added after e = so_far ∙ rw e refl

  -- a group that is not
  pub group_fails : (failure : Failure) → Fails failure (kept_with kept group) → Fails failure total
  unfolding kept_groups
  group_fails failures.Memory e = tt
  group_fails (failures.Cause cause) e = so_far ∙ rw e refl

pub all_added : (kept : Kept) → kept_groups kept [] ≡ Ok kept
unfolding kept_groups
all_added kept = refl
