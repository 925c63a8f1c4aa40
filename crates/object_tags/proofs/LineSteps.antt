-- The lines of a text, one by one.
use Rattle.std.proofs.Common.{◌≡◌, ℕ, suc, ◌+◌, ◌-◌, ◌<◌, arith, List, [], ◌∷◌, Result, Ok, refl, ◌∙◌}
use Rattle.std.specs.List.{range_with_len}
use Rattle.object_defs.specs.Modules as defined
use Rattle.source_defs.specs.Refusals.{Refusal}
use Rattle.object_defs.specs.declared.form.TextForm.{TextForm}
use Rattle.object_defs.specs.declared.causes.TagCause.{TagCause}
use Rattle.object_defs.specs.Reading.{NumberedLine}
use Rattle.object_laws.specs.Running.{Kept, kept_line, kept_lines, finished}
use Rattle.object_tags.specs.declared.error.TagError.{TagError}
use Rattle.object_tags.specs.declared.error.TagError.TheVariants.{At, Memory}
use Rattle.object_tags.specs.Answers.{Refuses}

module _ (form : TextForm) (total : Result (List defined.Module) (Refusal TagCause)) (kept : Kept) (line : NumberedLine) (lines : List NumberedLine)
    (so_far : total ≡ kept_lines form kept (line ∷ lines)) where
  -- a line that is read
  pub line_read : (after : Kept) → kept_line form kept line ≡ Ok after → total ≡ kept_lines form after lines
  unfolding kept_lines
  line_read after e = so_far ∙ rw e refl

  -- a line that is not
  pub line_refused : (error : TagError) → Refuses error (kept_line form kept line) → Refuses error total
  unfolding kept_lines
  line_refused (At number cause) e = so_far ∙ rw e refl
  line_refused Memory e = tt

-- no lines are left
pub lines_end : (form : TextForm) (kept : Kept) → kept_lines form kept [] ≡ finished kept kept.current
unfolding kept_lines
lines_end form kept = refl

-- a refusal of the same text
pub refuses_same : (error : TagError) (a b : Result (List defined.Module) (Refusal TagCause)) → a ≡ b → Refuses error b → Refuses error a
refuses_same (At number cause) a b same e = same ∙ e
refuses_same Memory a b same e = tt

-- the first of some numbers in order
pub first_number : (from end : ℕ) → from < end → range_with_len from (end - from) ≡ from ∷ range_with_len (from + 1) (end - (from + 1))
first_number from end lt =
    let e : end - from ≡ suc (end - (from + 1)) = omega arith in rw e refl
