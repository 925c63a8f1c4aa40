-- What a line of a listing says, and what the lines after it say.
use Rattle.std.proofs.Common.{◌≡◌, ℕ, zero, suc, ◌+◌, ◌-◌, ◌<◌, ◌≤◌, Bool, true, false, List, [], ◌∷◌, ◌++◌, refl, sym, ap, ◌∙◌, append_assoc, arith}
use Rattle.std.specs.Prelude.{nat_le, if◌then◌else◌}
use Rattle.std.proofs.lemmas.Bool.Decides.{nat_tests}
use Rattle.gpl_defs.specs.declared.instruction.GplInstr.{GplInstr}
use Rattle.gpl_defs.specs.declared.instruction.GplRead.{GplRead}
use Rattle.gpl_defs.specs.declared.instruction.GplRead.TheVariants.{Instr, Refused}
use Rattle.gpl_defs.specs.Reading.{reading}
use Rattle.gpl_listing_defs.specs.Listing.{instr_listed, byte_listed, is_whole, listed_by, listed_at, origin_texts_at, texts_from, texts_between}

-- a line stands for one byte at least
pub some_bytes : (image : List ℕ) (at end : ℕ) → 0 < (listed_at image at end).size
unfolding listed_at
some_bytes image at end = by (reading image at)
  where
    either : (whole : Bool) (found : GplInstr) → 0 < (if whole then instr_listed found at else byte_listed image at).size
    either true found = omega arith
    either false found = omega arith

    by : (read : GplRead) → 0 < (listed_by image at end read).size
    by (Instr found next) = either (is_whole image at end found) found
    by (Refused code) = omega arith

module _ (image : List ℕ) (low end : ℕ) where
  -- the lines from the end on
  pub no_texts : (most at : ℕ) → end ≤ at → texts_from image low end most at ≡ []
  no_texts zero at le = refl
  no_texts (suc most) at le = let past : nat_le end at ≡ true = grind (arith, nat_tests, le) in rw past refl

  -- the lines from an address on: that of the byte there, and of the bytes after it
  pub next_texts : (most at : ℕ) → at < end →
      texts_from image low end (suc most) at
      ≡ origin_texts_at low at ++ ((listed_at image at end).text ∷ texts_from image low end most (at + (listed_at image at end).size))
  next_texts most at before = let left : nat_le end at ≡ false = grind (arith, nat_tests, before) in rw left refl

  -- a greater number of lines at most makes no others
  enough : (most more at : ℕ) → end ≤ at + most → most ≤ more → texts_from image low end more at ≡ texts_from image low end most at
  enough zero more at size le = no_texts more at (omega (arith, size))
  enough (suc most) zero at size le = absurd (omega (arith, le))
  enough (suc most) (suc more) at size le =
      let some = some_bytes image at end in
      by (nat_le end at) (enough most more (at + (listed_at image at end).size) (omega (arith, size, some)) (omega (arith, le)))
    where
      rest : List (List ℕ) → List (List ℕ)
      rest lines = origin_texts_at low at ++ ((listed_at image at end).text ∷ lines)

      by : (past : Bool) {these those : List (List ℕ)} → these ≡ those → (if past then [] else rest these) ≡ (if past then [] else rest those)
      by true same = refl
      by false same = ap rest same

  -- the lines up to the end: those of the byte at an address, and those from the next line's address on
  pub texts_step : (at next : ℕ) → next ≡ at + (listed_at image at end).size → at < end →
      texts_between image low end at
      ≡ (origin_texts_at low at ++ ((listed_at image at end).text ∷ [])) ++ texts_between image low end next
  texts_step at next is before =
      let left : end - at ≡ suc (end - at - 1) = omega arith in
      let line = listed_at image at end in
      let some = some_bytes image at end in
      ap (λ most. texts_from image low end most at) left
      ∙ (next_texts (end - at - 1) at before
      ∙ (ap (λ lines. origin_texts_at low at ++ (line.text ∷ lines))
      (ap (texts_from image low end (end - at - 1)) (sym is)
      ∙ enough (end - next) (end - at - 1) next (omega arith) (omega (arith, is, some)))
      ∙ sym (append_assoc (origin_texts_at low at) (line.text ∷ []) (texts_between image low end next))))
