-- A refused line stays the first, whatever lines come after it.
use Rattle.std.proofs.Common.{◌≡◌, ℕ, ◌+◌, ◌<◌, ◌≤◌, Bool, true, false, List, [], ◌∷◌, ◌++◌, Ok, Err, length, ap, arith}
use Rattle.std.specs.Prelude.{Result, if◌then◌else◌}
use Rattle.source_defs.specs.Refusals.{Refusal, ◌>>=◌, at_line}
use Rattle.source_defs.specs.Lines.{numbered}
use Rattle.expression_defs.specs.Layout.{layout_after}
use Rattle.asm_defs.specs.declared.causes.AsmCause.{AsmCause}
use Rattle.asm_defs.specs.Locations.{Line}
use Rattle.asm_defs.specs.FirstChecks.{check}

abbrev pub Answer : Type 0
Answer = Result (List Line) (Refusal AsmCause)

-- the refused line is among the lines from a number on, and more lines change nothing
pub record Stays (number count : ℕ) (refusal : Refusal AsmCause) (longer : Answer) : Type 0 where
  pub from : number ≤ refusal.line
  pub below : refusal.line < number + count
  pub same : longer ≡ Err refusal

abbrev after_line : List Line → List (ℕ × List ℕ) → Line → Answer
after_line before rest found = if found.last then Ok (found ∷ before) else layout_after check (found ∷ before) rest

abbrev answers : Answer → Answer → Type 0
answers a b = a ≡ b

module _ (more : List (List ℕ)) where
  by_last : (b : Bool) (before : List Line) (rest longer : List (ℕ × List ℕ)) (number count : ℕ) (refusal : Refusal AsmCause) (found : Line)
      → answers (if b then Ok (found ∷ before) else layout_after check (found ∷ before) rest) (Err refusal)
      → (layout_after check (found ∷ before) rest ≡ Err refusal → Stays (number + 1) count refusal (layout_after check (found ∷ before) longer))
      → Stays number (count + 1) refusal (if b then Ok (found ∷ before) else layout_after check (found ∷ before) longer)
  by_last true before rest longer number count refusal found e next = cc e
  by_last false before rest longer number count refusal found e next =
      let stays = next e in
      record { from = omega (arith, stays.from); below = omega (arith, stays.below); same = stays.same }

  by_answer : (answer : Result Line AsmCause) (before : List Line) (rest longer : List (ℕ × List ℕ)) (number count : ℕ) (refusal : Refusal AsmCause)
      → answers (at_line number answer >>= after_line before rest) (Err refusal)
      → ((found : Line) → layout_after check (found ∷ before) rest ≡ Err refusal → Stays (number + 1) count refusal (layout_after check (found ∷ before) longer))
      → Stays number (count + 1) refusal (at_line number answer >>= after_line before longer)
  by_answer (Ok found) before rest longer number count refusal e next = by_last found.last before rest longer number count refusal found e (next found)
  by_answer (Err cause) before rest longer number count refusal e next =
      let same : record { line = number; cause = cause } ≡ refusal = cc e in
      let line : number ≡ refusal.line = ap (λ (r : Refusal AsmCause). r.line) same in
      record { from = omega (arith, line); below = omega (arith, line); same = e }

  pub layout_longer : (texts : List (List ℕ)) (before : List Line) (number : ℕ) (refusal : Refusal AsmCause)
      → layout_after check before (numbered number texts) ≡ Err refusal
      → Stays number (length texts) refusal (layout_after check before (numbered number (texts ++ more)))
  layout_longer [] before number refusal e = cc e
  layout_longer (text ∷ texts) before number refusal e =
      let stays = by_answer (check before number text) before (numbered (number + 1) texts) (numbered (number + 1) (texts ++ more)) number (length texts) refusal e
      (λ found f. layout_longer texts (found ∷ before) (number + 1) refusal f) in
      record { from = stays.from; below = omega (arith, stays.below); same = stays.same }
