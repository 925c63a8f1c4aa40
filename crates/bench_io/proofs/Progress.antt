-- Lines that are written one by one.
use Rattle.std.proofs.Common.{◌≡◌, ℕ, List, [], ◌∷◌, ◌++◌, sym, ap, ◌∙◌, subst, append_assoc, append-nil}
use Rattle.bench_io.specs.Stream.{SinkState}
use Rattle.bench_io.specs.Written.{Wrote, Missed}
use Rattle.bench_io.proofs.Writes.{wrote_more, missed_more, missed_early}

-- some of all lines were written, and these are left
pub record Listed (before now : SinkState) (all left : List (List ℕ)) : Type 0 where
  pub front : List (List ℕ)
  pub wrote : Wrote before now front
  pub is : all ≡ front ++ left

pub listed_more : (a b c : SinkState) (all left : List (List ℕ)) (line : List ℕ) → Listed a b all (line ∷ left) → Wrote b c (line ∷ []) → Listed a c all left
listed_more a b c all left line so_far wrote = record {
  front = so_far.front ++ line ∷ [];
  wrote = wrote_more a b c so_far.front (line ∷ []) so_far.wrote wrote;
  is = so_far.is ∙ sym (append_assoc so_far.front (line ∷ []) left);
}

pub listed_missed : (a b c : SinkState) (all left : List (List ℕ)) (line : List ℕ) → Listed a b all (line ∷ left) → Missed b c (line ∷ []) → Missed a c all
listed_missed a b c all left line so_far missed =
    let M : List (List ℕ) → Type 0 = λ lines. Missed a c lines in
    subst M (append_assoc so_far.front (line ∷ []) left ∙ sym so_far.is) (missed_early a c (so_far.front ++ line ∷ []) left (missed_more a b c so_far.front (line ∷ []) so_far.wrote missed))

pub listed_same : (a b : SinkState) (all left others : List (List ℕ)) → left ≡ others → Listed a b all left → Listed a b all others
listed_same a b all left others same so_far = record { front = so_far.front; wrote = so_far.wrote; is = so_far.is ∙ ap (λ lines. so_far.front ++ lines) same }

pub listed_all : (a b : SinkState) (all : List (List ℕ)) → Listed a b all [] → Wrote a b all
listed_all a b all so_far =
    let W : List (List ℕ) → Type 0 = λ lines. Wrote a b lines in
    subst W (sym (append-nil so_far.front) ∙ sym so_far.is) so_far.wrote

-- several lines more
pub listed_append : (a b c : SinkState) (all left : List (List ℕ)) (lines : List (List ℕ)) → Listed a b all (lines ++ left) →
    Wrote b c lines → Listed a c all left
listed_append a b c all left lines so_far wrote = record {
  front = so_far.front ++ lines;
  wrote = wrote_more a b c so_far.front lines so_far.wrote wrote;
  is = so_far.is ∙ sym (append_assoc so_far.front lines left);
}

pub listed_missed_in : (a b c : SinkState) (all left : List (List ℕ)) (lines : List (List ℕ)) →
    Listed a b all (lines ++ left) → Missed b c lines → Missed a c all
listed_missed_in a b c all left lines so_far missed =
    let M : List (List ℕ) → Type 0 = λ lines. Missed a c lines in
    subst M (append_assoc so_far.front lines left ∙ sym so_far.is)
    (missed_early a c (so_far.front ++ lines) left (missed_more a b c so_far.front lines so_far.wrote missed))
