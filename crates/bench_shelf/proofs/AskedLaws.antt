-- That there are contents to whatever was heard.
use Rattle.std.proofs.Common.{◌≡◌, ℕ, zero, suc, ◌+◌, ◌<◌, List, [], ◌∷◌, Some, None, length, replicate, refl, sym, ap, ◌∙◌, subst, arith}
use Rattle.std.specs.Prelude.{Option}
use Rattle.std.proofs.lemmas.List.{length-replicate}
use Rattle.shelf_defs.specs.Files.{Contents}
use Rattle.shelf_defs.specs.Questions.{FileAnswer, Bytes, NoFile, OverLimit, Unanswered, Question, Agrees, Fits}

-- more bytes than a number
more_than : (n : ℕ) → (bytes : List ℕ) × (n < length bytes)
more_than n = (replicate (n + 1) 0, omega (arith, length-replicate {A = ℕ} (n + 1) 0))

-- there are contents that have the answers of any questions
module _ (limit : ℕ) where
  content_of : (answer : FileAnswer) → (content : Option (List ℕ)) × Fits limit answer content
  content_of (Bytes bytes) = (Some bytes, refl)
  content_of NoFile = (None, refl)
  content_of OverLimit = let long = more_than limit in (Some long.0, (long.0, refl, long.1))
  content_of Unanswered = (None, tt)

  abbrev nth : List Question → ℕ → Option (List ℕ)
  nth [] n = None
  nth (x ∷ xs) zero = (content_of x.answer).0
  nth (x ∷ xs) (suc n) = nth xs n

  nth_agree : (all : ℕ → Option (List ℕ)) (number : ℕ) (xs : List Question) → ((n : ℕ) → all (number + n) ≡ nth xs n)
      → Agrees limit (λ number name. all number) number xs
  nth_agree all number [] same = tt
  nth_agree all number (x ∷ xs) same = (
    subst (Fits limit x.answer) (sym (ap all (omega arith) ∙ same 0)) (content_of x.answer).1,
    nth_agree all (number + 1) xs (λ n. ap all (omega arith) ∙ same (suc n)),
  )

  pub some_contents : (questions : List Question) → (contents : Contents) × Agrees limit contents 0 questions
  some_contents questions =
      (λ number name. nth questions number, nth_agree (nth questions) 0 questions (λ n. ap (nth questions) (omega arith)))
