-- Numbers of operands, one after the other.
use Rattle.std.proofs.Common.{◌≡◌, ℕ, List, [], ◌∷◌, ◌++◌, Ok, Err, refl}
use Rattle.std.specs.Prelude.{Option}
use Rattle.source_defs.specs.Refusals.{prepended}
use Rattle.expression_defs.specs.Expression.{Value}
use Rattle.source_defs.proofs.RefusalLaws.{after_more}
use Rattle.gpl_source_defs.specs.declared.causes.GplCause.{GplCause}
use Rattle.gpl_source_defs.specs.Values.{number, numbers}

module _ (look : List ℕ → Option Value) (here : ℕ) where
  pub number_more : (front : List ℕ) (text : List ℕ) (texts : List (List ℕ)) (found : ℕ) → number look here text ≡ Ok found
      → prepended front (numbers look here (text ∷ texts)) ≡ prepended (front ++ found ∷ []) (numbers look here texts)
  number_more front text texts found e = rw e (after_more front found (numbers look here texts))

  pub number_stops : (front : List ℕ) (text : List ℕ) (texts : List (List ℕ)) (cause : GplCause) → number look here text ≡ Err cause
      → prepended front (numbers look here (text ∷ texts)) ≡ Err cause
  number_stops front text texts cause e = rw e refl
