-- Lines that are replayed one after the other.
use Rattle.std.proofs.Common.{◌≡◌, List, [], ◌∷◌, ◌++◌, Ok, Err, refl}
use Rattle.std.specs.Prelude.{Result}
use Rattle.source_defs.specs.Refusals.{Refusal, ◌>>=◌}
use Rattle.expression_defs.specs.Symbols.{Names}
use Rattle.gpl_source_defs.specs.declared.causes.GplCause.{GplCause}
use Rattle.gpl_asm.specs.declared.pending.Pending.{Pending}
use Rattle.gpl_asm.specs.Replay.{Built, step, replay}

then_more : (later : Names) (next : Result Built (Refusal GplCause)) (others : List Pending) (waiting : Pending)
    → ((built : Built) → replay later built (others ++ waiting ∷ []) ≡ (replay later built others >>= λ last. step later last waiting))
    → (next >>= λ built. replay later built (others ++ waiting ∷ [])) ≡ ((next >>= λ built. replay later built others) >>= λ last. step later last waiting)
then_more later (Ok built) others waiting more = more built
then_more later (Err refusal) others waiting more = refl

last_step : (answer : Result Built (Refusal GplCause)) → (answer >>= λ built. Ok built) ≡ answer
last_step (Ok built) = refl
last_step (Err refusal) = refl

pub replay_more : (later : Names) (built : Built) (before : List Pending) (waiting : Pending)
    → replay later built (before ++ waiting ∷ []) ≡ (replay later built before >>= λ last. step later last waiting)
replay_more later built [] waiting = last_step (step later built waiting)
replay_more later built (first ∷ others) waiting = then_more later (step later built first) others waiting (λ next. replay_more later next others waiting)
