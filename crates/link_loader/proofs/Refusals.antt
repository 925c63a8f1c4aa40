-- A cause that comes first.
use Rattle.std.proofs.Common.{◌≡◌, refl, Result}
use Rattle.source_defs.specs.Refusals.{◌>>=◌}
use Rattle.link_defs.specs.Causes.{LinkCause}
use Rattle.link_loader.specs.declared.error.LinkError.{LinkError}
use Rattle.link_loader.specs.declared.error.LinkError.TheVariants.{Memory}
use Rattle.link_loader.specs.Answers.{Refuses}

-- what follows a refusal changes nothing
pub refuses_first : {A B : Type 0} (error : LinkError) (first : Result A LinkCause) (next : A → Result B LinkCause) → Refuses error first → Refuses error (first >>= next)
refuses_first Memory first next e = tt
refuses_first _ first next e = rw e refl

-- nor does what was found before it
pub refuses_same : {B : Type 0} (error : LinkError) (whole part : Result B LinkCause) → whole ≡ part → Refuses error part → Refuses error whole
refuses_same error whole part same e = rw same e
