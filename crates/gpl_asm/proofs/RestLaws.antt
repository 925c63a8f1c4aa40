-- What is left of a line.
use Rattle.std.proofs.Common.{◌≡◌, ℕ, true, List, Ok, ap, ◌∙◌}
use Rattle.source_defs.specs.Refusals.{◌>>=◌}
use Rattle.expression_defs.specs.Symbols.{Names, look_up}
use Rattle.expression_defs.specs.Growing.{Grows, is_closed}
use Rattle.gpl_source_defs.specs.declared.location.Location.{Location}
use Rattle.gpl_source_defs.specs.Statements.{Statement}
use Rattle.gpl_source_defs.specs.FirstChecks.{parsed}
use Rattle.gpl_source_defs.specs.SecondChecks.{outcome}
use Rattle.gpl_source_defs.specs.Growing.{is_unresolved}
use Rattle.gpl_source_defs.proofs.GrowingLaws.{outcome_stays, parse_stays}

-- a line that is read again has the same statement and the same outcome
pub open_again : (known later : Names) (at : Location) (text : List ℕ) (statement : Statement) → Grows known later → parsed known at text ≡ Ok statement
    → (parsed later at text >>= λ statement. outcome (look_up later) at statement) ≡ outcome (look_up later) at statement
open_again known later at text statement grows e =
    let closed : is_closed is_unresolved (parsed known at text) ≡ true = ap (is_closed is_unresolved) e in
    let again : parsed later at text ≡ Ok statement = parse_stays known later grows at text closed ∙ e in
    ap (λ found. found >>= λ statement. outcome (look_up later) at statement) again

-- a line without open values has its own outcome
pub closed_again : (known later : Names) (at : Location) (statement : Statement) → Grows known later
    → is_closed is_unresolved (outcome (look_up known) at statement) ≡ true → outcome (look_up later) at statement ≡ outcome (look_up known) at statement
closed_again known later at statement grows closed = outcome_stays (look_up known) (look_up later) grows at statement closed
