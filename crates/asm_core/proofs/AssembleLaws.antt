-- What is known of a line has room in its part.
use Rattle.std.proofs.Common.{◌≡◌, ℕ, ◌+◌, ◌≤◌, true, List, [], Ok, length, sym, ap, ◌∙◌, arith}
use Rattle.std.specs.Prelude.{Option, nat_le}
use Rattle.std.proofs.lemmas.Bool.Decides.{nat_tests}
use Rattle.expression_defs.specs.Expression.{Value}
use Rattle.asm_defs.specs.declared.location.Location.{Location}
use Rattle.asm_defs.specs.Statements as parsed
use Rattle.asm_defs.specs.SecondChecks.{Outcome, outcome}
use Rattle.asm_defs.specs.declared.content.Content.{Content}
use Rattle.asm_defs.specs.Memory.{bytes_in, contents_by}
use Rattle.asm_defs.specs.Growing.{declared_size}
use Rattle.asm_defs.proofs.OutcomeSizes.{IsSized, outcome_size}
use Rattle.asm_checks.specs.Defined.{model_of_statement, KeepsSkeleton}
use Rattle.asm_checks.specs.declared.statement.Statement.{Statement}
use Rattle.asm_checks.specs.declared.statement.Statement.TheVariants.{Instruction}
use Rattle.source_defs.specs.Refusals.{◌>>=◌}
use Rattle.instruction_defs.specs.FirstChecks.{size_of}
use Rattle.module_image.proofs.HoldingLaws.{contents_length}
use Rattle.asm_core.specs.Held.{has_room, has_room_by}
use Rattle.asm_core.specs.Assembling.{GivesBytes}

-- an instruction has the size that the first checks find
pub sized : (statement : Statement) → KeepsSkeleton statement → IsSized (model_of_statement statement)
sized (Instruction line) is =
    ap (λ skeleton. skeleton >>= λ skeleton. Ok (size_of skeleton)) is.checked ∙ ap Ok is.sized
sized _ is = tt

pub comes_within : (look : List ℕ → Option Value) (at : Location) (statement : Statement) (found : Outcome) → KeepsSkeleton statement
    → outcome look at (model_of_statement statement) ≡ Ok found → bytes_in found ≡ declared_size (model_of_statement statement)
comes_within look at statement found is e = outcome_size look at (model_of_statement statement) found (sized statement is) e

pub gives : (at : Location) (found : Outcome) (given : List Content) → at.number + bytes_in found ≤ 65536 → given ≡ contents_by at [] found
    → GivesBytes at found given
gives at found given within is =
    let size : length given ≡ bytes_in found = ap length is ∙ contents_length at [] found in
    record { bytes = λ placed. is; within = omega (arith, within, size) }

pub fits_there : (at : Location) (text : List ℕ) (statement : parsed.Statement) → has_room at text ≡ true → parsed.parse_line text ≡ Ok statement
    → at.number + declared_size statement ≤ 65536
fits_there at text statement room parses =
    let le : nat_le (at.number + declared_size statement) 65536 ≡ true = sym (ap (has_room_by at) parses) ∙ room in
    grind (arith, nat_tests, le)
