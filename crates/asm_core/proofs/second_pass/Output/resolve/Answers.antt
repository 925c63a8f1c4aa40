use Rattle.std.proofs.Common.{◌≡◌, Ok, ap, ◌∙◌, sym, arith}
use Rattle.expression_defs.specs.Symbols.{look_up}
use Rattle.source_defs.specs.Refusals.{◌>>=◌}
use Rattle.asm_defs.specs.Statements.{parse_line, statement_in, as_text}
use Rattle.asm_checks.specs.Defined.{model_of_statement}
use Rattle.asm_checks.specs.Outcomes.{model_of_outcome}
use Rattle.asm_core.proofs.AssembleLaws.{comes_within, fits_there}
use Rattle.asm_core.proofs.second_pass.Output.resolve.Goals as goal

pub fill-requires : goal.fill-requires
fill-requires c =
    let text = c.as_slice-text.result.now in
    let statement = c.in_ok-statement.statement in
    let pending = c.args.pending.now in
    let parsed : parse_line text ≡ Ok (model_of_statement statement) =
    ap (λ answer. as_text answer >>= statement_in text) (sym c.in-Ok.ensures.value) ∙ c.in_ok-statement.ensures.parsed in
    let whole : parse_line pending.text.items ≡ Ok (model_of_statement statement) = ap parse_line (sym c.as_slice-text.ensures.value) ∙ parsed in
    omega (
      arith,
      fits_there pending.at pending.text.items (model_of_statement statement) pending.room whole,
      comes_within (look_up c.args.symbols.now) pending.at statement
          (model_of_outcome c.in_ok-outcome.outcome) c.in_ok-statement.ensures.skeleton c.in_ok-outcome.ensures,
    )

pub returns : goal.returns
returns c = λ unused.
    let text = c.as_slice-text.result.now in
    let statement = c.in_ok-statement.statement in
    let pending = c.args.pending.now in
    let parsed : parse_line text ≡ Ok (model_of_statement statement) =
    ap (λ answer. as_text answer >>= statement_in text) (sym c.in-Ok.ensures.value) ∙ c.in_ok-statement.ensures.parsed in
    record {
      statement = model_of_statement statement;
      found = model_of_outcome c.in_ok-outcome.outcome;
      parsed = ap parse_line (sym c.as_slice-text.ensures.value) ∙ parsed;
      comes = c.in_ok-outcome.ensures;
      size = comes_within (look_up c.args.symbols.now) pending.at statement (model_of_outcome c.in_ok-outcome.outcome)
          c.in_ok-statement.ensures.skeleton c.in_ok-outcome.ensures;
      fills = c.in_ok-fill.ensures unused;
    }
