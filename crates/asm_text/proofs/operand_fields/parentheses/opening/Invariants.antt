use Rattle.std.proofs.Common.{◌≡◌}
use Rattle.source_defs.specs.Least.{least_place}
use Rattle.source_defs.specs.Fields.{in_quotes}
use Rattle.source_defs.specs.Parentheses.{opens_at, opening}
use Rattle.asm_text.proofs.operand_fields.parentheses.opening.Given as goal

-- whether a quote is open, and no parenthesis outside quotes is before
abbrev pub invariant-loop-at : goal.invariant-loop-at
invariant-loop-at l = record {
  quoted : l.quoted ≡ in_quotes l.text 0 l.at;
  none_before : least_place (opens_at l.text) l.text l.at ≡ opening l.text;
}
