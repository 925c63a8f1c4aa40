use Rattle.std.proofs.Common.{◌≡◌}
use Rattle.source_defs.specs.Fields.{in_quotes}
use Rattle.source_defs.proofs.OperandSteps.{comma_place}
use Rattle.asm_text.proofs.operand_fields.operand_iter.comma_place.Given as goal

-- whether a quote is open, and no comma outside quotes is before
abbrev pub invariant-loop-at : goal.invariant-loop-at
invariant-loop-at l = record {
  quoted : l.quoted ≡ in_quotes l.field 0 l.at;
  none_before : comma_place l.field l.at ≡ comma_place l.field l.from;
}
