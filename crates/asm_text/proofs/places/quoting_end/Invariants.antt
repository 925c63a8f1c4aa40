use Rattle.std.proofs.Common.{◌≡◌}
use Rattle.source_defs.specs.Least.{least_place}
use Rattle.source_defs.specs.Fields.{ends_field, in_quotes, operand_end}
use Rattle.asm_text.proofs.places.quoting_end.Given as goal

-- whether a quote is open, and no end is before
abbrev pub invariant-loop-at : goal.invariant-loop-at
invariant-loop-at l = record {
  quoted : l.quoted ≡ in_quotes l.line l.start l.at;
  none_before : least_place (ends_field l.line l.start) l.line l.at ≡ operand_end l.line l.start;
}
