use Rattle.std.proofs.Common.{◌≡◌, false}
use Rattle.source_defs.specs.Least.{least_place}
use Rattle.source_defs.specs.Fields.{ends_field, in_quotes, operand_end}
use Rattle.asm_text.proofs.places.operand_end.Given as goal

-- no quote is open, and no end is before
abbrev pub invariant-loop-at : goal.invariant-loop-at
invariant-loop-at l = record {
  apart : in_quotes l.line l.start l.at ≡ false;
  none_before : least_place (ends_field l.line l.start) l.line l.at ≡ operand_end l.line l.start;
}
