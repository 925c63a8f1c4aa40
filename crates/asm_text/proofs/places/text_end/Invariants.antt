use Rattle.std.proofs.Common.{◌≡◌}
use Rattle.source_defs.specs.Least.{least_place}
use Rattle.source_defs.specs.Fields.{in_quotes}
use Rattle.expression_defs.specs.Tokens.{ends_text, text_end}
use Rattle.asm_text.proofs.places.text_end.Given as goal

-- whether a quote is open, and no end is before
abbrev pub invariant-loop-at : goal.invariant-loop-at
invariant-loop-at l = record {
  quoted : l.quoted ≡ in_quotes l.text l.start l.at;
  none_before : least_place (ends_text l.text l.start) l.text l.at ≡ text_end l.text l.start;
}
