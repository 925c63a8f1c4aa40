use Rattle.std.proofs.Common.{ap, ◌∙◌, arith}
use Rattle.tms_defs.specs.declared.flags.Flags.{Flags}
use Rattle.tms_defs.proofs.ShiftLaws.{shift_overflows-sign_changes}
use Rattle.tms_words.proofs.shift.shift16.Goals as goal

pub returns-in-SLA-clause-sign : goal.returns-in-SLA-clause-sign
returns-in-SLA-clause-sign c e =
    ap (λ (flags : Flags). flags.ov) c.shift_left.ensures.flags ∙ shift_overflows-sign_changes c.args.value c.args.count (omega arith)
