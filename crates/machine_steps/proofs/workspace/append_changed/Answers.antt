use Rattle.std.proofs.Common.{◌≡◌, ◌++◌, sym, ap, ◌∙◌, append_assoc, append-nil, arith}
use Rattle.std.specs.List.{flat_map, range_with_len}
use Rattle.std.proofs.lemmas.Grind.{flat_map-append}
use Rattle.report_defs.proofs.Ranges.{more}
use Rattle.machine_change_defs.specs.Changes.{register_change}
use Rattle.machine_change_defs.specs.Text.{register_text}
use Rattle.machine_steps.proofs.workspace.append_changed.Goals as goal

pub loop-number-init : goal.loop-number-init
loop-number-init c = record { text = sym (append-nil c.args.line.now); size = omega arith }

pub loop-number-preserved : goal.loop-number-preserved
loop-number-preserved c =
    let f = register_change c.args.before.now c.args.now.now in
    let n = c.loop-number.number in
    let so = flat_map f (range_with_len 0 n) in
    record {
      text = c.append_register.ensures.text
          ∙ ap (λ t. t ++ flat_map register_text (f n)) c.loop-number.invariant.text
          ∙ append_assoc c.args.line.now (flat_map register_text so) (flat_map register_text (f n))
          ∙ ap (λ t. c.args.line.now ++ t)
          (sym (flat_map-append register_text so (f n)) ∙ ap (flat_map register_text) (sym (more f n)));
      size = omega (arith, c.append_register.ensures.size, c.loop-number.invariant.size);
    }

pub append_register-requires-clause-room : goal.append_register-requires-clause-room
append_register-requires-clause-room c =
    omega (arith, c.requires.room, c.loop-number.invariant.size, c.loop-number-test.true)

pub returns-clause-text : goal.returns-clause-text
returns-clause-text c =
    let all : c.loop-number.number ≡ 16 = omega (arith, c.loop-number-test.false, c.loop-number.auto.number-end) in
    rw all at c.loop-number.invariant.text

pub returns-clause-size : goal.returns-clause-size
returns-clause-size c =
    let all : c.loop-number.number ≡ 16 = omega (arith, c.loop-number-test.false, c.loop-number.auto.number-end) in
    omega (arith, all, c.loop-number.invariant.size)
