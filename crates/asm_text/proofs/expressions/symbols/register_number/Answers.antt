use Rattle.std.proofs.Common.{◌≡◌, ◌<◌, sym, ap, ◌∙◌, arith}
use Rattle.expression_defs.proofs.SymbolLaws.{found, registers_all, register_here, register_later}
use Rattle.asm_text.proofs.Names.{no_register}
use Rattle.asm_text.proofs.expressions.symbols.register_number.Goals as goal

pub loop-number-init : goal.loop-number-init
loop-number-init c = ap (found c.args.name.now) registers_all

pub loop-number-preserved : goal.loop-number-preserved
loop-number-preserved c =
    let below : c.loop-number.number < 16 = omega arith in
    sym (register_later c.args.name.now c.loop-number.number below (sym c.is_register.ensures ∙ c.if-is_register.false))
    ∙ c.loop-number.invariant

pub returns-then-is_register : goal.returns-then-is_register
returns-then-is_register c =
    let below : c.loop-number.number < 16 = omega arith in
    sym (register_here c.args.name.now c.loop-number.number below (sym c.is_register.ensures ∙ c.if-is_register.true))
    ∙ c.loop-number.invariant

pub returns : goal.returns
returns c =
    let last : c.loop-number.number ≡ 16 = omega arith in
    rw last at c.loop-number.invariant

pub returns-then-not-begins_as_register : goal.returns-then-not-begins_as_register
returns-then-not-begins_as_register c =
    sym (no_register c.args.name.now (sym c.begins_as_register.ensures ∙ c.if-not-begins_as_register.true))
