use Rattle.std.proofs.Common.{◌≡◌, ◌∷◌, ◌++◌, [], true, not, sym, ap, ◌∙◌}
use Rattle.std.specs.Prelude.{map}
use Rattle.std.specs.Result.{is_ok}
use Rattle.source_defs.specs.Lines.{part}
use Rattle.source_defs.specs.Operands.{OperandsLieInside}
use Rattle.expression_defs.specs.Symbols.{look_up}
use Rattle.asm_defs.specs.SecondChecks.{byte_values}
use Rattle.source_defs.specs.Refusals.{prepended}
use Rattle.asm_checks.proofs.Listed.{byte_more}
use Rattle.asm_checks.proofs.values.Scope.byte_values.Goals as goal

pub loop-span-preserved : goal.loop-span-preserved
loop-span-preserved c =
    let i = c.loop-span.invariant in
    let look = look_up c.args.self.now.symbols.now in
    let at = c.args.self.now.at in
    let field = c.args.field.now in
    let front = c.loop-span.numbers.items in
    let ok : is_ok c.push.result ≡ true = c.is_err.ensures.negation ∙ ap not c.if-is_err.false in
    let kept : c.push.new.self.items ≡ front ++ c.in_ok-number.number ∷ [] = rw ok at c.push.ensures.items in
    let inside : OperandsLieInside field (c.in-Some.span ∷ c.next.new.self) = rw c.in-Some.ensures.steps at i.inside in
    let more = byte_more look at front (part field c.in-Some.span) (map (part field) c.next.new.self) c.in_ok-number.number c.in_ok-number.ensures in
    record {
      inside = inside.1;
      so_far = rw kept (sym more ∙ (ap (λ spans. prepended front (byte_values look at (map (part field) spans))) (sym c.in-Some.ensures.steps) ∙ i.so_far));
    }
