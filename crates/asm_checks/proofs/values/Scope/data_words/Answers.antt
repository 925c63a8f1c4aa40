use Rattle.std.proofs.Common.{◌≡◌, ◌∷◌, ◌++◌, [], true, not, length, sym, ap, ◌∙◌, arith}
use Rattle.std.specs.Prelude.{map}
use Rattle.std.specs.Result.{is_ok}
use Rattle.std.proofs.lemmas.List.{map-append}
use Rattle.source_defs.specs.Lines.{part}
use Rattle.source_defs.specs.Operands.{OperandsLieInside}
use Rattle.expression_defs.specs.Symbols.{look_up}
use Rattle.asm_forms.specs.Placed.{model_of_word, model_of_words}
use Rattle.asm_defs.specs.SecondChecks.{data_values}
use Rattle.source_defs.specs.Refusals.{prepended}
use Rattle.asm_checks.proofs.Listed.{data_more}
use Rattle.asm_checks.proofs.values.Scope.data_words.Goals as goal

pub loop-span-preserved : goal.loop-span-preserved
loop-span-preserved c =
    let i = c.loop-span.invariant in
    let look = look_up c.args.self.now.symbols.now in
    let at = c.args.self.now.at in
    let field = c.args.field.now in
    let front = model_of_words c.loop-span.words.items in
    let ok : is_ok c.push.result ≡ true = c.is_err.ensures.negation ∙ ap not c.if-is_err.false in
    let kept : c.push.new.self.items ≡ c.loop-span.words.items ++ c.in_ok-word.word ∷ [] = rw ok at c.push.ensures.items in
    let longer : model_of_words c.push.new.self.items ≡ front ++ model_of_word c.in_ok-word.word ∷ [] =
    ap model_of_words kept ∙ map-append model_of_word c.loop-span.words.items (c.in_ok-word.word ∷ []) in
    let inside : OperandsLieInside field (c.in-Some.span ∷ c.next.new.self) = rw c.in-Some.ensures.steps at i.inside in
    let more =
    data_more look at c.loop-span.place front (part field c.in-Some.span) (map (part field) c.next.new.self)
    (model_of_word c.in_ok-word.word) c.in_ok-word.ensures in
    record {
      inside = inside.1;
      room = omega (arith, ap length c.in-Some.ensures.steps, i.room, ap (λ place. place.number) c.after-place.ensures);
      so_far = rw (longer, c.after-place.ensures) (sym more
          ∙ (ap (λ spans. prepended front (data_values look at c.loop-span.place (map (part field) spans))) (sym c.in-Some.ensures.steps) ∙ i.so_far));
    }
