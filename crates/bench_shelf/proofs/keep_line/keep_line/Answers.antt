use Rattle.std.proofs.Common.{Some, Vec, Global, refl, sym, ap, subst}
use Rattle.std.specs.Prelude.{Option, List, ℕ}
use Rattle.bench_shelf.specs.CopyAnswers.{model_of_place, place_in}
use Rattle.bench_shelf.specs.Kept.{KeepsLine}
use Rattle.bench_shelf.specs.declared.kept_line.KeptLine.{KeptLine}
use Rattle.bench_shelf.proofs.keep_line.keep_line.Goals as goal

pub returns-in_ok-push-clause-kept : goal.returns-in_ok-push-clause-kept
returns-in_ok-push-clause-kept c =
    let place = place_in c.args.file.now c.args.line in
    subst (λ (old : Option (Vec KeptLine Global)). KeepsLine old place c.args.taken c.args.text.now (Some c.push.new.self)) (sym c.in-Some.is)
    (record {
      line = _;
      are = c.in_ok-push.ensures.items;
      is = ap (λ (text : List ℕ). record { place = model_of_place place; text = text }) c.in_ok-text.ensures.items;
      taken = refl;
    })
