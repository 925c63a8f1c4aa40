use Rattle.std.proofs.Common.{◌≡◌, [], ap, ◌∙◌}
use Rattle.std.specs.Prelude.{map}
use Rattle.asm_list_defs.specs.Listed.{shown, defined}
use Rattle.bench_shelf.specs.Kept.{model_of_kept, shown_of, names_of}
use Rattle.bench_shelf.proofs.copying.Copying.keeping.Goals as goal

pub returns-clause-none : goal.returns-clause-none
returns-clause-none c =
    let holds = c.new-copying.ensures.none in
    let none : [] ≡ holds.taken.lines = cc holds.taken.line_layout in
    record {
      taken = holds.taken;
      places = holds.places;
      kept = record {
        are = ap (map model_of_kept) c.new.ensures.items;
        shown = λ known. ap (map (shown_of known)) c.new.ensures.items ∙ ap (shown known) none;
        names = ap (map names_of) c.new.ensures.items ∙ ap defined none;
      };
    }
