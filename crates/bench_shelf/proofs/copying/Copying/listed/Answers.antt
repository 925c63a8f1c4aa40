use Rattle.std.proofs.Common.{ap, ◌∙◌, subst}
use Rattle.object_tags.specs.Seen.{model_of_module}
use Rattle.asm_defs.specs.Modules.{module_of_lines}
use Rattle.asm_core.specs.Finishing.{GivesModule}
use Rattle.shelf_defs.specs.Assembly.{texts}
use Rattle.bench_shelf.specs.Runs.{places_of}
use Rattle.bench_shelf.specs.Kept.{IsKept}
use Rattle.bench_shelf.proofs.ListedLaws.{all_assembled, refused_reported}
use Rattle.bench_shelf.proofs.copying.Copying.listed.Goals as goal

pub returns-in-Ok : goal.returns-in-Ok
returns-in-Ok c = record {
  finishes = λ done holds.
      let gives = c.finish_with_names-module.ensures.«module» (texts done) holds.taken in (
        subst (IsKept done holds.taken.lines) c.unwrap-lines.ensures holds.kept,
        (
          c.finish_with_names-module.ensures.names (texts done) holds.taken,
          all_assembled done c.args.self.builder holds.taken (model_of_module c.in-Ok.field-0)
              (subst (λ answer. GivesModule answer (module_of_lines (texts done))) c.in-Ok.is gives),
        ),
      );
}

pub returns-in-Ok-refused_line : goal.returns-in-Ok-refused_line
returns-in-Ok-refused_line c = record {
  finishes = λ done holds.
      let gives = c.finish_with_names-module.ensures.«module» (texts done) holds.taken in (
        subst (IsKept done holds.taken.lines) c.unwrap-lines.ensures holds.kept,
        (
          c.finish_with_names-module.ensures.names (texts done) holds.taken,
          refused_reported done c.args.self.builder holds.taken c.as_slice.result.now c.in-Err.error c.in-Ok-refused_line.field-0
              (ap places_of c.as_slice.ensures.value ∙ holds.places)
              (subst (λ answer. GivesModule answer (module_of_lines (texts done))) c.in-Err.is gives) c.in-Ok-refused_line.ensures,
        ),
      );
}
