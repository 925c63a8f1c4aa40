use Rattle.std.proofs.Common.{length, ap, ◌∙◌, arith}
use Rattle.std.specs.Prelude.{map}
use Rattle.object_tags.specs.Seen.{model_of_ref}
use Rattle.asm_checks.specs.Outcomes.{model_of_outcome}
use Rattle.module_image.proofs.HoldingLaws.{contents_length}
use Rattle.asm_core.proofs.OutputLaws.{dummy_filled, bytes_filled}
use Rattle.asm_core.proofs.second_pass.Output.fill_bytes.Goals as goal

pub returns-then-is_dummy-clause-filled : goal.returns-then-is_dummy-clause-filled
returns-then-is_dummy-clause-filled c = λ unused.
    dummy_filled unused c.args.at (model_of_outcome c.args.outcome.now) c.requires c.args.self.now c.if-is_dummy.ensures

pub fill_reserved-requires : goal.fill_reserved-requires
fill_reserved-requires c =
    omega (
      arith,
      c.requires,
      ap length (c.as_slice.ensures.value ∙ c.in_ok-contents.ensures.contents),
      contents_length c.args.at (map model_of_ref c.args.self.now.references.items) (model_of_outcome c.args.outcome.now),
    )

pub returns-clause-filled : goal.returns-clause-filled
returns-clause-filled c = λ unused.
    bytes_filled unused c.args.at (model_of_outcome c.args.outcome.now) c.requires c.args.self.now _ c.as_slice.result.now
    (c.as_slice.ensures.value ∙ c.in_ok-contents.ensures.contents) c.in_ok-contents.ensures.uses c.fill_reserved.ensures
