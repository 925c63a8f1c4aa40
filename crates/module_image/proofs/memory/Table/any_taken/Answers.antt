use Rattle.std.proofs.Common.{sym, ◌∙◌, arith}
use Rattle.module_image.specs.Tables.{is_taken}
use Rattle.module_image.proofs.TableLaws.{any_later}
use Rattle.module_image.proofs.memory.Table.any_taken.Goals as goal

pub loop-place-preserved : goal.loop-place-preserved
loop-place-preserved c =
    sym (any_later (is_taken c.args.self.now.cells.items) c.loop-place.place _ _ (omega arith) (sym c.is_taken.ensures ∙ c.if-is_taken.false))
    ∙ c.loop-place.invariant
