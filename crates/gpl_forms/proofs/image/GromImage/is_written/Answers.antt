use Rattle.std.proofs.Common.{◌≡◌, ℕ, ◌<◌, length, false, ◌∙◌, ap, arith}
use Rattle.std.proofs.lemmas.List.{get_or_default}
use Rattle.std.specs.FinMap.{contains_key}
use Rattle.gpl_defs.specs.Image.{Image}
use Rattle.gpl_forms.specs.Tables.{image_of}
use Rattle.gpl_forms.proofs.TableLaws.{mark-image_of}
use Rattle.gpl_forms.proofs.image.GromImage.is_written.Goals as goal

pub returns : goal.returns
returns c =
    let same : length c.self.inside.bytes.items ≡ length c.self.inside.marks.items = omega arith in
    let lt : c.from.result < length c.self.inside.marks.items = omega arith in
    let marked = mark-image_of c.self.inside.bytes.items c.self.inside.marks.items c.from.result same in
    let image : Image = image_of c.self.inside.bytes.items c.self.inside.marks.items in
    c.index.ensures ∙ get_or_default c.self.inside.marks.items c.from.result c.index.result.now false lt ∙ marked
    ∙ ap (λ (at : ℕ). contains_key image at) c.from.ensures ∙ ap (λ (m : Image). contains_key m c.args.at) c.self.view_is
