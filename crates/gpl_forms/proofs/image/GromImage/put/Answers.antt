use Rattle.std.proofs.Common.{◌≡◌, ℕ, length, ◌<◌, ◌∙◌, ap, min, arith}
use Rattle.std.specs.Prelude.{if◌then◌else◌, ◌==◌}
use Rattle.std.proofs.lemmas.Bool.Decides.{nat_tests}
use Rattle.std.specs.FinMap.{insert}
use Rattle.gpl_defs.specs.Image.{Image}
use Rattle.gpl_forms.specs.Tables.{image_of}
use Rattle.gpl_forms.proofs.TableLaws.{image_of-set, IsImage-set}
use Rattle.gpl_forms.proofs.image.GromImage.put.Goals as goal
use Rattle.gpl_forms.proofs.image.GromImage.put.Goals.{then-self-eq0, else-self-eq0}

pub returns : goal.returns
returns c =
    let same : length c.self.inside.bytes.items ≡ length c.self.inside.marks.items = omega arith in
    let lt : c.from-place.result < length c.self.inside.bytes.items = omega arith in
    let wrote = image_of-set c.self.inside.bytes.items c.self.inside.marks.items c.from-place.result c.args.byte same lt in
    let image : Image = image_of c.self.inside.bytes.items c.self.inside.marks.items in
    wrote ∙ ap (λ (at : ℕ). insert image at c.args.byte) c.from-place.ensures ∙ ap (λ (m : Image). insert m c.args.at c.args.byte) c.self.view_is

pub invariant_of-self : goal.invariant_of-self
invariant_of-self c =
    let address : c.from-address.result ≡ c.from-place.result = omega arith in
    let low : c.if-self-eq0.self ≡ (if c.self.inside.high == 0 then c.from-place.result else min c.self.inside.low c.from-place.result) =
    elim c.if-self-eq0.branch [
      | then-self-eq0 w ↦ grind (arith, nat_tests)
      | else-self-eq0 w ↦ grind (arith, nat_tests)
    ] in
    let kept = IsImage-set c.self.inside.bytes.items c.self.inside.marks.items c.self.inside.low c.self.inside.high c.from-place.result c.args.byte
    c.if-self-eq0.self c.self.invariant (omega arith) low in
    rw (c.max-self-inside.ensures, address) kept
