use Rattle.std.proofs.Common.{◌≡◌, length, arith}
use Rattle.gpl_forms.proofs.TableLaws.{byte_at-image_of}
use Rattle.gpl_forms.proofs.image.GromImage.bytes.Goals as goal

pub returns-clause-each : goal.returns-clause-each
returns-clause-each c k lt =
    let same : length c.self.inside.bytes.items ≡ length c.self.inside.marks.items = omega arith in
    let at = byte_at-image_of c.self.inside.bytes.items c.self.inside.marks.items k same c.self.invariant.zero_elsewhere in
    rw (c.deref.ensures.value, ← c.self.view_is) at
