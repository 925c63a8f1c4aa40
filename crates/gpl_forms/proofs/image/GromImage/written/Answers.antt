use Rattle.std.proofs.Common.{◌≡◌, ◌≤◌, ◌+◌, ◌-◌, length, ap, arith}
use Rattle.gpl_defs.specs.Image.{byte_at, written_bytes}
use Rattle.gpl_defs.proofs.ImageLaws.{part_by}
use Rattle.gpl_forms.specs.Tables.{image_of}
use Rattle.gpl_forms.proofs.TableLaws.{byte_at-image_of}
use Rattle.gpl_forms.proofs.image.GromImage.written.Goals as goal

pub returns : goal.returns
returns c =
    let same : length c.self.inside.bytes.items ≡ length c.self.inside.marks.items = omega arith in
    let inside : c.self.inside.low + (c.self.inside.high - c.self.inside.low) ≤ length c.self.inside.bytes.items = omega arith in
    let part = part_by (byte_at (image_of c.self.inside.bytes.items c.self.inside.marks.items)) c.self.inside.bytes.items
    (c.self.inside.high - c.self.inside.low) c.self.inside.low inside
    (λ k lt. byte_at-image_of c.self.inside.bytes.items c.self.inside.marks.items k same c.self.invariant.zero_elsewhere) in
    rw (c.deref.ensures.value, part, c.self.invariant.lowest, c.self.invariant.highest) (ap written_bytes c.self.view_is)
