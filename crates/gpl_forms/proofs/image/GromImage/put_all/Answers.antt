use Rattle.std.proofs.Common.{◌≡◌, ◌<◌, ◌+◌, ◌++◌, ℕ, List, Bool, true, length, take, drop, ◌∙◌, ap, min, arith}
use Rattle.std.specs.Prelude.{if◌then◌else◌, ◌==◌, replicate}
use Rattle.std.proofs.lemmas.Bool.Decides.{nat_tests}
use Rattle.std.proofs.lemmas.List.{with_items_is}
use Rattle.std.specs.Vec.{with_items}
use Rattle.gpl_defs.specs.Image.{Image, placed}
use Rattle.gpl_forms.specs.Tables.{image_of}
use Rattle.gpl_forms.proofs.TableLaws.{IsImage-written}
use Rattle.gpl_forms.proofs.image.GromImage.put_all.Goals as goal
use Rattle.gpl_forms.proofs.image.GromImage.put_all.Goals.{then-self-eq0, else-self-eq0}

pub invariant_of-self : goal.invariant_of-self
invariant_of-self c =
    let some : 0 < length c.args.bytes.now = grind (arith, nat_tests) in
    let address : c.from-address.result ≡ c.from-place.result = omega arith in
    let low : c.if-self-eq0.self ≡ (if c.self.inside.high == 0 then c.from-place.result else min c.self.inside.low c.from-place.result) =
    elim c.if-self-eq0.branch [
      | then-self-eq0 w ↦ grind (arith, nat_tests)
      | else-self-eq0 w ↦ grind (arith, nat_tests)
    ] in
    let bytes_are = c.write_at.ensures ∙ ap (λ (xs : List ℕ). take c.from-place.result xs ++ c.args.bytes.now ++ drop
    (c.from-place.result + length c.args.bytes.now) xs) c.deref_mut.ensures.value in
    let marks_are = c.mark_at.ensures ∙ ap (λ (xs : List Bool). take c.from-place.result xs ++ replicate (length c.args.bytes.now) true ++ drop
    (c.from-place.result + length c.args.bytes.now) xs) c.deref_mut-2.ensures.value in
    let kept = IsImage-written c.args.bytes.now c.self.inside.bytes.items c.write_at.new.to c.self.inside.marks.items c.mark_at.new.marks c.self.inside.low
    c.self.inside.high c.from-place.result c.if-self-eq0.self c.self.invariant some (omega arith) low bytes_are marks_are in
    let bytes = with_items_is c.self.inside.bytes c.write_at.new.to (omega (arith, kept.0.bytes_size)) in
    let marks = with_items_is c.self.inside.marks c.mark_at.new.marks (omega (arith, kept.0.marks_size)) in
    rw (bytes, marks, c.max-self-inside.ensures) kept.0

pub returns : goal.returns
returns c =
    let some : 0 < length c.args.bytes.now = grind (arith, nat_tests) in
    let address : c.from-address.result ≡ c.from-place.result = omega arith in
    let low : c.if-self-eq0.self ≡ (if c.self.inside.high == 0 then c.from-place.result else min c.self.inside.low c.from-place.result) =
    elim c.if-self-eq0.branch [
      | then-self-eq0 w ↦ grind (arith, nat_tests)
      | else-self-eq0 w ↦ grind (arith, nat_tests)
    ] in
    let bytes_are = c.write_at.ensures ∙ ap (λ (xs : List ℕ). take c.from-place.result xs ++ c.args.bytes.now ++ drop
    (c.from-place.result + length c.args.bytes.now) xs) c.deref_mut.ensures.value in
    let marks_are = c.mark_at.ensures ∙ ap (λ (xs : List Bool). take c.from-place.result xs ++ replicate (length c.args.bytes.now) true ++ drop
    (c.from-place.result + length c.args.bytes.now) xs) c.deref_mut-2.ensures.value in
    let kept = IsImage-written c.args.bytes.now c.self.inside.bytes.items c.write_at.new.to c.self.inside.marks.items c.mark_at.new.marks c.self.inside.low
    c.self.inside.high c.from-place.result c.if-self-eq0.self c.self.invariant some (omega arith) low bytes_are marks_are in
    let bytes = with_items_is c.self.inside.bytes c.write_at.new.to (omega (arith, kept.0.bytes_size)) in
    let marks = with_items_is c.self.inside.marks c.mark_at.new.marks (omega (arith, kept.0.marks_size)) in
    let image : image_of (with_items c.self.inside.bytes c.write_at.new.to).items (with_items c.self.inside.marks c.mark_at.new.marks).items
    ≡ placed (image_of c.self.inside.bytes.items c.self.inside.marks.items) c.from-place.result c.args.bytes.now = rw (bytes, marks) kept.1 in
    image ∙ ap (λ (at : ℕ). placed (image_of c.self.inside.bytes.items c.self.inside.marks.items) at c.args.bytes.now) c.from-place.ensures
    ∙ ap (λ (m : Image). placed m c.args.at c.args.bytes.now) c.self.view_is
