use Rattle.std.proofs.Common.{◌∙◌, refl}
use Rattle.object_tags.proofs.Hexadecimal.{two_bytes}
use Rattle.object_tags.proofs.fields.four_digits.Goals as goal

pub unwrap-requires : goal.unwrap-requires
unwrap-requires c =
    let bytes = two_bytes c.args.digits.now c.requires.size c.requires.digits in
    let value = c.decode_to_slice.ensures.value in
    let decoded = rw bytes.decoded at value in rw decoded.0 refl

pub returns : goal.returns
returns c =
    let bytes = two_bytes c.args.digits.now c.requires.size c.requires.digits in
    let value = c.decode_to_slice.ensures.value in
    let decoded = rw bytes.decoded at value in
    rw decoded.1 at c.from_be_bytes.ensures ∙ bytes.value
