use Rattle.std.proofs.Common.{eqb, w8, arith}
use Rattle.std.proofs.lemmas.Simd.{bitmask_splat, length-chunk}
use lib.Lanes.{chunk}
use Rattle.asm_text.proofs.places.feeds_from.Goals as goal

pub returns : goal.returns
returns c =
    bitmask_splat w8 eqb (chunk c.args.from 32 c.args.text.now) 32 10 (length-chunk c.args.from 32 c.args.text.now c.requires) (omega arith)
