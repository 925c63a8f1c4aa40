use Rattle.std.proofs.Common.{nat_eq, sym, ap, ◌∙◌, ◌*◌, arith}
use Rattle.std.proofs.lemmas.Simd.{length-chunk}
use lib.Lanes.{chunk}
use Rattle.lane_scan.proofs.Places.{lanes, none_set}
use Rattle.lane_scan.proofs.rows.rows_equal.Goals as goal

pub returns : goal.returns
returns c =
    let i = length-chunk (16 * c.args.i) 16 c.args.a.now c.requires.i in
    let j = length-chunk (16 * c.args.j) 16 c.args.a.now c.requires.j in
    ap (λ mask. nat_eq mask 0) (lanes (chunk (16 * c.args.i) 16 c.args.a.now) (chunk (16 * c.args.j) 16 c.args.a.now) (omega (arith, i)))
    ∙ none_set (chunk (16 * c.args.i) 16 c.args.a.now) (chunk (16 * c.args.j) 16 c.args.a.now) (i ∙ sym j)
