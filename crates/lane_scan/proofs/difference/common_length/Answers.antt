use Rattle.std.proofs.Common.{ap, arith}
use Rattle.std.proofs.lemmas.Slice.Zip.{length-zip}
use Rattle.std.specs.List.{zip}
use lib.Count.{count_trailing_zeros}
use Rattle.lane_scan.proofs.Places.{through, within}
use Rattle.lane_scan.proofs.difference.common_length.Goals as goal

pub returns-then-differing-ne0 : goal.returns-then-differing-ne0
returns-then-differing-ne0 c =
    let mask = c.differing_lanes-differing in
    let room = length-zip c.args.a.now c.args.b.now in
    let found = within (zip c.args.a.now c.args.b.now) c.loop-at.at 64 (omega (arith, room)) (omega arith) (omega (arith, mask.ensures)) in
    let place = ap (count_trailing_zeros 64) mask.ensures in
    omega (arith, found, place)

pub loop-at-preserved : goal.loop-at-preserved
loop-at-preserved c =
    let room = length-zip c.args.a.now c.args.b.now in
    let on = through (zip c.args.a.now c.args.b.now) c.loop-at.at 64 (omega (arith, room)) (omega (arith, c.differing_lanes-differing.ensures)) in
    (omega (arith, on), omega arith, c.loop-at.invariant.2)
