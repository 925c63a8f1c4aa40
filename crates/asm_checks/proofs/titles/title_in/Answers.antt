use Rattle.std.proofs.Common.{◌<◌, length, ap, ◌∙◌, arith}
use Rattle.std.proofs.lemmas.Bool.Decides.{nat_tests}
use Rattle.object_defs.specs.Digits.{padded}
use Rattle.asm_checks.proofs.PaddedNames.{padded_more}
use Rattle.asm_checks.proofs.titles.title_in.Goals as goal

pub loop-name-preserved : goal.loop-name-preserved
loop-name-preserved c =
    let room : length c.loop-name.name.items < 8 = grind (arith, nat_tests, c.is_full.ensures.value, c.is_full.ensures.fits, c.loop-name-test.true) in
    ap (padded 8) c.push.ensures.items ∙ (padded_more c.loop-name.name.items room ∙ c.loop-name.invariant)
