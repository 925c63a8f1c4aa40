use Rattle.std.proofs.Common.{◌<◌, arith, FitsSigned}
use Rattle.std.specs.Int.{w8, cast_unsigned}
use Rattle.std.proofs.lemmas.Int.{ints}
use Rattle.tms_words.proofs.encoding.code_of.Goals as goal

pub returns-in-Jump-clause-room : goal.returns-in-Jump-clause-room
returns-in-Jump-clause-room c =
    let fits : FitsSigned w8 c.in-Jump.disp = rw c.in-Jump.is at c.requires.signed in
    let byte : cast_unsigned w8 c.in-Jump.disp < 256 = omega (arith, ints) in
    rw c.in-Jump.is (omega arith)
