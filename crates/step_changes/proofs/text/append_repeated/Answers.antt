use Rattle.std.proofs.Common.{List, ℕ, length, length-append, ap, ◌∙◌, arith}
use Rattle.std.specs.Fmt.{decimal}
use Rattle.std.proofs.lemmas.Fmt.{length-decimal-le}
use Rattle.step_changes.proofs.text.append_repeated.Goals as goal

pub returns-then-count-ne1-clause-len : goal.returns-then-count-ne1-clause-len
returns-then-count-ne1-clause-len c =
    let count = c.requires.count in
    let few = length-decimal-le 5 c.args.count (omega arith) (omega arith) (omega arith) in
    let long = ap (λ (l : List ℕ). length l) c.append_count.ensures.bytes ∙ length-append c.push.new.self.items (decimal c.args.count) in
    omega (arith, few, long, c.push.ensures.len, c.append.ensures.len)
