-- How many columns the number of a step takes.
use Rattle.std.proofs.Common.{◌≡◌, ℕ, ◌-◌, ◌≤◌, List, length, replicate, length-append, sym, subst, arith}
use Rattle.std.specs.Fmt.{decimal}
use Rattle.std.proofs.lemmas.Fmt.{length-decimal-le}
use Rattle.std.proofs.lemmas.List.{length-replicate}
use Rattle.source_defs.specs.Digits.{right_in}
use Rattle.gpl_counts.specs.Counts.{most_shown_steps}

pub eight_columns : (number : ℕ) (text : List ℕ) → number ≤ most_shown_steps → text ≡ right_in 6 number → length text ≤ 8
unfolding right_in
eight_columns number text h is =
    let digits = decimal number in
    let few = length-decimal-le 8 number (omega arith) (omega arith) (omega arith) in
    let all = length-append (replicate (6 - length digits) 0x20) digits in
    let blanks = length-replicate {A = ℕ} (6 - length digits) 0x20 in
    subst (λ (t : List ℕ). length t ≤ 8) (sym is) (omega (arith, few, all, blanks))
