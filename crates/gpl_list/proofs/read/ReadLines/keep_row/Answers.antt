use Rattle.std.proofs.Common.{ℕ, List, refl, ap₂}
use Rattle.gpl_list_defs.specs.Rows as spec
use Rattle.gpl_list.proofs.read.ReadLines.keep_row.Goals as goal

pub returns-clause-rows : goal.returns-clause-rows
returns-clause-rows c =
    let row_by : List ℕ → List ℕ → spec.Row =
    λ bytes text. record { number = c.args.number; at = c.args.address; bytes = bytes; text = text } in
    (_, c.in_ok-push.ensures.items, record { at = refl; is = ap₂ row_by c.new.ensures.items c.in_ok-text.ensures.items })
