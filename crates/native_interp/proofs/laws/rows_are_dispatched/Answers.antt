use Rattle.std.proofs.Common.{ℕ, ◌+◌, ◌*◌, ◌/◌, Bool, true, eqb, refl}
use Rattle.std.proofs.lemmas.Bool.{agree_below_at, eqb-true}
use Rattle.gpl_defs.specs.Codes.{operation_at}
use Rattle.native_interp.specs.declared.addresses.TheConstants.{OPTAB}
use Rattle.native_interp.specs.Entries.{row_entry}
use Rattle.native_interp.specs.Words.{word_at}
use Rattle.native_interp.proofs.laws.rows_are_dispatched.Goals as goal

abbrev leads : ℕ → Bool
leads v = eqb (word_at (OPTAB + v)) (row_entry (operation_at (0x80 + v / 2 * 2)))

pub returns : goal.returns
returns c v lt = eqb-true (word_at (OPTAB + v)) (row_entry (operation_at (0x80 + v / 2 * 2))) (agree_below_at leads (λ _. true) 108 v refl lt)
