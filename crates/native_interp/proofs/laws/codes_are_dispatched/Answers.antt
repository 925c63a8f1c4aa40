use Rattle.std.proofs.Common.{ℕ, ◌+◌, ◌*◌, Bool, true, eqb, refl}
use Rattle.std.specs.Prelude.{nat_eq, not}
use Rattle.std.specs.Option.{is_some}
use Rattle.std.proofs.lemmas.Bool.{agree_below_at, eqb-true}
use Rattle.gpl_defs.specs.Codes.{operation_at}
use Rattle.native_interp.specs.declared.addresses.TheConstants.{TABLE, UNKN}
use Rattle.native_interp.specs.Entries.{operation_entry}
use Rattle.native_interp.specs.Words.{word_at}
use Rattle.native_interp.proofs.laws.codes_are_dispatched.Goals as goal

abbrev leads : ℕ → Bool
leads v = eqb (word_at (TABLE + 2 * v)) (operation_entry (operation_at v))

abbrev is_stop : ℕ → Bool
is_stop v = nat_eq (operation_entry (operation_at v)) UNKN

abbrev is_left_out : ℕ → Bool
is_left_out v = not (is_some (operation_at v))

pub returns : goal.returns
returns c = record {
  entries = λ v lt. eqb-true (word_at (TABLE + 2 * v)) (operation_entry (operation_at v)) (agree_below_at leads (λ _. true) 256 v refl lt);
  stops = λ v lt. agree_below_at is_stop is_left_out 256 v refl lt;
}
