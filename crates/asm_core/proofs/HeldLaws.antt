-- A line whose first checks find where it leads has room.
use Rattle.std.proofs.Common.{◌≡◌, ℕ, ◌+◌, true, List, Ok, ap, ◌∙◌, arith}
use Rattle.std.specs.Prelude.{nat_le}
use Rattle.std.proofs.lemmas.Bool.Decides.{nat_tests}
use Rattle.asm_defs.specs.Locations.{after, is_in_part}
use Rattle.asm_defs.specs.FirstChecks.{EarlierLines, Checked}
use Rattle.asm_defs.specs.Growing.{declared_size}
use Rattle.asm_checks.specs.Checks.{checked_as_new}
use Rattle.asm_checks.proofs.Labels as checks
use Rattle.asm_core.specs.Held as held

pub has_room : (before : EarlierLines) (text : List ℕ) (found : Checked) → is_in_part before.location ≡ true → checked_as_new before text ≡ Ok found
    → held.has_room (after before.location found.move.gap) text ≡ true
has_room before text found here e =
    let room = checks.has_room before text found e here in
    let le : nat_le (before.location.number + found.move.gap + declared_size found.statement) 65536 ≡ true = grind (arith, nat_tests, room) in
    ap (held.has_room_by (after before.location found.move.gap)) (checks.parses before text found e) ∙ le
