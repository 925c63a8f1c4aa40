-- The comparisons and the tests of the status, and what each gives.
use Rattle.std.specs.Prelude.{◌==◌, ◌||◌, Bool, false, Option, Some, true}
use Rattle.sim_rows.specs.Prelude.{CARRY, CEQ, CGE, CGT, CH, CHE, CLOG, CTRUE, CZ, Exit, exit}
use Rattle.sim_rows.specs.Prelude.{GplOperation, GT, H, MachineState, One, OVF}
use Rattle.sim_rows.specs.Prelude.{Plain, IsAt, Two, View}
use Rattle.sim_compare.specs.Pieces as piece

-- the comparisons of operands
abbrev pub is_comparison : Option GplOperation → Bool
is_comparison (Some (One CZ)) = true
is_comparison (Some (Two CH)) = true
is_comparison (Some (Two CHE)) = true
is_comparison (Some (Two CGT)) = true
is_comparison (Some (Two CGE)) = true
is_comparison (Some (Two CEQ)) = true
is_comparison (Some (Two CLOG)) = true
is_comparison _ = false

-- the tests of a bit of the status
abbrev pub is_test : Option GplOperation → Bool
is_test (Some (Plain H)) = true
is_test (Some (Plain GT)) = true
is_test (Some (Plain CARRY)) = true
is_test (Some (Plain OVF)) = true
is_test _ = false

-- the operations that set the condition or clear it, and change nothing else
abbrev pub is_compare : Option GplOperation → Bool
is_compare operation = is_comparison operation || is_test operation

-- the piece of a comparison
abbrev pub comparison : GplOperation → View → Exit
comparison (One CZ) v = piece.compare_with_zero v
comparison (Two CH) v = piece.compare_higher v
comparison (Two CHE) v = piece.compare_higher_or_equal v
comparison (Two CGT) v = piece.compare_greater v
comparison (Two CGE) v = piece.compare_greater_or_equal v
comparison (Two CEQ) v = piece.compare_equal v
comparison (Two CLOG) v = piece.compare_ones v
comparison operation v = exit 0 0 v

-- the piece of a test
abbrev pub test : Option GplOperation → View → Exit
test (Some (Plain H)) v = piece.test_higher v
test (Some (Plain GT)) v = piece.test_greater v
test (Some (Plain CARRY)) v = piece.test_carry v
test (Some (Plain OVF)) v = piece.test_overflow v
test operation v = exit 0 0 v

-- The machine is at one of the two ends of a comparison.
abbrev pub IsDecided : MachineState → Type 0
IsDecided x = IsAt x (piece.end_of (x.cpu.pc == CTRUE))

-- the piece at such an end
abbrev pub ending : Bool → View → Exit
ending true v = piece.set_condition v
ending false v = piece.clear_condition v
