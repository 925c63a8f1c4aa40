-- The operations of these rows, and the piece of each.
use Rattle.std.specs.Prelude.{Bool, false, Option, Some, true}
use Rattle.sim_rows.specs.Prelude.{ABS, ADD, AND, CLR, DEC, DECT, Exit, exit, GplOperation, INC, INCT, INV, NEG, One}
use Rattle.sim_rows.specs.Prelude.{OR, row_entry, ST, SUB, Two, View, XOR}
use Rattle.sim_alu.specs.Pieces as piece

abbrev pub is_alu : Option GplOperation → Bool
is_alu (Some (One ABS)) = true
is_alu (Some (One NEG)) = true
is_alu (Some (One INV)) = true
is_alu (Some (One CLR)) = true
is_alu (Some (One INC)) = true
is_alu (Some (One DEC)) = true
is_alu (Some (One INCT)) = true
is_alu (Some (One DECT)) = true
is_alu (Some (Two ADD)) = true
is_alu (Some (Two SUB)) = true
is_alu (Some (Two AND)) = true
is_alu (Some (Two OR)) = true
is_alu (Some (Two XOR)) = true
is_alu (Some (Two ST)) = true
is_alu _ = false

-- What the piece at the entry of each row does. The rows of other operations stay where they are.
abbrev pub result_piece : GplOperation → View → Exit
result_piece (One ABS) v = piece.make_absolute v
result_piece (One NEG) v = piece.negate v
result_piece (One INV) v = piece.invert v
result_piece (One CLR) v = piece.clear v
result_piece (One INC) v = piece.add_source v
result_piece (One DEC) v = piece.subtract_source v
result_piece (One INCT) v = piece.add_twice v
result_piece (One DECT) v = piece.subtract_twice v
result_piece (Two ADD) v = piece.add_source v
result_piece (Two SUB) v = piece.subtract_source v
result_piece (Two AND) v = piece.keep_common_ones v
result_piece (Two OR) v = piece.set_ones v
result_piece (Two XOR) v = piece.exclude_ones v
result_piece (Two ST) v = piece.take_source v
result_piece operation v = exit 0 (row_entry (Some operation)) v
