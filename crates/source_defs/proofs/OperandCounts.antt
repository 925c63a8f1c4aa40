-- A field has no more operands than places.
use Rattle.std.proofs.Common.{ℕ, ◌+◌, ◌-◌, ◌≤◌, List, [], ◌∷◌, ◌++◌, length, arith, length-append}
use Rattle.std.specs.Prelude.{map}
use Rattle.std.specs.List.{range_with_len, zip}
use Rattle.std.proofs.lemmas.List.{length-map}
use Rattle.std.proofs.lemmas.List.Sums.{length-filter, count_by-le-length}
use Rattle.std.proofs.lemmas.List.FromFn.{length-range_with_len}
use Rattle.source_defs.specs.declared.text.Span.{Span}
use Rattle.source_defs.specs.Lines.{bounds_between}
use Rattle.source_defs.specs.Operands.{operands, operands_from, comma_places, parts_operands}

commas_le : (field : List ℕ) → length (comma_places field 0) ≤ length field
commas_le field =
    let all = range_with_len 0 (length field - 0) in
    omega (arith, length-filter (parts_operands field) all, count_by-le-length (parts_operands field) all, length-range_with_len 0 (length field - 0))

zip_le : {A B : Type 0} (keys : List A) (values : List B) → length (zip keys values) ≤ length values
zip_le [] values = omega arith
zip_le (key ∷ keys) [] = omega arith
zip_le (key ∷ keys) (value ∷ values) = omega (arith, zip_le keys values)

bounds_le : (commas : List ℕ) (end : ℕ) → length (bounds_between 0 commas end) ≤ length commas + 1
bounds_le commas end =
    omega (arith, zip_le (0 ∷ map (λ feed. feed + 1) commas) (commas ++ end ∷ []), length-append commas (end ∷ []))

from_le : (field : List ℕ) → length (operands_from field 0) ≤ length field + 1
unfolding operands_from
from_le field =
    omega (arith, length-map {B = Span} (bounds_between 0 (comma_places field 0) (length field)), bounds_le (comma_places field 0) (length field), commas_le field)

pub operands_le : (field : List ℕ) → length (operands field) ≤ length field + 1
operands_le [] = omega arith
operands_le (byte ∷ bytes) = from_le (byte ∷ bytes)
