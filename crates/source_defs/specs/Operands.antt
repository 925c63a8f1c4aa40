-- The operands of a field, by their places.
--
-- Editor/Assembler manual, "Source statement format": commas are between operands.
-- Profile: a comma in quotes parts no operands, and an empty field has none.
use Rattle.std.specs.Prelude.{ℕ, ◌-◌, Bool, not, ◌&&◌, List, [], ◌∷◌, length, slice_index, map, filter}
use Rattle.std.specs.List.{AllByRecursion, range_with_len}
use Rattle.source_defs.specs.declared.text.Span.{Span}
use Rattle.source_defs.specs.Lines.{IsInside, bounds_between, part}
use Rattle.source_defs.specs.Fields.{in_quotes}
use Rattle.source_defs.specs.Characters.{is_comma}

-- a comma outside the quotes of a field
abbrev pub parts_operands : List ℕ → ℕ → Bool
parts_operands field k = is_comma (slice_index field k) && not (in_quotes field 0 k)

-- the places of such commas from a place on
abbrev pub comma_places : List ℕ → ℕ → List ℕ
comma_places field from = filter (parts_operands field) (range_with_len from (length field - from))

-- the operands from a place on: each stands from there or a comma up to the next comma or the field's end
unfoldable pub operands_from : List ℕ → ℕ → List Span
operands_from field from =
    map (λ bounds. record { start = bounds.0; end = bounds.1 })
    (bounds_between from (comma_places field from) (length field))

-- the operands of a field
abbrev pub operands : List ℕ → List Span
operands [] = []
operands (byte ∷ bytes) = operands_from (byte ∷ bytes) 0

-- the texts of the operands of a field
abbrev pub operand_texts : List ℕ → List (List ℕ)
operand_texts field = map (part field) (operands field)

-- each of some parts lies inside the field
abbrev pub OperandsLieInside : List ℕ → List Span → Type 0
OperandsLieInside field found = AllByRecursion (IsInside field) found
