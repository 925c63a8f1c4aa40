-- The fields that come after a tag: a number, and after some tags a name.
--
-- Editor/Assembler manual, "Tagged object code": a number is four hexadecimal digits, in compressed text two bytes; a
-- name is eight or six characters.
use Rattle.std.specs.Prelude.{ℕ, not, ◌+◌, ◌*◌, ◌&&◌, nat_lt, if◌then◌else◌, List, [], ◌∷◌, length, take, drop, Result}
use Rattle.std.specs.Prelude.{Ok, Err, Bool}
use Rattle.std.specs.List.{list_all}
use Rattle.source_defs.specs.Characters.{is_blank}
use Rattle.source_defs.specs.Names.{is_kept_name, all_printed}
use Rattle.source_defs.specs.Numbers.{all_hexadecimal_digits, value_after}
use Rattle.object_defs.specs.declared.form.TextForm.{TextForm}
use Rattle.object_defs.specs.declared.form.TextForm.TheVariants.{Plain, Compressed}
use Rattle.object_defs.specs.declared.causes.TagCause.{TagCause}
use Rattle.object_defs.specs.declared.causes.TagCause.TheVariants.{BadTag, BadDigit, ShortField}
use Rattle.object_defs.specs.Modules.{all_name_characters}

-- the four digits
-- Profile: they are of either case; a bad character of a field comes before the end of the line in it.
unfoldable pub digits_at : List ℕ → Result ℕ TagCause
digits_at fields =
    let digits = take 4 fields in
    if not (all_hexadecimal_digits digits) then Err BadDigit
    else if nat_lt (length digits) 4 then Err ShortField
    else Ok (value_after 16 0 digits)

-- the two bytes, the high byte first
-- Profile: they are any bytes.
unfoldable pub two_bytes_at : List ℕ → Result ℕ TagCause
two_bytes_at (high ∷ low ∷ fields) = Ok (256 * high + low)
two_bytes_at _ = Err ShortField

-- the number after a tag
abbrev pub number_at : TextForm → List ℕ → Result ℕ TagCause
number_at Plain fields = digits_at fields
number_at Compressed fields = two_bytes_at fields

-- how many characters a number takes
abbrev pub number_size : TextForm → ℕ
number_size Plain = 4
number_size Compressed = 2

-- the eight characters after the number
-- Profile: each of them is one from >20 to >7E, or else the tag is refused.
unfoldable pub module_name_at : TextForm → ℕ → List ℕ → Result (List ℕ) TagCause
module_name_at form tag fields =
    let name = take 8 (drop (number_size form) fields) in
    if not (all_name_characters name) then Err (BadTag tag)
    else if nat_lt (length name) 8 then Err ShortField
    else Ok name

abbrev pub all_blank : List ℕ → Bool
all_blank bytes = list_all is_blank bytes

-- the characters without the blanks at their end
unfoldable pub trim_trailing_blanks : List ℕ → List ℕ
trim_trailing_blanks [] = []
trim_trailing_blanks (byte ∷ bytes) = if all_blank (byte ∷ bytes) then [] else byte ∷ trim_trailing_blanks bytes

-- a name in a field of six characters, of which the line may have fewer
-- Profile: without the blanks at its end it is one to six characters from >21 to >7E, or else the tag is refused.
abbrev pub symbol_in : ℕ → List ℕ → Result (List ℕ) TagCause
symbol_in tag field =
    if nat_lt (length field) 6 && all_printed (trim_trailing_blanks field) then Err ShortField
    else if is_kept_name (trim_trailing_blanks field) then Ok (trim_trailing_blanks field)
    else Err (BadTag tag)

-- the six characters after the number
unfoldable pub symbol_at : TextForm → ℕ → List ℕ → Result (List ℕ) TagCause
symbol_at form tag fields = symbol_in tag (take 6 (drop (number_size form) fields))
