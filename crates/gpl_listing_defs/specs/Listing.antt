-- The listing of GROM as a GPL source.
use Rattle.std.specs.Prelude.{ℕ, zero, suc, ◌+◌, ◌-◌, ◌*◌, ◌/◌, ◌%◌, ◌==◌, ◌&&◌, Bool, not, nat_le, min}
use Rattle.std.specs.Prelude.{if◌then◌else◌, List, [], ◌∷◌, ◌++◌, length, map, slice_index, codes}
use Rattle.source_defs.specs.Digits.{hex_word, hex_byte}
use Rattle.source_defs.specs.ListedLines.{listing_line}
use Rattle.gpl_defs.specs.declared.instruction.GplInstr.{GplInstr}
use Rattle.gpl_defs.specs.declared.instruction.GplRead.{GplRead}
use Rattle.gpl_defs.specs.declared.instruction.GplRead.TheVariants.{Instr, Refused}
use Rattle.gpl_defs.specs.Bytes.{bytes_of}
use Rattle.gpl_defs.specs.Reading.{reading, are_bytes_at}
use Rattle.gpl_listing_defs.specs.Texts.{instr_text}
use Rattle.base_defs.specs.declared.size.TheConstants.{GROM_SIZE}

-- the first address of the next GROM
abbrev pub boundary : ℕ → ℕ
boundary at = at / GROM_SIZE * GROM_SIZE + GROM_SIZE

-- what a line says, and how many bytes it stands for
pub record Listed : Type 0 where
  pub text : List ℕ
  pub size : ℕ

abbrev pub byte_listed : List ℕ → ℕ → Listed
byte_listed image at = record { text = codes "BYTE " ++ hex_byte (slice_index image at); size = 1 }

abbrev pub instr_listed : GplInstr → ℕ → Listed
instr_listed instr at = record { text = instr_text instr at; size = length (bytes_of instr) }

-- a whole instruction is there in its shortest spelling, and ends at or before the end and in its GROM
abbrev pub is_whole : List ℕ → ℕ → ℕ → GplInstr → Bool
is_whole image at end instr =
    are_bytes_at image (bytes_of instr) at && nat_le (at + length (bytes_of instr)) (min end (boundary at))

abbrev pub listed_by : List ℕ → ℕ → ℕ → GplRead → Listed
listed_by image at end (Instr instr next) =
    if is_whole image at end instr then instr_listed instr at else byte_listed image at
listed_by image at end (Refused code) = byte_listed image at

-- Profile: a line is an instruction where a whole one is in its shortest spelling and ends in its GROM and at
-- or before the end; where that is not so, it is BYTE and the first byte there.
unfoldable pub listed_at : List ℕ → ℕ → ℕ → Listed
listed_at image at end = listed_by image at end (reading image at)

-- Profile: a GROM is given by its first address, and the place in it by an offset.
abbrev pub origin_texts : ℕ → List (List ℕ)
origin_texts at =
    (codes "GROM " ++ hex_word (at / GROM_SIZE * GROM_SIZE)) ∷ (codes "AORG " ++ hex_word (at % GROM_SIZE)) ∷ []

-- these stand again where a byte begins a GROM, unless it is the first of all
abbrev pub origin_texts_at : ℕ → ℕ → List (List ℕ)
origin_texts_at low at = if (at % GROM_SIZE == 0) && not (at == low) then origin_texts at else []

-- What the lines from an address on say, at most a number of them, by the address of the first of all and the end
-- after the last byte: the line there, and then those of the bytes after it.
abbrev pub texts_from : List ℕ → ℕ → ℕ → ℕ → ℕ → List (List ℕ)
texts_from image low end zero at = []
texts_from image low end (suc most) at =
    if nat_le end at then [] else (let line = listed_at image at end in
    origin_texts_at low at ++ (line.text ∷ texts_from image low end most (at + line.size)))

-- what the lines of the bytes from an address up to the end say
abbrev pub texts_between : List ℕ → ℕ → ℕ → ℕ → List (List ℕ)
texts_between image low end at = texts_from image low end (end - at) at

-- Profile: a listing begins with the address of the first byte, and ends with END. So does the listing of no byte at
-- all.
abbrev pub grom_texts : List ℕ → ℕ → ℕ → List (List ℕ)
grom_texts image low high =
    origin_texts low ++ (texts_between image low high low ++ codes "END" ∷ [])

-- the listing of the bytes from an address up to another
unfoldable pub grom_listing : List ℕ → ℕ → ℕ → List (List ℕ)
grom_listing image low high = map listing_line (grom_texts image low high)
