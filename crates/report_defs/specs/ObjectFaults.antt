-- The texts of causes: object text that is refused, and modules that are not linked.
--
-- Profile: each cause has a text of its own, with its name, its address or its numbers.
use Rattle.std.specs.Prelude.{ℕ, ◌/◌, ◌%◌, nat_lt, if◌then◌else◌, List, ◌∷◌, ◌++◌, drop, codes}
use Rattle.source_defs.specs.Digits.{word_digits, hex_word}
use Rattle.source_defs.specs.Refusals.{Refusal}
use Rattle.object_defs.specs.declared.causes.TagCause.{TagCause}
use Rattle.object_defs.specs.declared.causes.TagCause.TheVariants.{BadTag, BadDigit, ShortField, Checksum, NoEnd}
use Rattle.object_defs.specs.declared.causes.TagCause.TheVariants.{TooMany}
use Rattle.link_defs.specs.Causes.{LinkCause, DuplicateDef, OutOfMemoryRange, Overlap, ChainOutside, ChainCycle}
use Rattle.link_defs.specs.Causes.{Unresolved, NoEntry}
use Rattle.report_defs.specs.FaultLine.{refusal_line}

abbrev pub tag_cause_text : TagCause → List ℕ
tag_cause_text (BadTag tag) = codes "bad tag"
tag_cause_text BadDigit = codes "bad digit"
tag_cause_text ShortField = codes "short field"
tag_cause_text (Checksum found computed) =
    codes "checksum " ++ (hex_word found ++ (codes ", computed " ++ hex_word computed))
tag_cause_text NoEnd = codes "no end"
tag_cause_text TooMany = codes "too many"

abbrev pub tag_line : Refusal TagCause → List ℕ
tag_line refused = refusal_line refused.line (tag_cause_text refused.cause)

-- how many zeros are in front of the four digits of a number that is not 0
abbrev pub leading_zeros : ℕ → ℕ
leading_zeros number =
    if nat_lt number 0x10 then 3 else if nat_lt number 0x100 then 2 else if nat_lt number 0x1000 then 1 else 0

-- Profile: an address has at least four digits.
abbrev pub marked_address : ℕ → List ℕ
marked_address address =
    if nat_lt address 65536 then hex_word address
    else 0x3E ∷ (drop (leading_zeros (address / 65536)) (word_digits (address / 65536))
    ++ word_digits (address % 65536))

-- words, what they speak of, and a line feed
abbrev pub fault_text : List ℕ → List ℕ → List ℕ
fault_text words what = words ++ (what ++ codes "\n")

abbrev pub link_line : LinkCause → List ℕ
link_line (DuplicateDef name) = fault_text (codes "duplicate def ") name
link_line (OutOfMemoryRange address) = fault_text (codes "outside memory ") (marked_address address)
link_line (Overlap address) = fault_text (codes "overlap at ") (hex_word address)
link_line (ChainOutside address) = fault_text (codes "chain outside ") (hex_word address)
link_line (ChainCycle address) = fault_text (codes "chain cycle ") (hex_word address)
link_line (Unresolved name) = fault_text (codes "unresolved ") name
link_line NoEntry = codes "no entry\n"
