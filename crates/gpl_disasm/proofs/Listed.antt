-- What is listed at an address, by what is read there.
use Rattle.std.proofs.Common.{◌≡◌, ◌≢◌, ℕ, ◌+◌, ◌<◌, ◌≤◌, Bool, true, false, List, length, refl, ◌∙◌, arith}
use Rattle.std.specs.Prelude.{◌==◌, ◌&&◌, nat_le, min, if◌then◌else◌}
use Rattle.std.proofs.lemmas.Bool.Decides.{nat_tests}
use Rattle.gpl_defs.specs.declared.instruction.GplInstr.{GplInstr}
use Rattle.gpl_defs.specs.declared.instruction.GplRead.TheVariants.{Instr, Refused}
use Rattle.gpl_defs.specs.Bytes.{bytes_of}
use Rattle.gpl_defs.specs.Reading.{reading, IsReadAt}
use Rattle.gpl_forms.specs.Sizes.{size_between}
use Rattle.gpl_forms.proofs.SizeLaws.{are_bytes_by_size}
use Rattle.gpl_listing_defs.specs.Listing.{boundary, byte_listed, instr_listed, listed_at}

-- whether a number of bytes are a whole instruction in its shortest spelling
abbrev pub is_whole_by : ℕ → ℕ → ℕ → ℕ → Bool
is_whole_by at next end size = (size == size_between at next) && nat_le (at + size) (min end (boundary at))

same_test : (a b : ℕ) → a ≡ b → (a == b) ≡ true
same_test a b e = grind (arith, nat_tests)

other_test : (a b : ℕ) → a ≢ b → (a == b) ≡ false
other_test a b e = grind (arith, nat_tests)

within_test : (a b : ℕ) → a ≤ b → nat_le a b ≡ true
within_test a b e = grind (arith, nat_tests)

past_test : (a b : ℕ) → b < a → nat_le a b ≡ false
past_test a b e = grind (arith, nat_tests)

read_listed : (image : List ℕ) (at next end : ℕ) (instr : GplInstr) → at < 65536 →
    reading image at ≡ Instr instr next → IsReadAt image at (Instr instr next) →
    listed_at image at end
    ≡ (if is_whole_by at next end (length (bytes_of instr)) then instr_listed instr at else byte_listed image at)
unfolding listed_at
read_listed image at next end instr lt read reads = rw (read, are_bytes_by_size image at next instr lt reads read) refl

pub refused_listed : (image : List ℕ) (at end code : ℕ) → reading image at ≡ Refused code →
    listed_at image at end ≡ byte_listed image at
unfolding listed_at
refused_listed image at end code read = rw read refl

pub whole_listed : (image : List ℕ) (at next end : ℕ) (instr : GplInstr) → at < 65536 →
    reading image at ≡ Instr instr next → IsReadAt image at (Instr instr next) →
    length (bytes_of instr) ≡ size_between at next → at + length (bytes_of instr) ≤ min end (boundary at) →
    listed_at image at end ≡ instr_listed instr at
whole_listed image at next end instr lt read reads same within =
    read_listed image at next end instr lt read reads ∙ rw (same_test _ _ same, within_test _ _ within) refl

pub longer_listed : (image : List ℕ) (at next end : ℕ) (instr : GplInstr) → at < 65536 →
    reading image at ≡ Instr instr next → IsReadAt image at (Instr instr next) →
    length (bytes_of instr) ≢ size_between at next → listed_at image at end ≡ byte_listed image at
longer_listed image at next end instr lt read reads other =
    read_listed image at next end instr lt read reads ∙ rw (other_test _ _ other) refl

pub cut_listed : (image : List ℕ) (at next end : ℕ) (instr : GplInstr) → at < 65536 →
    reading image at ≡ Instr instr next → IsReadAt image at (Instr instr next) →
    length (bytes_of instr) ≡ size_between at next → min end (boundary at) < at + length (bytes_of instr) →
    listed_at image at end ≡ byte_listed image at
cut_listed image at next end instr lt read reads same past =
    read_listed image at next end instr lt read reads ∙ rw (same_test _ _ same, past_test _ _ past) refl
