-- What gdis writes of an input is short, and gasm reports that input of it.
use Rattle.std.proofs.Common.{◌≡◌, ℕ, ◌+◌, ◌-◌, ◌*◌, ◌<◌, ◌≤◌, false, List, [], ◌∷◌, length, refl, sym, subst, arith}
use Rattle.std.specs.Prelude.{nat_lt}
use Rattle.std.specs.List.{concat}
use Rattle.std.specs.FinMap.{empty}
use Rattle.std.proofs.lemmas.Bool.Decides.{nat_tests}
use Rattle.tms_defs.specs.Bytes.{HoldsBytes}
use Rattle.gpl_defs.specs.Image.{placed, written_bytes}
use Rattle.gpl_defs.proofs.ImageLaws.{high_of-empty, low_of-empty}
use Rattle.gpl_source_defs.specs.Programs.{program_of_source}
use Rattle.gpl_listing_defs.proofs.LengthLaws.{listings_are_short}
use Rattle.report_defs.specs.declared.command.Command.TheVariants.{Gasm}
use Rattle.report_defs.specs.declared.status.Status.TheVariants.{Done}
use Rattle.report_defs.specs.GromListing.{grom_bytes, image_listing}
use Rattle.report_defs.specs.Report.{Whole, largest_input, one_piece, gasm_report, ReportOn}
use Rattle.report_defs.specs.Laws.{ListedBytesComeBack, listed_text}
use Rattle.report_defs.proofs.ListedInputs.{low_placed, high_all, bytes_placed, all_fit, placed_fit, empty_fits}
use Rattle.report_defs.proofs.ListedInputs.{listed_inputs_come_back}
use Rattle.report_defs.proofs.ListedWords.{listed}

-- the bytes of the image of an input are the input
written : (input : List ℕ) (at : ℕ) → at + length input ≤ 65536 → written_bytes (placed empty at input) ≡ input
written [] at within = rw (low_of-empty, high_of-empty) refl
written (byte ∷ bytes) at within =
    let size : at + length (byte ∷ bytes) - at ≡ length (byte ∷ bytes) = omega arith in
    rw (low_placed byte bytes at within, high_all byte bytes at, size) (bytes_placed (byte ∷ bytes) empty at)

short : (input : List ℕ) (at : ℕ) → HoldsBytes (length input) input → at + length input ≤ 65536 →
    length (listed_text at input) ≤ 16 * length input + 299
short [] at holds within =
    rw (low_of-empty, high_of-empty)
    (listings_are_short (grom_bytes empty) 0 0 (all_fit empty empty_fits) (omega arith) (omega arith))
short (byte ∷ bytes) at holds within =
    let input = byte ∷ bytes in
    let size : at + length input - at ≡ length input = omega arith in
    let fit = all_fit (placed empty at input) (placed_fit input empty at holds.fits empty_fits) in
    rw (low_placed byte bytes at within, high_all byte bytes at)
    (rw size at (listings_are_short (grom_bytes (placed empty at input)) at (at + length input) fit (omega arith) within))

reported : (at : ℕ) (input : List ℕ) → HoldsBytes (length input) input → at < 65536 → at + length input ≤ 65536 →
    length (listed_text at input) ≤ largest_input →
    ReportOn Gasm (listed_text at input) (Whole Done (one_piece input))
reported at input holds below within le =
    let small : nat_lt largest_input (length (listed_text at input)) ≡ false = grind (arith, nat_tests, le) in
    let again : Whole Done (one_piece input) ≡ gasm_report (program_of_source (listed_text at input)) =
    rw (listed_inputs_come_back at input holds below within, written input at within) refl in
    rw small again

pub listed_bytes_come_back : ListedBytesComeBack
listed_bytes_come_back at input pieces holds below reports =
    let is = listed at input (image_listing (placed empty at input)) pieces reports in
    subst (λ pieces. (length (concat pieces) ≤ 16 * length input + 299)
    × (length (concat pieces) ≤ largest_input → ReportOn Gasm (concat pieces) (Whole Done (one_piece input))))
    (sym is.pieces_are)
    (short input at holds is.within, λ le. reported at input holds below is.within le)
