-- What is listed is assembled again.
use Rattle.std.proofs.Common.{◌≡◌, ◌≢◌, ℕ, zero, suc, ◌+◌, ◌-◌, ◌*◌, ◌/◌, ◌%◌, ◌<◌, ◌≤◌, Bool, true, false, not, ◌&&◌}
use Rattle.std.proofs.Common.{List, [], ◌∷◌, ◌++◌, length, take, drop, refl, ap, sym, subst, ◌∙◌, ◌⊎◌, inl, inr, Ok, None, arith}
use Rattle.std.specs.Prelude.{◌==◌, codes, map, nat_le, slice_index, if◌then◌else◌}
use Rattle.std.specs.List.{list_all}
use Rattle.std.specs.FinMap.{empty}
use Rattle.std.proofs.lemmas.List.{drop_more}
use Rattle.std.proofs.lemmas.Bool.{cases_eq}
use Rattle.std.proofs.lemmas.Bool.Decides.{nat_tests}
use Rattle.source_defs.specs.ListedLines.{listed}
use Rattle.expression_defs.specs.Symbols.{predefined}
use Rattle.base_defs.specs.declared.size.TheConstants.{GROM_SIZE}
use Rattle.gpl_defs.specs.Image.{Image, placed}
use Rattle.gpl_defs.specs.Bytes.{bytes_of}
use Rattle.gpl_source_defs.specs.declared.location.Location.{Location}
use Rattle.gpl_source_defs.specs.Locations.{Line, start}
use Rattle.gpl_source_defs.specs.Programs.{AssembledLine, overlaps, program_of_source}
use Rattle.gpl_listing_defs.specs.Listing.{Listed, listed_at}
use Rattle.gpl_listing_defs.specs.Listing.{origin_texts, origin_texts_at, texts_from, texts_between, grom_texts, grom_listing}
use Rattle.gpl_listing_defs.proofs.LineSteps.{no_texts, next_texts}
use Rattle.gpl_listing_defs.specs.Law.{ListingsComeBack}
use Rattle.listed_lines.proofs.Scans.{all_both}
use Rattle.listed_lines.proofs.DigitLaws.{word_passes, byte_passes}
use Rattle.listed_lines.proofs.LineTexts.{in_line, joined, lines_joined, clean, clean_lines, text_of}
use Rattle.gpl_listing_defs.proofs.Entries.{Entry, Whole, Single, entry_of}
use Rattle.gpl_listing_defs.proofs.Entries.{placed_after, placed_free, empty_free, no_overlap, between, between_more, between_size}
use Rattle.gpl_listing_defs.proofs.Lines.{IsAt, Taken, Ends, at_first, ends_last, ends_more, same_location}
use Rattle.gpl_listing_defs.proofs.Lines.{instr_taken, byte_taken, grom_taken, aorg_taken, end_taken, instr_in_line}

not_false : (b : Bool) → not b ≡ false → b ≡ true
not_false true e = refl
not_false false e = absurd (cc)

-- a place, by the GROM that was set last
abbrev here : ℕ → ℕ → Location
here grom at = record { grom = grom; number = at }

module _ (image : List ℕ) (low high : ℕ) (bytes : (k : ℕ) → slice_index image k < 256) (size : length image ≡ 65536)
    (top : high ≤ 65536) where
  -- what is placed by the lines before a place
  abbrev held : ℕ → Image
  held at = placed empty low (between image low at)

  held_more : (at : ℕ) (more : List ℕ) → low ≤ at → at ≤ 65536 → take (length more) (drop at image) ≡ more →
      placed (held at) at more ≡ held (at + length more)
  held_more at more le inside same =
      let there : low + length (between image low at) ≡ at = between_size image low at le (omega arith) in
      ap (λ n. placed (held at) n more) (sym there)
      ∙ (placed_after empty low (between image low at) more
      ∙ ap (placed empty low) (ap (λ t. between image low at ++ t) (sym same) ∙ sym
      (between_more image low at (length more) le)))

  room : (at : ℕ) (more : List ℕ) → low ≤ at → at ≤ 65536 → overlaps (held at) at more ≡ false
  room at more le inside =
      let there : low + length (between image low at) ≡ at = between_size image low at le (omega arith) in
      let free = placed_free empty low (between image low at) (empty_free low) in
      no_overlap (held at) at more (λ k ge. free k (omega arith))

  -- the line at a place is accepted, and its bytes are placed
  record Entered (grom at : ℕ) (before : List Line) (number : ℕ) (line : Listed) : Type 0 where
    taken : Taken before number (listed line.text) false (here grom (at + line.size)) (held (at + line.size))
    some : 0 < line.size
    within : at + line.size ≤ high
    in_grom : at + line.size ≤ grom + 0x2000

  entered : {before : List Line} {earlier : List AssembledLine} (grom at number : ℕ) → IsAt before earlier (here grom at) (held at) →
      low ≤ at → at < high → grom % 0x2000 ≡ 0 → grom ≤ at → at < grom + 0x2000 → (line : Listed) →
      Entry image at high line → Entered grom at before number line
  entered grom at number place_is le inside whole from to line (Whole found valid fits same ends) =
      let base : at / 0x2000 * 0x2000 ≡ grom = omega arith in
      let it = instr_taken number place_is found (record { whole = whole; from = from; below = to; fits = omega arith }) valid fits
      (omega arith) (room at (bytes_of found) le (omega arith)) in
      record {
        taken = rw (held_more at (bytes_of found) le (omega arith) same) at it;
        some = omega arith;
        within = omega arith;
        in_grom = omega arith;
      }
  entered grom at number place_is le inside whole from to line Single =
      let same : take 1 (drop at image) ≡ slice_index image at ∷ [] = rw (drop_more image at 0 (omega arith)) refl in
      let it = byte_taken number place_is (slice_index image at) (bytes at) (omega arith)
      (room at (slice_index image at ∷ []) le (omega arith)) in
      record {
        taken = rw (held_more at (slice_index image at ∷ []) le (omega arith) same) at it;
        some = omega arith;
        within = omega arith;
        in_grom = omega arith;
      }

  -- ---- the lines from a place on, to the last

  abbrev Goes : ℕ → ℕ → List (List ℕ) → Type 0
  Goes grom at texts =
      (before : List Line) (earlier : List AssembledLine) (number : ℕ) → IsAt before earlier (here grom at) (held at) →
      Ends before number (map listed texts) (held high)

  abbrev left_from : ℕ → ℕ → List (List ℕ)
  left_from most at = texts_from image low high most at ++ codes "END" ∷ []

  -- by how many lines there are at most
  abbrev GoesFrom : ℕ → Type 0
  GoesFrom most =
      (at grom : ℕ) → high ≤ at + most → at ≤ high → low ≤ at → grom % 0x2000 ≡ 0 → grom ≤ at → at ≤ grom + 0x2000 →
      (at ≡ low → at < grom + 0x2000) → Goes grom at (left_from most at)

  entry_goes : (most at grom : ℕ) → GoesFrom most → high ≤ at + suc most → at < high → low ≤ at → grom % 0x2000 ≡ 0 → grom ≤ at →
      at < grom + 0x2000 →
      Goes grom at ((listed_at image at high).text ∷ left_from most (at + (listed_at image at high).size))
  entry_goes most at grom others enough inside le whole from to before earlier number place_is =
      let e = entered grom at number place_is le (omega arith) whole from to _ (entry_of image bytes size at high top) in
      let some = e.some in
      let within = e.within in
      let go = others (at + (listed_at image at high).size) grom (omega arith) (omega arith) (omega arith) whole (omega arith) e.in_grom
      (λ first. absurd (omega arith)) in
      ends_more before number _ _ _ _ (held high) e.taken (go (e.taken.line ∷ before) e.taken.earlier (number + 1) e.taken.place_is)

  -- GROM and AORG, and what comes after them
  origin_from : (loc : Location) (at : ℕ) (texts : List (List ℕ)) → at < 65536 → loc.number ≤ loc.grom + 0x2000 →
      Goes (at / GROM_SIZE * GROM_SIZE) at texts → (before : List Line) (earlier : List AssembledLine) (number : ℕ) →
      IsAt before earlier loc (held at) → Ends before number (map listed (origin_texts at ++ texts)) (held high)
  origin_from loc at texts lt within go before earlier number place_is =
      let first = grom_taken number place_is (at / GROM_SIZE * GROM_SIZE) (omega arith) (omega arith) within in
      let second = aorg_taken (number + 1) first.place_is (at % GROM_SIZE) (omega arith) (omega arith) in
      let there = same_location (at / GROM_SIZE * GROM_SIZE) (at / GROM_SIZE * GROM_SIZE + at % GROM_SIZE) at (omega arith) in
      let S : Location → Type 0 = λ loc. IsAt (second.line ∷ first.line ∷ before) second.earlier loc (held at) in
      ends_more before number _ _ _ _ (held high) first
      (ends_more (first.line ∷ before) (number + 1) _ _ _ _ (held high) second
      (go (second.line ∷ first.line ∷ before) second.earlier (number + 1 + 1) (subst S there second.place_is)))

  step_goes : (test : Bool) (most at grom : ℕ) → ((at % GROM_SIZE == 0) && not (at == low)) ≡ test → GoesFrom most →
      high ≤ at + suc most → at < high → low ≤ at → grom % 0x2000 ≡ 0 → grom ≤ at → at ≤ grom + 0x2000 →
      (at ≡ low → at < grom + 0x2000) →
      Goes grom at (((if test then origin_texts at else []) ++ ((listed_at image at high).text
      ∷ texts_from image low high most (at + (listed_at image at high).size))) ++ codes "END" ∷ [])
  step_goes true most at grom e others enough inside le whole from to first =
      let even : at % 0x2000 ≡ 0 = grind (arith, nat_tests) in
      origin_from (here grom at) at ((listed_at image at high).text ∷ left_from most (at + (listed_at image at high).size))
      (omega arith) to
      (entry_goes most at (at / GROM_SIZE * GROM_SIZE) others enough inside le (omega arith) (omega arith) (omega arith))
  step_goes false most at grom e others enough inside le whole from to first =
      entry_goes most at grom others enough inside le whole from (in_grom (cases_eq at (grom + 0x2000)))
    where
      in_grom : (at ≡ grom + 0x2000) ⊎ (at ≢ grom + 0x2000) → at < grom + 0x2000
      in_grom (inr other) = omega arith
      in_grom (inl same) =
          let even : (at % GROM_SIZE == 0) ≡ true =
          (let z : at % 0x2000 ≡ 0 = omega arith in grind (arith, nat_tests)) in
          let is_low : (at == low) ≡ true = not_false (at == low) (rw even at e) in
          first (grind (arith, nat_tests))

  at_end : (at grom : ℕ) (texts : List (List ℕ)) → high ≡ at → at ≤ grom + 0x2000 → texts ≡ [] → Goes grom at (texts ++ codes "END" ∷ [])
  at_end at grom texts same to none before earlier number place_is =
      let H : ℕ → Type 0 = λ end. Ends before number (map listed (texts ++ codes "END" ∷ [])) (held end) in
      subst H (sym same) (rw none (ends_last before number _ _ _ (end_taken number place_is to)))

  goes_from : (most : ℕ) → GoesFrom most
  goes_from zero at grom enough within le whole from to first = at_end at grom [] (omega arith) to refl
  goes_from (suc most) at grom enough within le whole from to first = by (goes_from most) (cases_eq at high)
    where
      by : GoesFrom most → (at ≡ high) ⊎ (at ≢ high) → Goes grom at (left_from (suc most) at)
      by others (inl same) = at_end at grom (texts_from image low high (suc most) at) (sym same) to (no_texts image low high (suc most) at (omega (arith, same)))
      by others (inr other) =
          let inside : at < high = omega (arith, within, other) in
          let same = next_texts image low high most at inside in
          subst (λ texts. Goes grom at (texts ++ codes "END" ∷ [])) (sym same)
          (step_goes _ most at grom refl others enough inside le whole from to first)

  all_go : low ≤ high → low < 65536 → Ends [] 1 (map listed (grom_texts image low high)) (held high)
  all_go order fits =
      let nothing : low - low ≡ 0 = omega arith in
      let none : [] ≡ between image low low = ap (λ n. take n (drop low image)) (sym nothing) in
      let S : List ℕ → Type 0 = λ taken. IsAt [] [] start (placed empty low taken) in
      origin_from start low (left_from (high - low) low) fits (omega arith)
      (goes_from (high - low) low (low / GROM_SIZE * GROM_SIZE) (omega arith) order (omega arith) (omega arith) (omega arith)
      (omega arith) (λ first. omega arith))
      [] [] 1 (subst S none at_first)

  -- ---- no text has a line feed

  clean_origin : (test : Bool) (at : ℕ) → clean (if test then origin_texts at else []) ≡ true
  clean_origin true at = rw (word_passes in_line (at / GROM_SIZE * GROM_SIZE) refl refl, word_passes in_line (at % GROM_SIZE) refl refl) refl
  clean_origin false at = refl

  clean_entry : (at : ℕ) (line : Listed) → Entry image at high line → list_all in_line (listed line.text) ≡ true
  clean_entry at line (Whole found valid fits same ends) = instr_in_line found at valid
  clean_entry at line Single = byte_passes in_line (slice_index image at) refl refl

  clean_from : (most at : ℕ) → clean (texts_from image low high most at) ≡ true
  clean_from zero at = refl
  clean_from (suc most) at = by (nat_le high at) _ (clean_from most (at + (listed_at image at high).size))
    where
      by : (past : Bool) (rest : List (List ℕ)) → clean rest ≡ true →
          clean (if past then [] else origin_texts_at low at ++ ((listed_at image at high).text ∷ rest)) ≡ true
      by true rest others = refl
      by false rest others =
          all_both _ (origin_texts_at low at) _ (clean_origin ((at % GROM_SIZE == 0) && not (at == low)) at)
          (rw (clean_entry at _ (entry_of image bytes size at high top), others) refl)

  clean_all : clean (grom_texts image low high) ≡ true
  clean_all =
      all_both (λ text. list_all in_line (listed text)) (origin_texts low) (left_from (high - low) low) (clean_origin true low)
      (all_both (λ text. list_all in_line (listed text)) (texts_between image low high low) (codes "END" ∷ []) (clean_from (high - low) low) refl)

-- a source whose lines are accepted to the last
program_is : (texts : List (List ℕ)) (bytes : Image) → Ends [] 1 (map listed texts) bytes →
    list_all (λ line. list_all in_line line) (map listed texts) ≡ true →
    program_of_source (joined (map listed texts)) ≡ Ok (record { image = bytes; entry = None; names = predefined })
program_is texts bytes ends clean =
    rw (lines_joined (map listed texts) clean, ends.layout_is, ends.names_are, ends.assembled_are, ends.image_is, ends.entry_is) refl

-- what is listed is assembled again
pub listings_come_back : ListingsComeBack
unfolding grom_listing
listings_come_back image low high holds fits order top =
    rw (text_of (grom_texts image low high))
    (program_is (grom_texts image low high) _ (all_go image low high holds.fits holds.size top order fits)
    (clean_lines (grom_texts image low high) (clean_all image low high holds.fits holds.size top)))
