-- The bytes of the rows of a source are in its image, and in each state of a run.
use Rattle.std.proofs.Common.{◌≡◌, ℕ, zero, suc, ◌+◌, ◌%◌, ◌<◌, ◌≤◌, ◌≢◌, Bool, true, false, ◌||◌, List, [], ◌∷◌, ◌++◌, Some, Ok, Err}
use Rattle.std.proofs.Common.{length, refl, sym, ap, subst, ◌∙◌, arith, nat_cmp}
use Rattle.std.specs.Prelude.{Option, Result, slice_index, is_some, unwrap_or, if◌then◌else◌}
use Rattle.std.specs.List.{AllByRecursion}
use Rattle.std.specs.FinMap.{get, insert, contains_key, get-insert}
use Rattle.std.specs.Ordering.{eq_by_cmp}
use Rattle.std.specs.Cmp.{nat_cmp_total}
use Rattle.std.proofs.lemmas.Cmp.{eq_by_cmp_equiv}
use Rattle.source_defs.specs.Refusals.{Refusal, ◌>>=◌, at_line}
use Rattle.source_defs.specs.Lines.{line_texts}
use Rattle.source_defs.proofs.RefusalLaws.{bound}
use Rattle.expression_defs.specs.Expression.{Value}
use Rattle.expression_defs.specs.Symbols.{Names, look_up}
use Rattle.expression_defs.specs.Layout.{line_layout, assembled_lines}
use Rattle.base_defs.specs.Addresses.{next_in_grom}
use Rattle.gpl_defs.specs.Bytes.{bytes_of}
use Rattle.gpl_defs.specs.Spellings.{AreBytesAt}
use Rattle.gpl_defs.specs.Image.{Image, placed, AreBytesOf}
use Rattle.gpl_defs.proofs.ImageLaws.{ties-other}
use Rattle.gpl_defs.proofs.MeaningLaws.{bytes_read}
use Rattle.gpl_step_defs.specs.State.{GplState, start}
use Rattle.gpl_step_defs.specs.Run.{run}
use Rattle.gpl_listing_defs.specs.Texts.{read_text}
use Rattle.gpl_source_defs.specs.declared.causes.GplCause.{GplCause}
use Rattle.gpl_source_defs.specs.declared.causes.GplCause.TheVariants.{Overlap}
use Rattle.gpl_source_defs.specs.declared.location.Location.{Location}
use Rattle.gpl_source_defs.specs.Statements.{Statement, Grom, Aorg}
use Rattle.gpl_source_defs.specs.Locations.{Line, place}
use Rattle.gpl_source_defs.specs.FirstChecks.{check, names}
use Rattle.gpl_source_defs.specs.SecondChecks.{Outcome, Bytes, outcome}
use Rattle.gpl_source_defs.specs.Programs.{AssembledLine, Program, program_of_source, assembled_line, overlaps, image, bytes_in, program_by, program_after}
use Rattle.gpl_list_defs.specs.Rows.{Row, address, outcome_bytes, placed_bytes, row_of, rows}
use Rattle.gpl_list_defs.specs.Listing.{assembled_listing, layout_listing, listing_of}
use Rattle.row_laws.specs.Laws.{RowIsIn, ShowsRow}
use Rattle.row_laws.proofs.StillImage.{run_still}

-- ---- bytes at their addresses

abbrev Holds : Image → ℕ → List ℕ → Type 0
Holds image at bytes = (k : ℕ) → k < length bytes → get image (at + k) ≡ Some (slice_index bytes k)

pub get_other : (image : Image) (at byte k : ℕ) → k ≢ at → get (insert image at byte) k ≡ get image k
get_other image at byte k other = get-insert nat_cmp_total image at byte k ∙ rw (ties-other k at other) refl

ties_self : (k : ℕ) → eq_by_cmp nat_cmp k k ≡ true
ties_self k = (eq_by_cmp_equiv nat_cmp_total).refl k

get_here : (image : Image) (at byte : ℕ) → get (insert image at byte) at ≡ Some byte
get_here image at byte = get-insert nat_cmp_total image at byte at ∙ rw (ties_self at) refl

get_before : (bytes : List ℕ) (image : Image) (at k : ℕ) → k < at → get (placed image at bytes) k ≡ get image k
get_before [] image at k lt = refl
get_before (byte ∷ bytes) image at k lt =
    get_before bytes (insert image at byte) (at + 1) k (omega (arith, lt)) ∙ get_other image at byte k (omega (arith, lt))

pub new_hold : (bytes : List ℕ) (image : Image) (at : ℕ) → Holds (placed image at bytes) at bytes
new_hold [] image at k lt = absurd (omega (arith, lt))
new_hold (byte ∷ bytes) image at zero lt =
    let here : at + 0 ≡ at = omega arith in
    ap (get (placed image at (byte ∷ bytes))) here ∙ (get_before bytes (insert image at byte) (at + 1) at (omega arith) ∙ get_here image at byte)
new_hold (byte ∷ bytes) image at (suc k) lt =
    let there : at + suc k ≡ at + 1 + k = omega arith in
    ap (get (placed image at (byte ∷ bytes))) there ∙ new_hold bytes (insert image at byte) (at + 1) k (omega (arith, lt))

pub none_of_two : (a b : Bool) → (a || b) ≡ false → (a ≡ false) × (b ≡ false)
none_of_two true b e = cc e
none_of_two false b e = (refl, e)

overlaps_after : (bytes : List ℕ) (image : Image) (at byte from : ℕ) → at < from → overlaps (insert image at byte) from bytes ≡ overlaps image from bytes
overlaps_after [] image at byte from lt = refl
overlaps_after (next ∷ bytes) image at byte from lt =
    rw (get_other image at byte from (λ same. absurd (omega (arith, lt, same))), overlaps_after bytes image at byte (from + 1) (omega (arith, lt))) refl

old_hold : (bytes : List ℕ) (image : Image) (at q byte : ℕ) → overlaps image at bytes ≡ false → get image q ≡ Some byte
    → get (placed image at bytes) q ≡ Some byte
old_hold [] image at q byte room e = e
old_hold (next ∷ bytes) image at q byte room e =
    let both = none_of_two (contains_key image at) (overlaps image (at + 1) bytes) room in
    let other : q ≢ at = λ same.
    (let there : get image at ≡ Some byte = sym (ap (get image) same) ∙ e in
    let taken : is_some (get image at) ≡ true = ap is_some there in
    cc (taken, both.0)) in
    old_hold bytes (insert image at next) (at + 1) q byte (overlaps_after bytes image at next (at + 1) (omega arith) ∙ both.1)
    (get_other image at next q other ∙ e)

-- ---- rows

abbrev RowHolds : Image → Row → Type 0
RowHolds image row = Holds image row.at row.bytes

abbrev AllHold : Image → List Row → Type 0
AllHold image found = AllByRecursion (RowHolds image) found

more_hold : (found : List Row) (image : Image) (at : ℕ) (bytes : List ℕ) → overlaps image at bytes ≡ false → AllHold image found
    → AllHold (placed image at bytes) found
more_hold [] image at bytes room all = tt
more_hold (row ∷ found) image at bytes room all =
    (λ k lt. old_hold bytes image at (row.at + k) (slice_index row.bytes k) room (all.0 k lt), more_hold found image at bytes room all.1)

pub all_append : {A : Type 0} (P : A → Type 0) (first second : List A) → AllByRecursion P first → AllByRecursion P second → AllByRecursion P (first ++ second)
all_append P [] second all others = others
all_append P (item ∷ first) second all others = (all.0, all_append P first second all.1 others)

no_bytes_hold : (image : Image) (at : ℕ) (found : Outcome) → ◌≡◌ {A = Result Outcome GplCause} (Ok (Bytes [])) (Ok found) → Holds image at (bytes_in found)
no_bytes_hold image at found e =
    let same : Bytes [] ≡ found = cc e in
    subst (λ found. Holds image at (bytes_in found)) same (λ k lt. absurd (omega (arith, lt)))

-- GROM and AORG are at the address that they set, and place nothing
at_address : (look : List ℕ → Option Value) (at : Location) (statement : Statement) (image : Image) (found : Outcome) → outcome look at statement ≡ Ok found
    → Holds image at.number (bytes_in found) → Holds image (address at statement) (bytes_in found)
unfolding outcome
at_address look at (Grom number) image found e holds = no_bytes_hold image (address at (Grom number)) found e
at_address look at (Aorg number) image found e holds = no_bytes_hold image (address at (Aorg number)) found e
at_address look at _ image found e holds = holds

at_line_ok : {A : Type 0} (number : ℕ) (answer : Result A GplCause) (found : A) → at_line number answer ≡ Ok found → answer ≡ Ok found
at_line_ok number (Ok value) found e = cc e
at_line_ok number (Err cause) found e = cc e

room_by : (full : Bool) (line found : AssembledLine) → (if full then Err Overlap else Ok line) ≡ Ok found → (full ≡ false) × (line ≡ found)
room_by true line found e = cc e
room_by false line found e = (refl, cc e)

module _ (known : Names) (texts : List (ℕ × List ℕ)) where
  rows_hold : (lines : List Line) (found : List AssembledLine) → assembled_lines (assembled_line known) lines ≡ Ok found
      → AllHold (image found) (rows (placed_bytes known) texts lines)
  rows_hold [] found e = tt
  rows_hold (line ∷ before) found e =
      let a = bound (assembled_lines (assembled_line known) before) _ found e in
      let b = bound (at_line line.number (assembled_line known before a.0 line)) _ found a.2 in
      let at = place before line in
      let c = bound (outcome (look_up known) at line.statement) _ b.0 (at_line_ok line.number (assembled_line known before a.0 line) b.0 b.1) in
      let placed_line : AssembledLine = record { at = at.number; outcome = c.0 } in
      let room = room_by (overlaps (image a.0) at.number (bytes_in c.0)) placed_line b.0 c.2 in
      let same : b.0 ∷ a.0 ≡ found = cc b.2 in
      let made : placed_line ∷ a.0 ≡ found = ap (λ line. line ∷ a.0) room.1 ∙ same in
      let row = row_of (placed_bytes known) texts before line in
      let bytes : placed_bytes known at line.statement ≡ bytes_in c.0 = ap outcome_bytes c.1 in
      let here = at_address (look_up known) at line.statement (image (placed_line ∷ a.0)) c.0 c.1 (new_hold (bytes_in c.0) (image a.0) at.number) in
      subst (λ found. AllHold (image found) (rows (placed_bytes known) texts (line ∷ before))) made
      (all_append (RowHolds (image (placed_line ∷ a.0))) (rows (placed_bytes known) texts before) (row ∷ [])
      (more_hold (rows (placed_bytes known) texts before) (image a.0) at.number (bytes_in c.0) room.0 (rows_hold before a.0 a.1))
      (subst (λ bytes. Holds (image (placed_line ∷ a.0)) row.at bytes) (sym bytes) here, tt))

assembled_rows : (texts : List (ℕ × List ℕ)) (lines : List Line) (answer : Result (List AssembledLine) (Refusal GplCause)) (program : Program)
    → assembled_lines (assembled_line (names lines)) lines ≡ answer → (answer >>= λ found. Ok (program_by lines found)) ≡ Ok program
    → AllHold program.image (assembled_listing texts lines answer).rows
assembled_rows texts lines (Ok found) program is e =
    let same : program_by lines found ≡ program = cc e in
    subst (λ (program : Program). AllHold program.image (rows (placed_bytes (names lines)) texts lines)) same (rows_hold (names lines) texts lines found is)
assembled_rows texts lines (Err refused) program is e = cc e

layout_rows : (texts : List (ℕ × List ℕ)) (answer : Result (List Line) (Refusal GplCause)) (program : Program) → (answer >>= program_after) ≡ Ok program
    → AllHold program.image (layout_listing texts answer).rows
layout_rows texts (Ok lines) program e = assembled_rows texts lines (assembled_lines (assembled_line (names lines)) lines) program refl e
layout_rows texts (Err refused) program e = cc e

-- ---- in each state of a run

row_is_in : (of_program : Image) (bytes : List ℕ) (row : Row) → AreBytesOf of_program bytes → RowHolds of_program row → RowIsIn bytes row
row_is_in of_program bytes row are holds k lt within =
    are.each (row.at + k) (omega (arith, within, are.size)) ∙ ap (λ found. unwrap_or found 0) (holds k lt)

all_stand : (of_program : Image) (bytes : List ℕ) (found : List Row) → AreBytesOf of_program bytes → AllHold of_program found
    → AllByRecursion (RowIsIn bytes) found
all_stand of_program bytes [] are all = tt
all_stand of_program bytes (row ∷ found) are all = (row_is_in of_program bytes row are all.0, all_stand of_program bytes found are all.1)

-- ---- a step that begins at a row

-- where bytes from an address on end in its GROM
abbrev end_of : List ℕ → ℕ → ℕ
end_of [] at = at
end_of (byte ∷ bytes) at = end_of bytes (next_in_grom at)

next_is : (at : ℕ) → at % 8192 + 1 < 8192 → next_in_grom at ≡ at + 1
next_is at lt = omega (arith, lt)

-- bytes at addresses that follow one another in one GROM
bytes_from : (bytes image : List ℕ) (at : ℕ) → ((k : ℕ) → k < length bytes → slice_index image (at + k) ≡ slice_index bytes k)
    → at % 8192 + length bytes ≤ 8192 → AreBytesAt image bytes at (end_of bytes at)
bytes_from [] image at each le = refl
bytes_from (byte ∷ []) image at each le =
    let here : at + 0 ≡ at = omega arith in
    (ap (slice_index image) (sym here) ∙ each 0 (omega arith), refl)
bytes_from (byte ∷ next ∷ bytes) image at each le =
    let here : at + 0 ≡ at = omega arith in
    let step : at + 1 ≡ next_in_grom at = sym (next_is at (omega (arith, le))) in (
      ap (slice_index image) (sym here) ∙ each 0 (omega arith),
      subst (λ at. AreBytesAt image (next ∷ bytes) at (end_of (next ∷ bytes) at)) step
          (bytes_from (next ∷ bytes) image (at + 1)
          (λ k lt. (let there : at + 1 + k ≡ at + suc k = omega arith in ap (slice_index image) there ∙ each (suc k) (omega (arith, lt))))
          (omega (arith, le))),
    )

pub row_shows : (s : GplState) (row : Row) → RowIsIn s.image row → ShowsRow s row
row_shows s row stands instr bytes valid lies at =
    let inside : (k : ℕ) → k < length row.bytes → row.at + k < 65536 = λ k lt. omega (arith, lt, lies.begins, lies.ends) in
    let each = bytes_from row.bytes s.image row.at (λ k lt. stands k lt (inside k lt)) lies.ends in
    let there : AreBytesAt s.image (bytes_of instr) s.pc (end_of row.bytes row.at) =
    subst (λ at. AreBytesAt s.image (bytes_of instr) at (end_of row.bytes row.at)) (sym at)
    (subst (λ bytes. AreBytesAt s.image bytes row.at (end_of row.bytes row.at)) bytes each) in
    ap (λ found. read_text found s.pc) (bytes_read instr valid s.image s.pc (end_of row.bytes row.at) there)

pub all_show : (s : GplState) (found : List Row) → AllByRecursion (RowIsIn s.image) found → AllByRecursion (ShowsRow s) found
all_show s [] all = tt
all_show s (row ∷ found) all = (row_shows s row all.0, all_show s found all.1)

pub rows_are_in : (source : List ℕ) (program : Program) (bytes : List ℕ) (entry made : ℕ) → program_of_source source ≡ Ok program
    → AreBytesOf program.image bytes
    → AllByRecursion (RowIsIn (run made (start bytes entry)).last.image) (listing_of source).rows
rows_are_in source program bytes entry made is are =
    subst (λ bytes. AllByRecursion (RowIsIn bytes) (listing_of source).rows) (sym (run_still made (start bytes entry)))
    (all_stand program.image bytes (listing_of source).rows are (layout_rows (line_texts source) (line_layout check (line_texts source)) program is))
