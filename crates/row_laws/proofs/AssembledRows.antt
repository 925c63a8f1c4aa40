-- A step that begins at the row of a line with an instruction shows what the line is assembled to.
use Rattle.std.proofs.Common.{◌≡◌, ℕ, suc, ◌+◌, ◌%◌, ◌≤◌, List, [], ◌∷◌, ◌++◌, Ok, Err, length, refl, sym, ap, subst, ◌∙◌, arith}
use Rattle.std.specs.Prelude.{Result, IsTrue}
use Rattle.std.specs.List.{AllByRecursion}
use Rattle.source_defs.specs.Refusals.{Refusal, ◌>>=◌, at_line}
use Rattle.source_defs.specs.Lines.{line_texts}
use Rattle.source_defs.proofs.RefusalLaws.{bound}
use Rattle.expression_defs.specs.Symbols.{Names, look_up}
use Rattle.expression_defs.specs.Layout.{line_layout, assembled_lines}
use Rattle.base_defs.specs.declared.size.TheConstants.{GROM_SIZE}
use Rattle.gpl_defs.specs.Bytes.{bytes_of, rest_of}
use Rattle.gpl_defs.specs.Valid.{is_valid}
use Rattle.gpl_step_defs.specs.State.{GplState, start}
use Rattle.gpl_step_defs.specs.Run.{run}
use Rattle.gpl_source_defs.specs.declared.causes.GplCause.{GplCause}
use Rattle.gpl_source_defs.specs.declared.location.Location.{Location}
use Rattle.gpl_source_defs.specs.Skeletons.{Skeleton}
use Rattle.gpl_source_defs.specs.Statements.{Statement, Instruction, declared_size}
use Rattle.gpl_source_defs.specs.Locations.{Line, place}
use Rattle.gpl_source_defs.specs.FirstChecks.{check, names}
use Rattle.gpl_source_defs.specs.SecondChecks.{Outcome, Bytes, instruction, outcome}
use Rattle.gpl_source_defs.specs.Programs.{AssembledLine, Program, assembled_line, bytes_in, program_by, program_after}
use Rattle.gpl_source_defs.proofs.Sizes.{outcome_size}
use Rattle.gpl_list_defs.specs.Rows.{Row, address, outcome_bytes, placed_bytes, row_of, rows}
use Rattle.gpl_list_defs.specs.Listing.{assembled_listing, layout_listing, listing_of}
use Rattle.source_modules.proofs.Answers.{ok_has}
use Rattle.row_laws.specs.Laws.{RowIsIn, ShowsLine, ShowsLines, RowsStayInRuns}
use Rattle.row_laws.proofs.StillImage.{run_still}
use Rattle.row_laws.proofs.RowsInRuns.{row_shows, all_show, rows_are_in}
use Rattle.row_laws.proofs.ValidLines.{FitsStatement, instruction_valid, IsLaid, AreLaidOut, lines_laid, line_found}

-- the outcome of each of the lines
module _ (known : Names) where
  came : (later before lines : List Line) (line : Line) (found : List AssembledLine) → lines ≡ later ++ line ∷ before
      → assembled_lines (assembled_line known) lines ≡ Ok found → (some : Outcome) × (outcome (look_up known) (place before line) line.statement ≡ Ok some)
  came [] before lines line found is e =
      let a = bound (assembled_lines (assembled_line known) before) _ found (ap (assembled_lines (assembled_line known)) (sym is) ∙ e) in
      let b = bound (at_line line.number (assembled_line known before a.0 line)) _ found a.2 in
      let c = bound (outcome (look_up known) (place before line) line.statement) _ b.0
      (line_found line.number (assembled_line known before a.0 line) b.0 b.1) in
      (c.0, c.1)
  came (other ∷ later) before lines line found is e =
      let a = bound (assembled_lines (assembled_line known) (later ++ line ∷ before)) _ found (ap (assembled_lines (assembled_line known)) (sym is) ∙ e) in
      came later before (later ++ line ∷ before) line a.0 refl a.1

-- what is known of a line among others
laid_among : (later before : List Line) (line : Line) → AreLaidOut (later ++ line ∷ before) → IsLaid before line
laid_among [] before line are = are.0
laid_among (other ∷ later) before line are = laid_among later before line are.1

-- ---- rows among others

front_of : {A : Type 0} (P : A → Type 0) (first second : List A) → AllByRecursion P (first ++ second) → AllByRecursion P first
front_of P [] second all = tt
front_of P (item ∷ first) second all = (all.0, front_of P first second all.1)

last_of : {A : Type 0} (P : A → Type 0) (first : List A) (last : A) → AllByRecursion P (first ++ last ∷ []) → P last
last_of P [] last all = all.0
last_of P (item ∷ first) last all = last_of P first last all.1

row_among : (P : Row → Type 0) (known : Names) (texts : List (ℕ × List ℕ)) (later before : List Line) (line : Line)
    → AllByRecursion P (rows (placed_bytes known) texts (later ++ line ∷ before)) → P (row_of (placed_bytes known) texts before line)
row_among P known texts [] before line all = last_of P (rows (placed_bytes known) texts before) (row_of (placed_bytes known) texts before line) all
row_among P known texts (other ∷ later) before line all =
    row_among P known texts later before line
    (front_of P (rows (placed_bytes known) texts (later ++ line ∷ before)) (row_of (placed_bytes known) texts (later ++ line ∷ before) other ∷ []) all)

-- ---- an instruction at its place

-- a place at which a number of bytes end in its GROM
record HasRoom (at : Location) (size : ℕ) : Type 0 where
  aligned : at.grom % GROM_SIZE ≡ 0
  from : at.grom ≤ at.number
  ends : at.number + size ≤ at.grom + GROM_SIZE

room_of : (before : List Line) (line : Line) → IsLaid before line → HasRoom (place before line) (declared_size line.statement)
room_of before line is = record {
  aligned = is.aligned;
  from = omega (arith, is.from);
  ends = omega (arith, is.none, is.ends);
}

lies_in : (grom number size count : ℕ) → grom % 8192 ≡ 0 → grom ≤ number → number + size ≤ grom + 8192 → suc count ≤ size → number % 8192 + suc count ≤ 8192
lies_in grom number size count aligned from ends few = omega (arith, aligned, from, ends, few)

module _ (s : GplState) (known : Names) (at : Location) (skeleton : Skeleton) where
  abbrev statement : Statement
  statement = Instruction skeleton

  instruction_shows : (row : Row) (some : Outcome) → FitsStatement statement → HasRoom at (declared_size statement)
      → outcome (look_up known) at statement ≡ Ok some
      → row.bytes ≡ bytes_in some → row.at ≡ at.number → RowIsIn s.image row → ShowsLine s known at skeleton row
  unfolding outcome
  instruction_shows row some fits room e bytes there stands =
      let a = bound (instruction (look_up known) at skeleton) _ some e in
      let same : Bytes (bytes_of a.0) ≡ some = cc a.2 in
      let valid : IsTrue (is_valid a.0) = ok_has (λ instr. IsTrue (is_valid instr)) (instruction (look_up known) at skeleton) a.0 a.1
      (instruction_valid (look_up known) at skeleton fits) in
      let found : row.bytes ≡ bytes_of a.0 = bytes ∙ sym (ap bytes_in same) in
      let few = outcome_size (look_up known) at statement some e in
      let count : length row.bytes ≡ length (bytes_in some) = ap length bytes in
      let one : length row.bytes ≡ length (bytes_of a.0) = ap length found in
      let less : length (bytes_of a.0) ≤ declared_size statement = omega (arith, few, count, one) in
      let within = lies_in at.grom at.number (declared_size statement) (length (rest_of a.0)) room.aligned room.from room.ends less in
      let lies : row.at % GROM_SIZE + length row.bytes ≤ GROM_SIZE =
      subst (λ number. number % GROM_SIZE + length row.bytes ≤ GROM_SIZE) (sym there)
      (subst (λ count. at.number % GROM_SIZE + count ≤ GROM_SIZE) (sym one) within) in
      record {
        instr = a.0;
        assembled = a.1;
        valid = valid;
        bytes = found;
        lies = lies;
        shows = λ address begins. row_shows s row stands a.0 found valid (record { begins = address; ends = lies }) begins;
      }

-- the row of a line with an instruction
line_shows : (s : GplState) (known : Names) (texts : List (ℕ × List ℕ)) (before : List Line) (line : Line) (skeleton : Skeleton) (some : Outcome)
    → line.statement ≡ Instruction skeleton → IsLaid before line → outcome (look_up known) (place before line) line.statement ≡ Ok some
    → RowIsIn s.image (row_of (placed_bytes known) texts before line)
    → ShowsLine s known (place before line) skeleton (row_of (placed_bytes known) texts before line)
line_shows s known texts before line skeleton some is line_layout e stands =
    let at = place before line in
    let row = row_of (placed_bytes known) texts before line in
    instruction_shows s known at skeleton row some (subst FitsStatement is line_layout.fits)
    (subst (λ statement. HasRoom at (declared_size statement)) is (room_of before line line_layout))
    (subst (λ statement. outcome (look_up known) at statement ≡ Ok some) is e)
    (ap outcome_bytes e)
    (ap (λ statement. address at statement) is) stands

-- ---- the lines of a source

module _ (source : List ℕ) (s : GplState) where
  abbrev texts : List (ℕ × List ℕ)
  texts = line_texts source

  lines_show : (lines : List Line) (found : List AssembledLine) → line_layout check texts ≡ Ok lines
      → assembled_lines (assembled_line (names lines)) lines ≡ Ok found
      → (listing_of source).rows ≡ rows (placed_bytes (names lines)) texts lines
      → AllByRecursion (RowIsIn s.image) (listing_of source).rows → ShowsLines source s
  lines_show lines found line_layout e is are_bytes_at = record {
    lines = lines;
    line_layout = line_layout;
    rows = is;
    each = λ later before line skeleton split says.
        let some = came (names lines) later before lines line found split e in
        let are = laid_among later before line (subst AreLaidOut split (lines_laid texts lines line_layout)) in
        let all : AllByRecursion (RowIsIn s.image) (rows (placed_bytes (names lines)) texts (later ++ line ∷ before)) =
        subst (λ all. AllByRecursion (RowIsIn s.image) (rows (placed_bytes (names lines)) texts all)) split
        (subst (AllByRecursion (RowIsIn s.image)) is are_bytes_at) in
        line_shows s (names lines) texts before line skeleton some.0 says are some.1 (row_among (RowIsIn s.image) (names lines) texts later before line all);
  }

  assembled_show : (lines : List Line) (program : Program) (answer : Result (List AssembledLine) (Refusal GplCause)) → line_layout check texts ≡ Ok lines
      → assembled_lines (assembled_line (names lines)) lines ≡ answer → (answer >>= λ found. Ok (program_by lines found)) ≡ Ok program
      → AllByRecursion (RowIsIn s.image) (listing_of source).rows → ShowsLines source s
  assembled_show lines program (Err refused) line_layout e made are_bytes_at = cc made
  assembled_show lines program (Ok found) line_layout e made are_bytes_at =
      let is : listing_of source ≡ assembled_listing texts lines (Ok found) = ap (layout_listing texts) line_layout ∙ ap (assembled_listing texts lines) e in
      lines_show lines found line_layout e (ap (λ listing. listing.rows) is) are_bytes_at

  source_shows : (answer : Result (List Line) (Refusal GplCause)) (program : Program) → line_layout check texts ≡ answer
      → (answer >>= program_after) ≡ Ok program
      → AllByRecursion (RowIsIn s.image) (listing_of source).rows → ShowsLines source s
  source_shows (Err refused) program line_layout made are_bytes_at = cc made
  source_shows (Ok lines) program line_layout made are_bytes_at =
      assembled_show lines program (assembled_lines (assembled_line (names lines)) lines) line_layout refl made are_bytes_at

pub rows_stay_in_runs : RowsStayInRuns
rows_stay_in_runs =
    record {
      image = λ s made. run_still made s;
      rows = rows_are_in;
      shows = λ source program bytes entry made is are.
          all_show (run made (start bytes entry)).last (listing_of source).rows (rows_are_in source program bytes entry made is are);
      lines = λ source program bytes entry made is are.
          source_shows source (run made (start bytes entry)).last (line_layout check (line_texts source)) program refl is
          (rows_are_in source program bytes entry made is are);
    }
