-- The lines of a source, of which some were passed.
use Rattle.std.proofs.Common.{◌≡◌, ℕ, suc, ◌+◌, ◌-◌, List, [], ◌∷◌, ◌++◌, true, false, ◌||◌, Ok, Err, length, take, refl, sym, ap, ◌∙◌, length-append, arith}
use Rattle.std.specs.Prelude.{◌==◌, if◌then◌else◌}
use Rattle.std.proofs.lemmas.Bool.Decides.{nat_tests}
use Rattle.source_defs.specs.declared.text.Line.{Line as TextLine}
use Rattle.source_defs.specs.Lines.{part, lines, numbered, line_texts}
use Rattle.source_defs.specs.Refusals.{◌>>=◌, at_line}
use Rattle.expression_defs.specs.Layout.{line_layout, layout_after, has_ended}
use Rattle.expression_defs.proofs.LayoutLaws.{texts_of, layout_more, goes_on, ends_there, refused_there, first_of_two, none_of_two}
use Rattle.gpl_source_defs.specs.declared.causes.GplCause.{GplCause}
use Rattle.gpl_source_defs.specs.Locations.{Line}
use Rattle.gpl_source_defs.specs.FirstChecks.{check}
use Rattle.gpl_asm.specs.declared.error.GplError.{GplError}
use Rattle.gpl_asm.specs.declared.error.GplError.TheVariants.{At, Memory}
use Rattle.gpl_asm.specs.declared.lines.GplLines.{GplLines}
use Rattle.gpl_asm.specs.Building.{IsAfter, HasAccepted}
use Rattle.gpl_list_defs.specs.Rows as spec
use Rattle.gpl_list.specs.declared.read.ReadLines.{ReadLines}
use Rattle.gpl_list.specs.Reading.{ReadsLine, ReadsLines}

-- ---- numbered lines

numbered_more : (from number : ℕ) (front : List (List ℕ)) (text : List ℕ) (rest : List (ℕ × List ℕ)) → number ≡ from + length front
    → numbered from (front ++ text ∷ []) ++ rest ≡ numbered from front ++ (number, text) ∷ rest
numbered_more from number [] text rest e =
    let same : from ≡ number = omega (arith, e) in
    ap (λ number. (number, text) ∷ rest) same
numbered_more from number (first ∷ front) text rest e = ap (λ others. (from, first) ∷ others)
    (numbered_more (from + 1) number front text rest (omega (arith, e)))

numbered_length : (from : ℕ) (front : List (List ℕ)) → length (numbered from front) ≡ length front
numbered_length from [] = refl
numbered_length from (first ∷ front) = ap suc (numbered_length (from + 1) front)

text_there : (from number : ℕ) (front : List (List ℕ)) (text : List ℕ) (rest : List (ℕ × List ℕ)) → number ≡ from + length front
    → spec.text_of (numbered from front ++ (number, text) ∷ rest) number ≡ text
text_there from number [] text rest e =
    let is : (number == number) ≡ true = grind (arith, nat_tests) in
    ap (λ b. if b then text else spec.text_of rest number) is
text_there from number (first ∷ front) text rest e =
    let other : (from == number) ≡ false = grind (arith, nat_tests, e) in
    ap (λ b. if b then first else spec.text_of (numbered (from + 1) front ++ (number, text) ∷ rest) number) other
    ∙ text_there (from + 1) number front text rest (omega (arith, e))

take_front : (front rest : List (ℕ × List ℕ)) (count : ℕ) → count ≡ length front → take count (front ++ rest) ≡ front
take_front [] rest count e = rw e refl
take_front (first ∷ front) rest count e = rw e (ap (λ others. first ∷ others) (take_front front rest (length front) refl))

-- ---- some lines were passed

pub record Passed (text : List ℕ) (lines : List Line) (left : List TextLine) : Type 0 where
  pub front : List (List ℕ)
  pub layout_is : line_layout check (numbered 1 front) ≡ Ok lines
  pub count : length lines ≡ length front
  pub all : line_texts text ≡ numbered 1 front ++ texts_of text left
  pub rest : layout_after check lines (texts_of text left) ≡ line_layout check (line_texts text)

pub passed_none : (text : List ℕ) → Passed text [] (lines text)
passed_none text = record { front = []; layout_is = refl; count = refl; all = refl; rest = refl }

module _ (text : List ℕ) (before : List Line) (line : TextLine) (next : List TextLine) (is : line.number ≡ length before + 1)
    (passed : Passed text before (line ∷ next)) where
  there_is : line.number ≡ 1 + length passed.front
  there_is = omega (arith, is, passed.count)

  pub text_is : spec.text_of (line_texts text) line.number ≡ part text line.span
  text_is =
      ap (λ texts. spec.text_of texts line.number) passed.all
      ∙ text_there 1 line.number passed.front (part text line.span) (texts_of text next) there_is

  pub layout_more_is : (found : Line) → check before (length before + 1) (part text line.span) ≡ Ok found → has_ended before ≡ false
      → line_layout check (numbered 1 (passed.front ++ part text line.span ∷ [])) ≡ Ok (found ∷ before)
  layout_more_is found e going =
      layout_more check (part text line.span) passed.front [] 1 (length before + 1) before (omega (arith, passed.count)) passed.layout_is going
      ∙ ap (λ answer. at_line (length before + 1) answer >>= λ line. Ok (line ∷ before)) e

  pub one_longer : length before + 1 ≡ length (passed.front ++ part text line.span ∷ [])
  one_longer = let count = passed.count in omega (arith, count, length-append passed.front (part text line.span ∷ []))

  abbrev pub has_taken : (found : Line) (builder : GplLines) → check before (length before + 1) (part text line.span) ≡ Ok found → has_ended before ≡ false
      → IsAfter (found ∷ before) builder → HasAccepted (passed.front ++ part text line.span ∷ []) builder
  has_taken found builder e going after_lines =
      record {
        lines = found ∷ before;
        line_layout = layout_more_is found e going;
        all = let longer = one_longer in omega (arith, longer);
        after_lines = after_lines;
      }

  pub passed_more : (found : Line) → check before (length before + 1) (part text line.span) ≡ Ok found → has_ended before ≡ false
      → (found.last || has_ended before) ≡ false → Passed text (found ∷ before) next
  passed_more found e going ended = record {
    front = passed.front ++ part text line.span ∷ [];
    layout_is = layout_more_is found e going;
    count = let longer = one_longer in omega (arith, longer);
    all = passed.all ∙ sym (numbered_more 1 line.number passed.front (part text line.span) (texts_of text next) there_is);
    rest = sym (goes_on check text before line next is found e (none_of_two found.last (has_ended before) ended)) ∙ passed.rest;
  }

  pub passed_end : (found : Line) → check before (length before + 1) (part text line.span) ≡ Ok found → has_ended before ≡ false
      → (found.last || has_ended before) ≡ true → line_layout check (line_texts text) ≡ Ok (found ∷ before)
  passed_end found e going ended =
      sym passed.rest ∙ ends_there check text before line next is found e (first_of_two found.last (has_ended before) ended going)

  pub passed_refused : (number : ℕ) (cause : GplCause) → number ≡ length before + 1 → check before (length before + 1) (part text line.span) ≡ Err cause
      → line_layout check (line_texts text) ≡ Err (record { line = number; cause = cause })
  passed_refused number cause at e =
      sym passed.rest ∙ (refused_there check text before line next is cause e ∙ ap (λ number. Err (record { line = number; cause = cause })) (sym at))

  pub front_is : (number : ℕ) → number ≡ length before + 1 → line_layout check (take (number - 1) (line_texts text)) ≡ Ok before
  front_is number at =
      let count : number - 1 ≡ length (numbered 1 passed.front) = omega (arith, at, passed.count, numbered_length 1 passed.front) in
      ap (λ texts. line_layout check (take (number - 1) texts)) passed.all
      ∙ (ap (line_layout check) (take_front (numbered 1 passed.front) (texts_of text (line ∷ next)) (number - 1) count) ∙ passed.layout_is)

  pub read_refused : (A B : Type 0) (error : GplError) (new : ReadLines) → ReadsLine {A = A} (line_texts text) before (part text line.span) (Err error) new
      → ReadsLines {A = B} (line_texts text) (Err error) new
  read_refused A B Memory new reads = tt
  read_refused A B (At number cause) new reads = (passed_refused number cause reads.0 reads.1, before, front_is number reads.0, reads.2)
