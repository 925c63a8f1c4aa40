-- The module of the lines that were taken.
use Rattle.std.proofs.Common.{◌≡◌, ◌≤◌, ℕ, ◌+◌, List, [], Some, None, Ok, Err, length, refl, sym, ap, ◌∙◌, subst, arith}
use Rattle.std.specs.Prelude.{Option, Result, IfErr}
use Rattle.source_defs.specs.Refusals.{Refusal, ◌>>=◌}
use Rattle.source_defs.specs.Lines.{numbered, line_texts}
use Rattle.expression_defs.specs.Layout.{line_layout}
use Rattle.object_defs.specs.Modules as object
use Rattle.object_tags.specs.Seen.{model_of_module}
use Rattle.object_tags.specs.declared.parts.Module.{Module}
use Rattle.asm_defs.specs.declared.causes.AsmCause.{AsmCause}
use Rattle.asm_defs.specs.Locations.{Line}
use Rattle.asm_defs.specs.FirstChecks.{check}
use Rattle.asm_defs.specs.Modules.{module_after, module_of_lines}
use Rattle.shelf_defs.specs.Files.{Contents}
use Rattle.shelf_defs.specs.Copied.{most_bytes, most_copies, copy_line, copied_by, PlacedLine, CopyRefusal, Ending, Refused, Copied, lines_in}
use Rattle.shelf_defs.specs.Assembly.{texts, in_place, unless_refused, layout_copied, module_of_copied, module_by}
use Rattle.asm_core.proofs.EndedLines.{lines_make_texts}
use Rattle.asm_core.specs.declared.lines.AsmLines.{AsmLines}
use Rattle.bench_shelf.specs.declared.copying.Copying.{Copying}
use Rattle.bench_shelf.specs.declared.copy_error.CopyError.{CopyError}
use Rattle.bench_shelf.specs.declared.copy_error.CopyError.TheVariants.{At, Fault}
use Rattle.bench_shelf.specs.declared.copy_error.CopyCause.TheVariants.{Missing}
use Rattle.bench_shelf.specs.States.{ShelfState}
use Rattle.bench_shelf.specs.Causes.{IsOfLine}
use Rattle.bench_shelf.specs.CopyAnswers.{GivesCopied, CopyRefuses}
use Rattle.bench_shelf.specs.Leading.{Holds, EndsAs, GoesOn, IsNextAfter, EndsBy, Copies}
use Rattle.shelf_defs.specs.Questions.{Question, Agrees, IsNextCopied}
use Rattle.bench_shelf.specs.Answered.{Answered, GivesBy}
use Rattle.bench_shelf.specs.Dialogue.{CopyDialogue}
use Rattle.bench_shelf.proofs.LeadingLaws.{refuses_by}
use Rattle.bench_shelf.proofs.OneLines.{copied_one}
use Rattle.bench_shelf.proofs.AskingLaws.{turns_as}

abbrev contents : Result object.Module CopyRefusal → Result object.Module CopyRefusal → Type 0
contents a b = a ≡ b

-- none of the lines is refused
going_by : (ending : Ending) (lines : List Line) (all : List PlacedLine) (builder : AsmLines) → EndsAs ending builder
    → contents (in_place all (module_after lines)) (unless_refused ending lines >>= λ lines. in_place all (module_after lines))
going_by (Refused refusal) lines all builder ends = absurd ends
going_by _ lines all builder ends = refl

module_is : (found : Copied) (new : Copying) → GoesOn [] found new → contents (in_place found.lines (module_of_lines (texts found.lines))) (module_of_copied found)
module_is found new goes =
    rw goes.holds.taken.line_layout (going_by found.ending goes.holds.taken.lines found.lines new.builder goes.ending)

-- a module is that of the copied lines as one text
module_by_lines : (found : Copied) (answer : Result (List Line) (Refusal AsmCause)) (module_ : object.Module)
    → (in_place found.lines answer >>= unless_refused found.ending >>= λ lines. in_place found.lines (module_after lines)) ≡ Ok module_
    → (answer >>= module_after) ≡ Ok module_
module_by_lines found (Ok lines) module_ e = by_ending found.ending e
  where
    by_after : (answer : Result object.Module (Refusal AsmCause)) → contents (in_place found.lines answer) (Ok module_) → answer ≡ Ok module_
    by_after (Ok found_module) f = cc f
    by_after (Err refusal) f = cc f

    by_ending : (ending : Ending) → contents (unless_refused ending lines >>= λ lines. in_place found.lines (module_after lines)) (Ok module_)
        → module_after lines ≡ Ok module_
    by_ending (Refused refusal) f = cc f
    by_ending _ f = by_after (module_after lines) f
module_by_lines found (Err refusal) module_ e = cc e

abbrev pub whole_by : ℕ → List ℕ → Contents → Copied
whole_by copies source contents = lines_in (copy_line contents 4) None copies (line_texts source)

-- a refusal of a line is that of the module
refusal_by : (found : Copied) (error : CopyError) → CopyRefuses error (layout_copied found) → CopyRefuses error (module_of_copied found)
refusal_by found error refuses =
    refuses_by error (layout_copied found) (module_of_copied found)
    (λ refusal e. ap (λ answer. answer >>= λ lines. in_place found.lines (module_after lines)) e) refuses

pub agrees_first : (old : Copying) (contents : Contents) (questions : List Question) → old.copies ≡ 0 → Agrees most_bytes contents 0 questions → Agrees most_bytes contents old.copies questions
agrees_first old contents questions first agrees = subst (λ n. Agrees most_bytes contents n questions) (sym first) agrees

-- what a source asks for next, its lines do
next_asked : (old : Copying) (source : List ℕ) → Holds [] old → old.copies ≡ 0 → (front : List Question) (x : Question)
    → IsNextAfter old (whole_by old.copies source) front x → IsNextCopied source front x
next_asked old source none first front x (place, next) = (
  place,
  λ contents agrees missing.
      let at : length front ≡ old.copies + length front = omega (arith, first) in
      let here : CopyRefuses (At place.file place.line (Missing x.name)) (module_of_copied (whole_by old.copies source contents)) =
      refusal_by (whole_by old.copies source contents) (At place.file place.line (Missing x.name))
      ((next contents (agrees_first old contents front first agrees) (subst (λ n. contents n x.name ≡ None) at missing)).1 [] none).0 in
      (subst (λ copies. CopyRefuses (At place.file place.line (Missing x.name)) (module_of_copied (whole_by copies source contents))) first here).1,
)

module _ (source : List ℕ) (old new : Copying) (before after : ShelfState) (none : Holds [] old) (first : old.copies ≡ 0) (most : new.copies ≤ most_copies) where
  abbrev Found : Option CopyError → Type 0
  Found error = Copies old new (whole_by old.copies source) error before after

  asked_number : (error : Option CopyError) (found : Found error) → new.copies ≡ length found.questions
  asked_number error found = omega (arith, first, found.asking.number)

  pub dialogue : (error : Option CopyError) (found : Found error) → CopyDialogue before after source found.questions
  dialogue error found = record {
    turns = turns_as (IsNextAfter old (whole_by old.copies source)) (IsNextCopied source) (next_asked old source none first) [] found.questions found.asking.turns;
    few = omega (arith, asked_number error found, most);
    reads = found.asking.reads;
    files = found.asking.files;
  }

  -- none of the lines is refused: a module, or a refusal by the second checks
  pub answered_all : (answer : Result Module CopyError) → IfErr answer IsOfLine → Found None
      → ((done : List PlacedLine) → Holds done new → GivesCopied answer (in_place done (module_of_lines (texts done)))) → Answered before after source answer
  answered_all answer causes found gives = record {
    questions = found.questions;
    dialogue = dialogue None found;
    ends = no_fault answer causes;
    gives = λ contents agrees. by_answer answer contents (found.leads contents (agrees_first old contents found.questions first agrees) [] none) gives;
  }
    where
      no_fault : (answer : Result Module CopyError) → IfErr answer IsOfLine → IfErr answer (λ error. EndsBy (Some error) found.questions)
      no_fault (Err Fault) causes = absurd causes
      no_fault _ causes = tt

      by_answer : (answer : Result Module CopyError) (contents : Contents) → GoesOn [] (whole_by old.copies source contents) new
          → ((done : List PlacedLine) → Holds done new → GivesCopied answer (in_place done (module_of_lines (texts done)))) → GivesBy answer found.questions source contents
      by_answer answer contents goes gives = by_cases answer here
        where
          whole : Copied
          whole = whole_by old.copies source contents

          here : GivesCopied answer (module_by contents source)
          here =
              subst (λ copies. GivesCopied answer (module_of_copied (whole_by copies source contents))) first
              (subst (GivesCopied answer) (module_is (whole_by old.copies source contents) new goes) (gives (whole_by old.copies source contents).lines goes.holds))

          number : length found.questions ≡ (copied_by contents source).copies
          number =
              let all : new.copies ≡ (copied_by contents source).copies =
              goes.copies ∙ ap (λ copies. (whole_by copies source contents).copies) first in
              omega (arith, first, all, found.asking.number)

          by_cases : (answer : Result Module CopyError) → GivesCopied answer (module_by contents source) → GivesBy answer found.questions source contents
          by_cases (Err error) gives = gives
          by_cases (Ok module_) gives = (
            lines_make_texts (texts (copied_by contents source).lines) (copied_one contents source)
                ∙ module_by_lines (copied_by contents source) (line_layout check (numbered 1 (texts (copied_by contents source).lines))) (model_of_module module_) gives,
            number,
            gives,
          )

  -- a refusal before that
  pub answered_refused : (error : CopyError) → Found (Some error) → Answered before after source (Err error)
  answered_refused error found = record {
    questions = found.questions;
    dialogue = dialogue (Some error) found;
    ends = found.ends;
    gives = λ contents agrees.
        subst (λ copies. CopyRefuses error (module_of_copied (whole_by copies source contents))) first
        (refusal_by (whole_by old.copies source contents) error (found.leads contents (agrees_first old contents found.questions first agrees) [] none).0);
  }
