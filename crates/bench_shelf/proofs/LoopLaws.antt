-- Lines of a file that are taken one after the other.
use Rattle.std.proofs.Common.{rules, ◌≡◌, ℕ, ◌+◌, ◌*◌, ◌≤◌, List, [], ◌∷◌, ◌++◌, Some, None, length, refl, sym, ap, subst, arith}
use Rattle.std.specs.Prelude.{Option}
use Rattle.shelf_defs.specs.CopyLines.{LineKind, Itself, asked}
use Rattle.shelf_defs.specs.Files.{Contents}
use Rattle.shelf_defs.specs.Copied.{Place, Copied, copy_line, lines_in, own_line, asked_line, one_line, most_bytes, most_copies}
use Rattle.asm_core.specs.Building.{IsOpen}
use Rattle.asm_checks.specs.declared.failure.Failure.{Failure}
use Rattle.asm_checks.specs.declared.failure.Failure.TheVariants as failure
use Rattle.bench_shelf.specs.declared.place.Place.{Place as KeptPlace}
use Rattle.bench_shelf.specs.CopyAnswers.{failed_at}
use Rattle.bench_shelf.specs.States.{ShelfState}
use Rattle.bench_shelf.specs.declared.copying.Copying.{Copying}
use Rattle.bench_shelf.specs.declared.copy_error.CopyError.{CopyError}
use Rattle.source_defs.specs.declared.text.Line.{Line as TextLine}
use Rattle.source_defs.specs.Lines.{lines, part}
use Rattle.expression_defs.proofs.LayoutLaws.{texts_of}
use Rattle.shelf_defs.specs.Questions.{Question, Agrees}
use Rattle.bench_shelf.specs.Leading.{CopiesTo, IsHeld, HasRoom, Grows, count, AllGiven, EndsBy, Asking, Copies}
use Rattle.bench_shelf.specs.Causes.{CountsGrew}
use Rattle.bench_shelf.proofs.CountLaws.{few_lines}
use Rattle.bench_shelf.proofs.LeadingLaws.{leads_none, leads_then, leads_ended, leads_refused}
use Rattle.bench_shelf.proofs.AskingLaws.{agrees_front, agrees_back, all_given, asking_none, asking_then, ends_then}

abbrev pub Numbered : Type 0
Numbered = List (ℕ × List ℕ)

-- the outcomes of lines of a file, by contents
abbrev pub lines_by : ℕ → Option (List ℕ) → ℕ → Numbered → Contents → Copied
lines_by levels file copies lines contents = lines_in (copy_line contents levels) file copies lines

abbrev pub line_by : ℕ → Place → ℕ → List ℕ → Contents → Copied
line_by levels place copies text contents = one_line (copy_line contents levels) place copies text

-- a line that stands for itself asks for no file, and leads to what it leads to as any line
pub own_copies : (levels : ℕ) (s : ShelfState) (old new : Copying) (place : Place) (text : List ℕ) (error : Option CopyError) → asked text ≡ Itself
    → new.copies ≡ old.copies → EndsBy error [] → CopiesTo old (own_line place old.copies text) error new → Copies old new (line_by levels place old.copies text) error s s
own_copies levels s old new place text error own same ends leads = record {
  questions = [];
  asking = asking_none old new (line_by levels place old.copies text) s same;
  ends = ends;
  leads = λ contents agrees. subst (λ request. CopiesTo old (asked_line (copy_line contents levels) request place old.copies text) error new) (sym own) leads;
}

-- the outcome of a line by what it asks for
pub asked_copies : (levels : ℕ) (s t : ShelfState) (old new : Copying) (place : Place) (text : List ℕ) (request : LineKind) (error : Option CopyError) → request ≡ asked text
    → Copies old new (λ contents. asked_line (copy_line contents levels) request place old.copies text) error s t
    → Copies old new (line_by levels place old.copies text) error s t
asked_copies levels s t old new place text request error is copies =
    subst (λ request. Copies old new (λ contents. asked_line (copy_line contents levels) request place old.copies text) error s t) is copies

no_fault : (at : KeptPlace) (failure : Failure) → EndsBy (Some (failed_at at failure)) []
no_fault at (failure.Refused cause) = tt
no_fault at failure.Memory = tt

-- such a line is refused
pub own_refuses : (levels : ℕ) (s : ShelfState) (old new : Copying) (place : Place) (text : List ℕ) (at : KeptPlace) (failure : Failure) (error : CopyError)
    → failed_at at failure ≡ error → asked text ≡ Itself → new.copies ≡ old.copies → CopiesTo old (own_line place old.copies text) (Some (failed_at at failure)) new
    → Copies old new (line_by levels place old.copies text) (Some error) s s
own_refuses levels s old new place text at failure error is own same leads =
    subst (λ error. Copies old new (line_by levels place old.copies text) (Some error) s s) is
    (own_copies levels s old new place text (Some (failed_at at failure)) own same (no_fault at failure) leads)

-- lines were taken, so that what the lines that are left lead to, all lines lead to
pub record Follows (levels : ℕ) (file : Option (List ℕ)) (old : Copying) (all : Numbered) (now : Copying) (left : Numbered) (a b : ShelfState)
    : Type 0 where
  pub questions : List Question
  pub asking : Asking old now (lines_by levels file old.copies all) questions a b
  pub given : AllGiven questions
  pub leads : (contents : Contents) → Agrees most_bytes contents old.copies questions → (error : Option CopyError) (last : Copying)
      → CopiesTo now (lines_by levels file now.copies left contents) error last → CopiesTo old (lines_by levels file old.copies all contents) error last

-- the place of a line
abbrev pub line_place : Option (List ℕ) → ℕ → Place
line_place file number = record { file = file; line = number }

pub follows_first : (levels : ℕ) (file : Option (List ℕ)) (a b : ShelfState) (old : Copying) (all left : Numbered) → left ≡ all → b ≡ a
    → Follows levels file old all old left a b
follows_first levels file a b old all left is same = rw (is, same) (record {
  questions = [];
  asking = asking_none old old (lines_by levels file old.copies all) a refl;
  given = tt;
  leads = λ contents agrees error last leads. leads;
})

module _ {levels : ℕ} {file : Option (List ℕ)} {old now : Copying} {all left : Numbered} {a b : ShelfState} (follows : Follows levels file old all now left a b) where
  -- none is left
  pub all_taken : left ≡ [] → IsOpen now.builder → Copies old now (lines_by levels file old.copies all) None a b
  all_taken none going = record {
    questions = follows.questions;
    asking = follows.asking;
    ends = follows.given;
    leads = λ contents agrees. follows.leads contents agrees None now
        (subst (λ lines. CopiesTo now (lines_by levels file now.copies lines contents) None now) (sym none) (leads_none now going));
  }

  module _ {rest : Numbered} {number : ℕ} {text : List ℕ} (first : left ≡ (number, text) ∷ rest) where
    abbrev line : Contents → Copied
    line = line_by levels (line_place file number) now.copies text

    abbrev next : Contents → ℕ → Copied
    next contents copies = lines_by levels file copies rest contents

    from_first : (contents : Contents) → Agrees most_bytes contents old.copies follows.questions → (error : Option CopyError) (last : Copying)
        → CopiesTo now (lines_by levels file now.copies ((number, text) ∷ rest) contents) error last → CopiesTo old (lines_by levels file old.copies all contents) error last
    from_first contents agrees error last leads =
        follows.leads contents agrees error last (subst (λ lines. CopiesTo now (lines_by levels file now.copies lines contents) error last) (sym first) leads)

    module _ {mid : Copying} {c : ShelfState} where
      -- what is asked by the next line
      asking : (questions : List Question) → Asking now mid line questions b c → Asking old mid (lines_by levels file old.copies all) (follows.questions ++ questions) a c
      asking questions one =
          asking_then old now (lines_by levels file old.copies all) line follows.questions follows.asking.number
          (λ contents agrees error last leads. from_first contents agrees (Some error) last (leads_refused now last (line contents) (next contents) error leads))
          mid a b c questions follows.given follows.asking one

      -- what all lines lead to, by what the next one leads to
      goes_on : (error end : Option CopyError) (last : Copying) (contents : Contents) (one : Copies now mid line error b c)
          → Agrees most_bytes contents old.copies (follows.questions ++ one.questions)
          → (CopiesTo now (line contents) error mid → CopiesTo now (lines_by levels file now.copies ((number, text) ∷ rest) contents) end last)
          → CopiesTo old (lines_by levels file old.copies all contents) end last
      goes_on error end last contents one agrees more =
          from_first contents (agrees_front most_bytes contents old.copies follows.questions one.questions agrees) end last
          (more (one.leads contents (rw follows.asking.number (agrees_back most_bytes contents old.copies follows.questions one.questions agrees))))

      pub follows_more : IsOpen mid.builder → Copies now mid line None b c → Follows levels file old all mid rest a c
      follows_more going one = record {
        questions = follows.questions ++ one.questions;
        asking = asking one.questions one.asking;
        given = all_given follows.questions one.questions follows.given one.ends;
        leads = λ contents agrees error last more.
            goes_on None error last contents one agrees (λ leads. leads_then now mid last (line contents) (next contents) error going leads more);
      }

      -- the next line is the last
      ends : (error : Option CopyError) (one : Copies now mid line error b c) → EndsBy error (follows.questions ++ one.questions)
          → ((contents : Contents) → CopiesTo now (line contents) error mid → CopiesTo now (lines_by levels file now.copies ((number, text) ∷ rest) contents) error mid)
          → Copies old mid (lines_by levels file old.copies all) error a c
      ends error one given more = record {
        questions = follows.questions ++ one.questions;
        asking = asking one.questions one.asking;
        ends = given;
        leads = λ contents agrees. goes_on error error mid contents one agrees (more contents);
      }

      pub follows_end : (IsOpen mid.builder → ⊥) → Copies now mid line None b c → Copies old mid (lines_by levels file old.copies all) None a c
      follows_end closed one =
          ends None one (all_given follows.questions one.questions follows.given one.ends)
          (λ contents. leads_ended now mid (line contents) (next contents) closed)

      pub follows_refused : (error : CopyError) → Copies now mid line (Some error) b c → Copies old mid (lines_by levels file old.copies all) (Some error) a c
      follows_refused error one =
          ends (Some error) one (ends_then error follows.questions one.questions one.ends)
          (λ contents. leads_refused now mid (line contents) (next contents) error)

-- the text of the first of some lines, and of the others
pub first_text : (text : List ℕ) {left rest : List TextLine} {line : TextLine} {own : List ℕ} → left ≡ line ∷ rest → own ≡ part text line.span
    → texts_of text left ≡ (line.number, own) ∷ texts_of text rest
first_text text steps is = rw (steps, is) refl

-- what is later than a later shelf
pub later_then : (a b c : ShelfState) → CountsGrew a b → CountsGrew b c → CountsGrew a c
later_then a b c first then = grind (arith, first, then)

-- the lines that were taken so far, and those that are left of a text
pub record Counts (text : List ℕ) (old now : Copying) (left : List TextLine) : Type 0 where
  pub held : IsHeld now
  pub copies : old.copies ≤ now.copies
  pub few : count now + length left + most_bytes * old.copies ≤ count old + length text + most_bytes * now.copies

pub counts_first : (text : List ℕ) (old : Copying) (left : List TextLine) → HasRoom (length text) old → left ≡ lines text → Counts text old old left
counts_first text old left room is = record { held = room.held; copies = omega arith; few = omega (arith, few_lines text, ap length is) }

pub room_left : (text : List ℕ) (old now : Copying) (left rest : List TextLine) (line : TextLine) → HasRoom (length text) old
    → Counts text old now left → now.copies ≤ most_copies → left ≡ line ∷ rest → HasRoom 1 now
room_left text old now left rest line room counts most is =
    record { held = counts.held; copies = most; room = omega (arith, room.room, counts.few, counts.copies, most, ap length is) }

pub counts_more : (text : List ℕ) (old now mid : Copying) (left rest : List TextLine) (line : TextLine) → Counts text old now left → left ≡ line ∷ rest
    → Grows 1 now mid → Counts text old mid rest
counts_more text old now mid left rest line counts is grows =
    record { held = grows.held; copies = omega (arith, counts.copies, grows.copies); few = omega (arith, counts.few, grows.few, grows.copies, ap length is) }

pub counts_grow : (text : List ℕ) (old now : Copying) (left : List TextLine) → Counts text old now left → Grows (length text) old now
counts_grow text old now left counts = record { held = counts.held; copies = counts.copies; few = omega (arith, counts.few) }

pub later_first : (a : ShelfState) → CountsGrew a a
later_first a = search rules
