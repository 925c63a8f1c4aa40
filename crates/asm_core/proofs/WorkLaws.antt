-- A builder with one line more.
use Rattle.std.proofs.Common.{◌≡◌, ◌+◌, ◌++◌, List, length, ℕ, Ok, Err, true, false, Some, None, refl, sym, ap, subst, ◌∙◌, append-nil}
use Rattle.std.specs.Prelude.{Result, Option, OnOk, IsErrAnd, is_some}
use Rattle.std.proofs.Common.{Vec, Global}
use Rattle.asm_defs.specs.declared.causes.AsmCause.TheVariants.{DuplicateLabel}
use Rattle.asm_defs.specs.FirstChecks.{any_known, label_in, defs_in, refs_in, check}
use Rattle.asm_checks.specs.Answers.{Causes}
use Rattle.asm_checks.specs.declared.failure.Failure.{Failure}
use Rattle.asm_checks.specs.declared.failure.Failure.TheVariants as failure
use Rattle.expression_defs.specs.Symbols.{Names}
use Rattle.expression_defs.specs.Growing.{Grows}
use Rattle.asm_defs.specs.declared.location.Location.{Location}
use Rattle.asm_defs.specs.Locations.{Line, after}
use Rattle.asm_defs.specs.Memory.{AssembledLine}
use Rattle.module_image.specs.declared.image.Image.{Image}
use Rattle.asm_checks.specs.Defined.{model_of_statement}
use Rattle.asm_checks.specs.declared.first_checks.Checked.{Checked}
use Rattle.asm_core.specs.declared.first_pass.Emitted.{Emitted}
use Rattle.asm_core.specs.declared.pending.Refused.{Refused}
use Rattle.asm_core.specs.declared.pending.Pending.{Pending}
use Rattle.asm_core.specs.declared.lines.AsmLines.{AsmLines}
use Rattle.asm_core.specs.Assembling.{AssemblesBy}
use Rattle.asm_core.specs.declared.error.AsmError.{AsmError}
use Rattle.asm_core.specs.declared.error.AsmError.TheVariants.{Memory}
use Rattle.asm_core.specs.declared.taken.TakenLine.{TakenLine}
use Rattle.asm_core.specs.Building.{IsWorked, ImageOf, IsGoing, IsAfter, Takes, refusal_at}
use Rattle.asm_core.specs.Keeping.{names_with, KnowsLabel, Keeps, IsUnchanged, SameWork, KeepsRest}
use Rattle.asm_core.specs.Emitting.{SameLines, SameKnown, Emits}
use Rattle.asm_core.specs.Adding.{Adds, IsAsBefore, WorksIn}
use Rattle.asm_core.proofs.WorkedLaws.{worked_stopped, emits_worked}

-- a builder by what it works in
pub works_same : (lines : List Line) (old new : AsmLines) → new.symbols ≡ old.symbols → new.image ≡ old.image → new.waiting.items ≡ old.waiting.items
    → new.refused ≡ old.refused → WorksIn lines old → WorksIn lines new
works_same lines old new names image waiting refused works = rw (names, image, waiting, refused) works

kept_by : (old : AsmLines) (text : List ℕ) (checked : Checked) (new : AsmLines) → is_some old.refused ≡ true → SameWork old new → Keeps old None checked new
    → Adds old text checked new
kept_by old text checked new some same keeps = record {
  defs = keeps.defs;
  refs = keeps.refs;
  names = keeps.names;
  worked = λ lines line next works.
      worked_stopped old.symbols new.symbols keeps.grows lines line old.refused new.refused old.image new.image old.waiting.items new.waiting.items some
      same.refused
      (keeps.waits ∙ append-nil old.waiting.items) works;
}

pub kept_stopped : {A E : Type 0} (old : AsmLines) (text : List ℕ) (checked : Checked) (new : AsmLines) (result : Result A E) → is_some old.refused ≡ true
    → SameWork old new
    → OnOk result (Keeps old None checked new) → OnOk result (Adds old text checked new)
kept_stopped old text checked new (Ok value) some same keeps = kept_by old text checked new some same keeps
kept_stopped old text checked new (Err error) some same keeps = tt

-- the image is ready, and nothing else has changed
going_by : (lines : List Line) (names : Names) (image image' : Option Image) (waiting : List Pending)
    → ((founds : List AssembledLine) → ImageOf founds image → ImageOf founds image')
    → IsGoing lines names image waiting → IsGoing lines names image' waiting
going_by lines names image image' waiting made is = record {
  order = is.order;
  founds = is.founds;
  all = is.all;
  known = is.known;
  resolved = is.resolved;
  image = made _ is.image;
}

worked_by : (lines : List Line) (names : Names) (image image' : Option Image) (waiting : List Pending) (refused : Option Refused)
    → ((founds : List AssembledLine) → ImageOf founds image → ImageOf founds image') → IsWorked lines names image waiting refused
    → IsWorked lines names image' waiting refused
worked_by lines names image image' waiting None made is = going_by lines names image image' waiting made is
worked_by lines names image image' waiting (Some refused) made is = is

pub prepared : (old new : AsmLines) → SameLines old new → ((founds : List AssembledLine) → ImageOf founds old.image → ImageOf founds new.image) → IsAsBefore old new
prepared old new same made = record {
  names = same.known.names;
  worked = λ lines works.
      let ready = worked_by lines old.symbols old.image new.image old.waiting.items old.refused made works in
      rw (same.known.names.symbols, ap (λ (waiting : Vec Pending Global). waiting.items) same.waiting, same.refused) ready;
}

pub unkept : (old between new : AsmLines) → IsAsBefore old between → IsUnchanged between new → SameWork between new → IsAsBefore old new
unkept old between new before same work = record {
  names = record {
    defs = same.lists.defs ∙ before.names.defs;
    refs = same.lists.refs ∙ before.names.refs;
    symbols = same.names ∙ before.names.symbols;
  };
  worked = λ lines works. works_same lines between new same.names work.image same.lists.waits work.refused (before.worked lines works);
}

-- a line of which nothing was added
pub still_after : (lines : List Line) (old new : AsmLines) → IsAsBefore old new → KeepsRest old new → IsAfter lines old → IsAfter lines new
still_after lines old new before still is = record {
  names = before.names.symbols ∙ is.names;
  location = still.location ∙ is.location;
  reached = still.reached ∙ is.reached;
  title = still.title ∙ is.title;
  defs = before.names.defs ∙ is.defs;
  refs = before.names.refs ∙ is.refs;
  taken = still.taken ∙ is.taken;
  ended = still.ended ∙ is.ended;
  worked = before.worked lines is.worked;
}

pub takes_none : (lines : List Line) (text : List ℕ) (result : Result TakenLine AsmError) (new : AsmLines)
    → IsErrAnd result (λ (error : AsmError). error ≡ Memory)
    → IsAfter lines new → Takes lines text result new
takes_none lines text (Ok value) new wants is = absurd wants
takes_none lines text (Err error) new wants is = subst (λ (error : AsmError). Takes lines text (Err error) new) (sym wants) is

-- a line whose label stands for something already, or memory ran out
pub takes_failed : (lines : List Line) (text : List ℕ) (names : Names) (label : Option (List ℕ)) (failure : Failure) (new : AsmLines)
    → KnowsLabel names label failure → (any_known names (label_in label) ≡ true → check lines (length lines + 1) text ≡ Err DuplicateLabel)
    → new.taken ≡ length lines → IsAfter lines new → Takes lines text (Err (refusal_at (new.taken + 1) failure)) new
takes_failed lines text names label failure.Memory new knows known count is = is
takes_failed lines text names label (failure.Refused cause) new knows known count is = (
  ap (λ taken. taken + 1) count,
  subst (λ cause. Causes cause (check lines (length lines + 1) text)) (sym knows.0) (known knows.1),
  is,
)

none_is : (refused : Option Refused) → is_some refused ≡ false → refused ≡ None
none_is None none = refl
none_is (Some refused) none = cc none

going_is : (lines : List Line) (names : Names) (image : Option Image) (waiting : List Pending) (refused : Option Refused) → is_some refused ≡ false
    → IsWorked lines names image waiting refused → IsGoing lines names image waiting
going_is lines names image waiting None none is = is
going_is lines names image waiting (Some refused) none is = cc none

pub worked : (old ready kept new : AsmLines) (text : List ℕ) (checked : Checked) (waiting : Option Pending) (emitted : Emitted) (at : Location)
    → is_some old.refused ≡ false
    → SameLines old ready → ((founds : List AssembledLine) → ImageOf founds old.image → ImageOf founds ready.image) → at ≡ after ready.location checked.moved.gap
    → AssemblesBy ready.symbols (ready.taken + 1) at text (model_of_statement checked.parsed.statement) waiting emitted → Keeps ready waiting checked kept
    → SameWork ready kept
    → KeepsRest ready kept → SameKnown kept new → Emits kept at emitted (is_some waiting) new → Adds old text checked new
worked old ready kept new text checked waiting emitted at none same made is_at assembles keeps work still known emits = record {
  defs = known.names.defs ∙ (keeps.defs ∙ ap (λ (names : List (List ℕ)). names ++ defs_in (model_of_statement checked.parsed.statement)) same.known.names.defs);
  refs = known.names.refs ∙ (keeps.refs ∙ ap (λ (names : List (List ℕ)). names ++ refs_in (model_of_statement checked.parsed.statement)) same.known.names.refs);
  names = known.names.symbols ∙ (keeps.names ∙ ap (λ (names : Names). names_with names checked) same.known.names.symbols);
  worked = λ lines line next works.
      let going = going_is lines old.symbols old.image old.waiting.items old.refused none works in
      let going_on = going_by lines old.symbols old.image ready.image old.waiting.items made going in
      let begun : IsGoing lines ready.symbols ready.image ready.waiting.items =
      rw (same.known.names.symbols, ap (λ (waiting : Vec Pending Global). waiting.items) same.waiting) going_on in
      emits_worked ready.symbols new.symbols (subst (Grows ready.symbols) (sym known.names.symbols) keeps.grows) lines line ready.image ready.waiting.items
      begun
      kept new at text (is_at ∙ (ap (λ (from : Location). after from checked.moved.gap) same.known.still.location ∙ next.at)) next.parsed
      (ap (λ taken. taken + 1) (still.taken ∙ same.known.still.taken) ∙ next.number) work.image (work.refused ∙ (same.refused ∙ none_is old.refused none))
      (model_of_statement checked.parsed.statement) next.statement (ready.taken + 1) (ap (λ taken. taken + 1) same.known.still.taken ∙ next.number)
      waiting emitted assembles keeps.waits emits;
}
