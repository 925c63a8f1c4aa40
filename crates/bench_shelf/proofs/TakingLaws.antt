-- A line that is taken after others.
use Rattle.std.proofs.Common.{◌≡◌, ℕ, ◌+◌, ◌-◌, Bool, true, false, ◌||◌, List, [], ◌∷◌, ◌++◌, None, Ok, Err, length, refl, sym, ap, ◌∙◌, arith, subst, inr}
use Rattle.std.proofs.Common.{Vec, Global}
use Rattle.std.specs.Prelude.{⊤, Result, if◌then◌else◌, Option, Some, map}
use Rattle.std.proofs.Math.Bool.{or-false}
use Rattle.std.proofs.Math.Seq.{get_or-append_seam}
use Rattle.std.proofs.lemmas.Option.{unwrap_or-slice_get}
use Rattle.std.proofs.lemmas.List.{length-map, map-append}
use Rattle.expression_defs.specs.declared.causes.ExprError.TheVariants as expr
use Rattle.source_defs.specs.Refusals.{Refusal, ◌>>=◌, at_line}
use Rattle.source_defs.specs.Lines.{numbered}
use Rattle.expression_defs.specs.Layout.{line_layout, has_ended}
use Rattle.expression_defs.proofs.LayoutLaws.{layout_more, last_line}
use Rattle.instruction_defs.specs.declared.causes.FormError.TheVariants as form
use Rattle.asm_defs.specs.declared.causes.AsmCause.{AsmCause}
use Rattle.asm_defs.specs.declared.causes.AsmCause.TheVariants as cause
use Rattle.expression_defs.specs.Symbols.{Names}
use Rattle.asm_defs.specs.Statements.{parse_line}
use Rattle.asm_defs.specs.Locations.{Line}
use Rattle.asm_defs.specs.Locations as locations
use Rattle.asm_defs.specs.FirstChecks.{check, checked, known_of, line_of}
use Rattle.asm_defs.proofs.CheckLaws.{bound, checked_parses}
use Rattle.shelf_defs.specs.CopyLines.{parses_as_end, ends_source}
use Rattle.shelf_defs.specs.Copied as spec
use Rattle.shelf_defs.specs.Copied.{Place, PlacedLine, Open, Ended, own_line, prepend}
use Rattle.shelf_defs.specs.Assembly.{texts, places, place_of, layout_copied}
use Rattle.asm_checks.specs.Answers.{Causes}
use Rattle.asm_core.specs.TakenLines.{names_in, DescribesLine}
use Rattle.asm_core.specs.declared.taken.TakenLine.{TakenLine}
use Rattle.asm_core.specs.Building.{HasAccepted, IsAfter, IsOpen, Takes}
use Rattle.asm_core.specs.Finishing.{RefusesAt}
use Rattle.asm_core.specs.declared.lines.AsmLines.{AsmLines}
use Rattle.asm_core.specs.declared.error.AsmError.TheVariants as asm
use Rattle.bench_shelf.specs.declared.place.Place.{Place as KeptPlace}
use Rattle.bench_shelf.specs.declared.run.Run.{Run}
use Rattle.bench_shelf.specs.declared.copying.Copying.{Copying}
use Rattle.bench_shelf.specs.declared.copy_error.CopyCause.TheVariants.{Asm}
use Rattle.bench_shelf.specs.CopyAnswers.{model_of_place, refused_at}
use Rattle.bench_shelf.specs.Runs.{places_of}
use Rattle.bench_shelf.specs.declared.kept_line.KeptLine.{KeptLine}
use Rattle.bench_shelf.specs.Kept.{model_of_kept, shown_by, shown_of, names_of, IsKept, KeepsLine}
use Rattle.asm_list_defs.specs.Listed as listed
use Rattle.bench_shelf.specs.Leading.{Holds, EndsAs, GoesOn, LeadsTo}

-- a refusal of the assembler is the definitions' own
pub refusal_is : {B : Type 0} (line : ℕ) (refused : AsmCause) (defined : Result B (Refusal AsmCause)) → RefusesAt (asm.At line refused) defined
    → Causes {B = ⊤} refused (Err refused) × (defined ≡ Err (record { line = line; cause = refused }))
refusal_is line (cause.Expr expr.Memory) defined refuses = absurd refuses
refusal_is line (cause.Form form.Memory) defined refuses = absurd refuses
refusal_is line (cause.Form (form.Expr expr.Memory)) defined refuses = absurd refuses
refusal_is line _ defined refuses = (refl, refuses)

-- what the first checks accept ends the source where it says so
last_is : (before : List Line) (number : ℕ) (text : List ℕ) (line : Line) → check before number text ≡ Ok line → line.last ≡ ends_source text
unfolding ends_source
last_is before number text line e =
    let a = bound (checked (known_of before) text) _ line e in
    let same : line_of number a.0 ≡ line = cc a.2 in
    sym (ap (λ (line : Line). line.last) same) ∙ sym (ap parses_as_end (checked_parses (known_of before) text a.0 a.1))

at_line_ok : {A : Type 0} (number : ℕ) (answer : Result A AsmCause) (found : A) → at_line number answer ≡ Ok found → answer ≡ Ok found
at_line_ok number (Ok value) found e = cc e
at_line_ok number (Err refused) found e = cc e

at_line_err : {A : Type 0} (number : ℕ) (answer : Result A AsmCause) (refusal : Refusal AsmCause) → at_line number answer ≡ Err refusal → refusal.line ≡ number
at_line_err number (Ok value) refusal e = cc e
at_line_err number (Err refused) refusal e = let same : record { line = number; cause = refused } ≡ refusal = cc e in sym (ap (λ (r : Refusal AsmCause). r.line) same)

err_came : {A B : Type 0} (answer : Result A (Refusal AsmCause)) (make : A → B) (refusal : Refusal AsmCause)
    → (answer >>= λ value. Ok (make value)) ≡ Err refusal → answer ≡ Err refusal
err_came (Ok value) make refusal e = cc e
err_came (Err found) make refusal e = cc e

module _ (done : List PlacedLine) (place : Place) (text : List ℕ) where
  abbrev more : List PlacedLine
  more = record { place = place; text = text } ∷ []

  abbrev all : List PlacedLine
  all = done ++ more

  texts_are : texts all ≡ texts done ++ text ∷ []
  texts_are = map-append (λ line. line.text) done more

  module _ (builder : AsmLines) (taken : HasAccepted (texts done) builder) (going : IsOpen builder) where
    still : has_ended taken.lines ≡ false
    still = sym taken.after_lines.ended ∙ going

    whole_is : line_layout check (numbered 1 (texts done ++ text ∷ [])) ≡ last_line check text taken.lines (1 + length (texts done))
    whole_is = layout_more check text (texts done) [] 1 (1 + length (texts done)) taken.lines refl taken.line_layout still

    -- the line was taken
    ends_by : (new : AsmLines) (b : Bool) → new.ended ≡ b → EndsAs (if b then Ended else Open) new
    ends_by new true is = λ still_open. (cc (is, still_open))
    ends_by new false is = is

    -- the lines after it
    pub lines_more : (new : AsmLines) (after : HasAccepted (texts done ++ text ∷ []) new) (line : Line)
        → check taken.lines (length taken.lines + 1) text ≡ Ok line → line ∷ taken.lines ≡ after.lines
    lines_more new after line is =
        let count : length taken.lines + 1 ≡ 1 + length (texts done) = omega (arith, taken.all) in
        let e : last_line check text taken.lines (1 + length (texts done)) ≡ Ok after.lines = sym whole_is ∙ after.line_layout in
        let found = ap (λ number. at_line number (check taken.lines number text) >>= λ line. Ok (line ∷ taken.lines)) count in
        let there = ap (λ answer. at_line (length taken.lines + 1) answer >>= λ line. Ok (line ∷ taken.lines)) is in
        cc (sym there ∙ (found ∙ e))

    pub taken_ends : (new : AsmLines) → HasAccepted (texts done ++ text ∷ []) new → EndsAs (if ends_source text then Ended else Open) new
    taken_ends new after =
        let e : last_line check text taken.lines (1 + length (texts done)) ≡ Ok after.lines = sym whole_is ∙ after.line_layout in
        let a = bound (at_line (1 + length (texts done)) (check taken.lines (1 + length (texts done)) text)) _ after.lines e in
        let found : check taken.lines (1 + length (texts done)) text ≡ Ok a.0 =
        at_line_ok (1 + length (texts done)) (check taken.lines (1 + length (texts done)) text) a.0 a.1 in
        let lines_are : a.0 ∷ taken.lines ≡ after.lines = cc a.2 in
        let last : has_ended after.lines ≡ ends_source text =
        sym (ap has_ended lines_are) ∙ (ap (λ b. a.0.last || b) still ∙ (or-false a.0.last ∙ last_is taken.lines _ text a.0 found)) in
        ends_by new (ends_source text) (after.after_lines.ended ∙ last)

    -- or it is refused
    pub refused_last : (refusal : Refusal AsmCause) → line_layout check (numbered 1 (texts done ++ text ∷ [])) ≡ Err refusal → refusal.line ≡ 1 + length (texts done)
    refused_last refusal e =
        at_line_err _ (check taken.lines (1 + length (texts done)) text) refusal (err_came _ (λ line. line ∷ taken.lines) refusal (sym whole_is ∙ e))

    size : length (texts done) ≡ length (places done)
    size = length-map done (λ line. line.text) ∙ sym (length-map done (λ line. line.place))

    last_place : place_of (places all) (1 + length (texts done)) ≡ place
    last_place =
        let at : 1 + length (texts done) - 1 ≡ length (places done) = omega (arith, size) in
        let none : Place = record { file = None; line = 1 + length (texts done) } in
        rw (unwrap_or-slice_get (places all) (1 + length (texts done) - 1) none, at, map-append (λ line. line.place) done more)
        (get_or-append_seam (places done) place [] none)

    layout_refused : (copies : ℕ) (refusal : Refusal AsmCause) → line_layout check (numbered 1 (texts done ++ text ∷ [])) ≡ Err refusal
        → layout_copied (prepend done (own_line place copies text)) ≡ Err (spec.At place (spec.Asm refusal.cause))
    layout_refused copies refusal e =
        rw (texts_are, e, refused_last refusal e, last_place) refl

-- the line is kept with the others
kept_more : (done : List PlacedLine) (lines : List Line) (line : Line) (place : KeptPlace) (text : List ℕ) (own : TakenLine) (old new : Option (Vec KeptLine Global))
    → DescribesLine lines text line own → IsKept done lines old → KeepsLine old place own text new
    → IsKept (done ++ record { place = model_of_place place; text = text } ∷ []) (line ∷ lines) new
kept_more done lines line place text own None None describes kept keeps = tt
kept_more done lines line place text own None (Some new) describes kept keeps = absurd keeps
kept_more done lines line place text own (Some old) None describes kept keeps = absurd keeps
kept_more done lines line place text own (Some old) (Some new) describes kept keeps = record {
  are = ap (map model_of_kept) keeps.are
      ∙ (map-append model_of_kept old.items (keeps.line ∷ [])
      ∙ (ap (λ (front : List PlacedLine). front ++ model_of_kept keeps.line ∷ []) kept.are ∙ ap (λ (line : PlacedLine). done ++ line ∷ []) keeps.is));
  shown = λ known.
      ap (map (shown_of known)) keeps.are
      ∙ (map-append (shown_of known) old.items (keeps.line ∷ [])
      ∙ (ap (λ front. front ++ shown_of known keeps.line ∷ []) (kept.shown known)
      ∙ ap (λ one. listed.shown known lines ++ one ∷ []) (shown_is known)));
  names = ap (map names_of) keeps.are
      ∙ (map-append names_of old.items (keeps.line ∷ [])
      ∙ (ap (λ front. front ++ names_of keeps.line ∷ []) kept.names
      ∙ ap (λ one. listed.defined lines ++ one ∷ []) (ap names_in keeps.taken ∙ sym describes.names)));
}
  where
    shown_is : (known : Option Names) → shown_of known keeps.line ≡ listed.shown_at known (locations.place lines line) line.origin line.statement
    shown_is known =
        ap (λ (taken : TakenLine). shown_by known taken.at taken.origin (parse_line keeps.line.text.items)) keeps.taken
        ∙ (ap (λ at. shown_by known at own.origin (parse_line keeps.line.text.items)) describes.at
        ∙ (ap (λ origin. shown_by known (locations.place lines line) origin (parse_line keeps.line.text.items)) describes.origin
        ∙ ap (shown_by known (locations.place lines line) line.origin) (ap (λ (line : PlacedLine). parse_line line.text) keeps.is ∙ describes.parsed)))

-- a line that stands for itself and is taken
pub own_taken : (old new : Copying) (place : KeptPlace) (text : List ℕ) (done : List PlacedLine) → IsOpen old.builder → Holds done old
    → HasAccepted (texts done ++ text ∷ []) new.builder → places_of new.runs.items ≡ places_of old.runs.items ++ model_of_place place ∷ [] → new.copies ≡ old.copies
    → (own : TakenLine) → ((lines : List Line) → IsAfter lines old.builder → Takes lines text (Ok own) new.builder) → KeepsLine old.kept place own text new.kept
    → GoesOn done (own_line (model_of_place place) old.copies text) new
own_taken old new place text done going holds taken kept copies own takes keeps = record {
  holds = record {
    taken = record {
      lines = taken.lines;
      line_layout = ap (λ found. line_layout check (numbered 1 found)) (texts_are done (model_of_place place) text) ∙ taken.line_layout;
      all = taken.all ∙ sym (ap length (texts_are done (model_of_place place) text));
      after_lines = taken.after_lines;
    };
    kept =
        let line = takes holds.taken.lines holds.taken.after_lines in
        subst (λ lines. IsKept (done ++ record { place = model_of_place place; text = text } ∷ []) lines new.kept)
        (lines_more done (model_of_place place) text old.builder holds.taken going new.builder taken line.0 line.1)
        (kept_more done holds.taken.lines line.0 place text own old.kept new.kept line.3 holds.kept keeps);
    places = kept
        ∙ (ap (λ (found : List Place). found ++ model_of_place place ∷ []) holds.places
        ∙ sym (map-append (λ line. line.place) done (record { place = model_of_place place; text = text } ∷ [])));
  };
  copies = copies;
  ending = taken_ends done (model_of_place place) text old.builder holds.taken going new.builder taken;
}

-- and one that the first checks refuse: there the taking stops
pub own_refused : (old new : Copying) (place : KeptPlace) (text : List ℕ) (done : List PlacedLine) (number : ℕ) (refused : AsmCause)
    → IsOpen old.builder → Holds done old → RefusesAt (asm.At number refused) (line_layout check (numbered 1 (texts done ++ text ∷ [])))
    → HasAccepted (texts done) new.builder → new.runs ≡ old.runs → new.kept ≡ old.kept
    → LeadsTo (Some (refused_at place (Asm refused))) done (own_line (model_of_place place) old.copies text) new
own_refused old new place text done number refused going holds refuses taken runs kept =
    let is = refusal_is number refused _ refuses in
    let lines : holds.taken.lines ≡ taken.lines = cc (sym holds.taken.line_layout ∙ taken.line_layout) in
    let refusal : Refusal AsmCause = record { line = number; cause = refused } in (
      (is.0, layout_refused done (model_of_place place) text old.builder holds.taken going old.copies refusal is.1),
      record {
        taken = done;
        holds = record {
          taken = taken;
          places = ap (λ (runs : Vec Run Global). places_of runs.items) runs ∙ holds.places;
          kept = subst (λ (found : Option (Vec KeptLine Global)). IsKept done taken.lines found) (sym kept)
              (subst (λ (found : List Line). IsKept done found old.kept) lines holds.kept);
        };
        halts = inr (record {
          line = record { place = model_of_place place; text = text };
          rest = [];
          are = refl;
          refusal = refusal;
          number = refused_last done (model_of_place place) text old.builder holds.taken going refusal is.1
              ∙ ap (λ n. 1 + n) (length-map done (λ line. line.text));
          is = ap (λ found. line_layout check (numbered 1 found)) (texts_are done (model_of_place place) text) ∙ is.1;
        });
      },
    )
