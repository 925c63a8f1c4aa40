-- What lines lead to that are copied one after the other.
use Rattle.std.proofs.Common.{◌≡◌, ℕ, ◌-◌, ◌<◌, List, [], ◌++◌, Some, None, Ok, Err, length, refl, sym, ap, ◌∙◌, arith, subst, append_assoc}
use Rattle.std.proofs.Common.{append-nil}
use Rattle.std.specs.Prelude.{Option, Result}
use Rattle.std.proofs.lemmas.Option.{unwrap_or-slice_get}
use Rattle.std.proofs.lemmas.List.{get_or_append_left, length-map, map-append}
use Rattle.source_defs.specs.Refusals.{Refusal, ◌>>=◌}
use Rattle.source_defs.specs.Lines.{numbered}
use Rattle.expression_defs.specs.Layout.{line_layout}
use Rattle.asm_defs.specs.declared.causes.AsmCause.{AsmCause}
use Rattle.asm_defs.specs.Locations.{Line}
use Rattle.asm_defs.specs.FirstChecks.{check}
use Rattle.shelf_defs.specs.Copied.{Place, PlacedLine, CopyRefusal, At, Asm, Ending, Open, Ended, Refused, Copied, nothing, prepend, then_by, followed}
use Rattle.shelf_defs.specs.Assembly.{texts, places, place_of, in_place, unless_refused, layout_copied}
use Rattle.asm_core.specs.Building.{IsOpen}
use Rattle.bench_shelf.specs.declared.copying.Copying.{Copying}
use Rattle.bench_shelf.specs.declared.copy_error.CopyError.{CopyError}
use Rattle.bench_shelf.specs.declared.copy_error.CopyError.TheVariants as error
use Rattle.bench_shelf.specs.CopyAnswers.{CopyRefuses}
use Rattle.bench_shelf.specs.Leading.{Holds, EndsAs, GoesOn, LeadsTo, CopiesTo}
use Rattle.bench_shelf.proofs.LayoutLonger.{layout_longer}
use Rattle.bench_shelf.proofs.StoppingLaws.{if_reported, halted, stopped_after}

place_kept : (first more : List PlacedLine) (number : ℕ) → number - 1 < length first
    → place_of (places (first ++ more)) number ≡ place_of (places first) number
place_kept first more number lt =
    let none : Place = record { file = None; line = number } in
    let size : number - 1 < length (places first) = omega (arith, length-map first (λ line. line.place), lt) in
    rw (unwrap_or-slice_get (places (first ++ more)) (number - 1) none, unwrap_or-slice_get (places first) (number - 1) none)
    (rw (map-append (λ line. line.place) first more) (get_or_append_left (places first) (places more) none (number - 1) size))

-- the first checks refuse a line, whatever lines come after it
layout_stays : (first more : List PlacedLine) (ending : Ending) (refusal : CopyRefusal)
    → (in_place first (line_layout check (numbered 1 (texts first))) >>= λ lines. unless_refused Open lines) ≡ Err refusal
    → (in_place (first ++ more) (line_layout check (numbered 1 (texts (first ++ more)))) >>= λ lines. unless_refused ending lines) ≡ Err refusal
layout_stays first more ending refusal e = by_answer (line_layout check (numbered 1 (texts first))) refl e
  where
    by_answer : (answer : Result (List Line) (Refusal AsmCause)) → line_layout check (numbered 1 (texts first)) ≡ answer
        → (in_place first answer >>= λ lines. unless_refused Open lines) ≡ Err refusal
        → (in_place (first ++ more) (line_layout check (numbered 1 (texts (first ++ more)))) >>= λ lines. unless_refused ending lines) ≡ Err refusal
    by_answer (Ok lines) is f = cc f
    by_answer (Err found) is f =
        let stays = layout_longer (texts more) (texts first) [] 1 found is in
        let size : length (texts first) ≡ length first = length-map first (λ line. line.text) in
        let longer : line_layout check (numbered 1 (texts (first ++ more))) ≡ Err found =
        ap (λ all. line_layout check (numbered 1 all)) (map-append (λ line. line.text) first more) ∙ stays.same in
        let place = place_kept first more found.line (omega (arith, stays.from, stays.below, size)) in
        ap (λ answer. in_place (first ++ more) answer >>= λ lines. unless_refused ending lines) longer
        ∙ (ap (λ place. Err (At place (Asm found.cause))) place ∙ f)

-- a refusal stays, whatever follows
stops_by : (done lines : List PlacedLine) (copies : ℕ) (ending : Ending) (next : ℕ → Copied) (refusal : CopyRefusal)
    → layout_copied (prepend done (record { lines = lines; copies = copies; ending = ending })) ≡ Err refusal
    → layout_copied (prepend done (followed (record { lines = lines; copies = copies; ending = ending }) next)) ≡ Err refusal
stops_by done lines copies Open next refusal e =
    let rest = next copies in
    ap (λ all. in_place all (line_layout check (numbered 1 (texts all))) >>= λ lines. unless_refused rest.ending lines)
    (sym (append_assoc done lines rest.lines))
    ∙ layout_stays (done ++ lines) rest.lines rest.ending refusal e
stops_by done lines copies _ next refusal e = e

pub refuses_by : {A B : Type 0} (error : CopyError) (a : Result A CopyRefusal) (b : Result B CopyRefusal)
    → ((refusal : CopyRefusal) → a ≡ Err refusal → b ≡ Err refusal) → CopyRefuses error a → CopyRefuses error b
refuses_by (error.At file line cause) a b same refused = (refused.0, same _ refused.1)
refuses_by error.TooLarge a b same refused = same _ refused
refuses_by _ a b same refused = tt

-- no lines
pub leads_none : (old : Copying) → IsOpen old.builder → CopiesTo old (nothing old.copies) None old
leads_none old going done holds =
    record { holds = subst (λ lines. Holds lines old) (sym (append-nil done)) holds; copies = refl; ending = going }

-- lines one of which is refused, and others
pub leads_refused : (old new : Copying) (found : Copied) (next : ℕ → Copied) (error : CopyError) → CopiesTo old found (Some error) new
    → CopiesTo old (followed found next) (Some error) new
leads_refused old new found next error leads done holds =
    let refused = leads done holds in (
      refuses_by error (layout_copied (prepend done found)) (layout_copied (prepend done (followed found next)))
          (λ refusal e. stops_by done found.lines found.copies found.ending next refusal e) refused.0,
      if_reported _ _ error (halted done found.lines found.copies found.ending next new) refused.1,
    )

ended_by : (ending : Ending) (found : Copied) (next : ℕ → Copied) (done : List PlacedLine) (new : Copying)
    → EndsAs ending new.builder → (IsOpen new.builder → ⊥) → GoesOn done found new → GoesOn done (then_by ending found next) new
ended_by Open found next done new ends closed goes = absurd (closed ends)
ended_by Ended found next done new ends closed goes = goes
ended_by (Refused refusal) found next done new ends closed goes = absurd ends

-- lines of which the last ends the source, and others, which are not read
pub leads_ended : (old new : Copying) (found : Copied) (next : ℕ → Copied) → (IsOpen new.builder → ⊥) → CopiesTo old found None new
    → CopiesTo old (followed found next) None new
leads_ended old new found next closed leads done holds =
    let goes = leads done holds in
    ended_by found.ending found next done new goes.ending closed goes

-- others after lines that were taken
module _ (done : List PlacedLine) (found rest : Copied) (new : Copying) where
  joined : (error : Option CopyError) → LeadsTo error (done ++ found.lines) rest new → LeadsTo error done (prepend found.lines rest) new
  joined None goes = record {
    holds = subst (λ lines. Holds lines new) (append_assoc done found.lines rest.lines) goes.holds;
    copies = goes.copies;
    ending = goes.ending;
  }
  joined (Some error) refused = (
    subst (λ all. CopyRefuses error (in_place all (line_layout check (numbered 1 (texts all))) >>= λ lines. unless_refused rest.ending lines))
        (append_assoc done found.lines rest.lines) refused.0,
    if_reported _ _ error (stopped_after done found.lines rest new) refused.1,
  )

open_by : (ending : Ending) (found : Copied) (next : ℕ → Copied) (done : List PlacedLine) (mid new : Copying) (error : Option CopyError)
    → EndsAs ending mid.builder → IsOpen mid.builder → LeadsTo error (done ++ found.lines) (next found.copies) new → LeadsTo error done (then_by ending found next) new
open_by Open found next done mid new error ends going leads = joined done found (next found.copies) new error leads
open_by Ended found next done mid new error ends going leads = absurd (ends going)
open_by (Refused refusal) found next done mid new error ends going leads = absurd ends

-- lines that were taken, and others
pub leads_then : (old mid new : Copying) (found : Copied) (next : ℕ → Copied) (error : Option CopyError) → IsOpen mid.builder
    → CopiesTo old found None mid → CopiesTo mid (next mid.copies) error new → CopiesTo old (followed found next) error new
leads_then old mid new found next error going first later done holds =
    let goes = first done holds in
    let rest = later (done ++ found.lines) goes.holds in
    open_by found.ending found next done mid new error goes.ending going
    (subst (λ copies. LeadsTo error (done ++ found.lines) (next copies) new) goes.copies rest)
