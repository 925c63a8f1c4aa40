-- A builder that has taken one line more.
use Rattle.std.proofs.Common.{◌≡◌, ℕ, ◌+◌, ◌≤◌, false, ◌||◌, List, [], ◌∷◌, ◌++◌, Some, None, Ok, length, refl, sym, ap, subst, ◌∙◌, arith}
use Rattle.std.specs.Prelude.{Option, Result, IfSome, is_some}
use Rattle.std.proofs.lemmas.Bool.Decides.{nat_tests}
use Rattle.std.specs.List.{AllByRecursion}
use Rattle.std.specs.FinMap.{get}
use Rattle.source_defs.specs.Refusals.{Refusal, ◌>>=◌, at_line}
use Rattle.expression_defs.specs.Expression.{Absolute}
use Rattle.expression_defs.specs.Symbols.{Names, look_up}
use Rattle.expression_defs.specs.Growing.{Grows}
use Rattle.expression_defs.specs.Layout.{with_names, set_or}
use Rattle.expression_defs.proofs.DefinedNames.{grown, grown_on, grown_not}
use Rattle.gpl_source_defs.specs.declared.causes.GplCause.{GplCause}
use Rattle.gpl_source_defs.specs.declared.location.Location.{Location}
use Rattle.gpl_source_defs.specs.Statements.{Statement, declared_size}
use Rattle.gpl_source_defs.specs.Locations.{Line, location, after, origin_of, IsInGrom}
use Rattle.gpl_source_defs.specs.FirstChecks.{Checked, checked, line_of, names, label_entry, label_value, is_taken, is_end, is_full}
use Rattle.gpl_source_defs.specs.SecondChecks.{Outcome, outcome}
use Rattle.gpl_source_defs.proofs.Sizes.{outcome_size}
use Rattle.gpl_source_defs.proofs.CheckLaws.{is_accepted, leads}
use Rattle.gpl_asm.specs.declared.pending.Rest.{Rest}
use Rattle.gpl_asm.specs.declared.lines.GplLines.{GplLines}
use Rattle.gpl_asm.specs.Replay.{Built, put, answer, replay, nothing, WaitsForSome}
use Rattle.gpl_asm.specs.Room.{HasRoom, AllHaveRoom}
use Rattle.gpl_asm.specs.Keeping.{pending_of}
use Rattle.gpl_asm.specs.Building.{IsAfter, whole}
use Rattle.gpl_asm.proofs.LineLaws.{location_more, place_is, whole_more, kept_more}
use Rattle.base_defs.specs.declared.size.TheConstants.{GROM_SIZE}

-- a label that is new leaves the names before as they are
none_is : {A : Type 0} (found : Option A) → is_some found ≡ false → found ≡ None
none_is (Some value) e = cc e
none_is None e = refl

pub label_grows : (known : Names) (label : Option (List ℕ)) (number : ℕ) → is_taken known label ≡ false
    → Grows known (with_names known (label_entry label number))
label_grows known None number fresh = grown_not known
label_grows known (Some name) number fresh = grown known name (Absolute number) (none_is (get known name) fresh)

pub all_append : {A : Type 0} (P : A → Type 0) (first second : List A) → AllByRecursion P first → AllByRecursion P second → AllByRecursion P (first ++ second)
all_append P [] second all others = others
all_append P (item ∷ first) second all others = (all.0, all_append P first second all.1 others)

-- what is left of a line has the outcome of the line
abbrev pub AnswersBy : Names → Location → Checked → Option Rest → Type 0
AnswersBy known at found rest =
    (later : Names) → Grows known later → answer later at rest ≡ outcome (look_up later) at found.statement

abbrev pub Answers : GplLines → Checked → Option Rest → Type 0
Answers builder = AnswersBy builder.symbols builder.location

module _ (builder : GplLines) (found : Checked) (rest : Option Rest) where
  pub answers_here : (known : Names) (at : Location) → known ≡ builder.symbols → at ≡ builder.location → AnswersBy known at found rest
      → Answers builder found rest
  answers_here known at same there answers later grows =
      ap (λ (at : Location). answer later at rest) (sym there)
      ∙ (answers later (subst (λ (known : Names). Grows known later) (sym same) grows)
      ∙ ap (λ (at : Location). outcome (look_up later) at found.statement) there)

  -- and it ends before the addresses do
  module _ (answers : Answers builder found rest) (le : builder.location.number + declared_size found.statement ≤ 65536) where
    room_by : (later : Names) (left : Option Rest) → answer later builder.location left ≡ outcome (look_up later) builder.location found.statement
        → WaitsForSome left
        → AllByRecursion (HasRoom later) (pending_of builder left)
    room_by later None same waits = tt
    room_by later (Some left) same waits = (
      record {
        room = λ came e.
            let fills = outcome_size (look_up later) builder.location found.statement came (sym same ∙ e) in
            omega (arith, fills, le);
        waits = waits;
      },
      tt,
    )

    pub room_of : WaitsForSome rest → AllHaveRoom builder.symbols (pending_of builder rest)
    room_of waits later grows = room_by later rest (answers later grows) waits

module _ (lines : List Line) (builder : GplLines) (is : IsAfter lines builder) (found : Checked) (rest : Option Rest) where
  abbrev pub line : Line
  line = line_of (location lines) (length lines + 1) found

  module _ (answers : Answers builder found rest) (later : Names) (grows : Grows builder.symbols later) where
    abbrev at_place : Location → Result Built (Refusal GplCause)
    at_place at =
        whole later lines >>= λ built. at_line (length lines + 1) (outcome (look_up later) at found.statement >>= λ came. put at came built)

    abbrev of_answer : ℕ → Result Outcome GplCause → Result Built (Refusal GplCause)
    of_answer number came =
        replay later nothing builder.waiting.items >>= λ built. at_line number (came >>= λ came. put builder.location came built)

    pub replays_more : whole later (line ∷ lines) ≡ replay later nothing (builder.waiting.items ++ pending_of builder rest)
    replays_more =
        whole_more later lines line
        ∙ (ap at_place (place_is (length lines + 1) found lines ∙ sym is.location)
        ∙ (ap (λ answer. answer >>= λ built. at_line (length lines + 1)
        (outcome (look_up later) builder.location found.statement >>= λ came. put builder.location came built)) (is.replays later grows)
        ∙ (ap (of_answer (length lines + 1)) (sym (answers later grows))
        ∙ (ap (λ taken. of_answer (taken + 1) (answer later builder.location rest)) (sym is.taken)
        ∙ sym (kept_more later builder rest)))))

  -- the builder that has taken it
  pub record TakesOne (new : GplLines) : Type 0 where
    pub waiting : new.waiting.items ≡ builder.waiting.items ++ pending_of builder rest
    pub names : new.symbols ≡ with_names builder.symbols (label_entry found.label (label_value builder.location found.statement))
    pub location : new.location ≡ after (set_or (origin_of builder.location found.statement) builder.location) (declared_size found.statement)
    pub taken : new.taken ≡ builder.taken + 1
    pub ended : new.ended ≡ (is_end found.statement || builder.ended)

  pub is_after : (new : GplLines) → Answers builder found rest → is_taken builder.symbols found.label ≡ false → TakesOne new → IsAfter (line ∷ lines) new
  is_after new answers fresh takes =
      let grows : Grows builder.symbols new.symbols =
      subst (Grows builder.symbols) (sym takes.names) (label_grows builder.symbols found.label (label_value builder.location found.statement) fresh) in
      record {
        names = takes.names
            ∙ (ap (λ (known : Names). with_names known (label_entry found.label (label_value builder.location found.statement))) is.names
            ∙ ap (λ (at : Location). with_names (names lines) (label_entry found.label (label_value at found.statement))) is.location);
        location = takes.location
            ∙ (ap (λ (at : Location). after (set_or (origin_of at found.statement) at) (declared_size found.statement)) is.location
            ∙ sym (location_more (length lines + 1) found lines));
        taken = takes.taken ∙ (ap (λ taken. taken + 1) is.taken ∙ omega arith);
        ended = takes.ended ∙ ap (λ ended. is_end found.statement || ended) is.ended;
        replays = λ later more.
            replays_more answers later (grown_on builder.symbols new.symbols later grows more) ∙ ap (replay later nothing) (sym takes.waiting);
      }

-- where the builder goes on
pub leads_on : (known : Names) (at here next : Location) (text : List ℕ) (found : Checked) (origin : Option Location) (size : ℕ)
    → checked known at text ≡ Ok found → at ≡ here → next ≡ here → origin ≡ origin_of here found.statement → IfSome origin (λ origin. origin.grom ≤ 65535)
    → size ≡ declared_size found.statement → IsInGrom here → IsInGrom (after (set_or origin next) size)
leads_on known at here next text found origin size e same still by le sized is =
    let through = is_accepted known at text found e in
    let fits : is_full here found.statement ≡ false = ap (λ (at : Location). is_full at found.statement) (sym same) ∙ through.fits in
    let le' : IfSome (origin_of here found.statement) (λ origin. origin.grom ≤ 65535) =
    subst (λ (origin : Option Location). IfSome origin (λ origin. origin.grom ≤ 65535)) by le in
    let there = leads here found.label found.statement is le' fits through.fine in
    subst (λ (origin : Option Location). IsInGrom (after (set_or origin next) size)) (sym by)
    (subst (λ (next : Location). IsInGrom (after (set_or (origin_of here found.statement) next) size)) (sym still)
    (subst (λ size. IsInGrom (after (set_or (origin_of here found.statement) here) size)) (sym sized) there))

-- how far a line reaches
pub reaches : (here : Location) (statement : Statement) → IsInGrom here → is_full here statement ≡ false → here.number + declared_size statement ≤ 65536
reaches here statement is fits =
    let within : here.number + declared_size statement ≤ here.grom + GROM_SIZE = grind (arith, nat_tests, fits) in
    omega (arith, within, is.aligned, is.address)
