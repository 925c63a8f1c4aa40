-- The outcomes of the lines that wait by all names.
use Rattle.std.specs.Prelude.{◌≡◌, ⊤, ℕ, if◌then◌else◌, List, [], ◌∷◌, Option, Some, None, Result, Ok, Err}
use Rattle.std.specs.FinMap.{empty}
use Rattle.source_defs.specs.Refusals.{Refusal, ◌>>=◌, at_line}
use Rattle.expression_defs.specs.Symbols.{Names, look_up}
use Rattle.gpl_defs.specs.Image.{Image, placed}
use Rattle.gpl_source_defs.specs.declared.causes.GplCause.{GplCause}
use Rattle.gpl_source_defs.specs.declared.causes.GplCause.TheVariants.{Overlap}
use Rattle.gpl_source_defs.specs.declared.location.Location.{Location}
use Rattle.gpl_source_defs.specs.FirstChecks.{parsed}
use Rattle.gpl_source_defs.specs.SecondChecks.{Outcome, Bytes, outcome}
use Rattle.gpl_source_defs.specs.Programs.{bytes_in, entry_by, overlaps}
use Rattle.gpl_lines.specs.Answers.{Fails, NoMemory}
use Rattle.gpl_lines.specs.Defined.{model_of_outcome}
use Rattle.gpl_lines.specs.declared.failure.Failure.{Failure}
use Rattle.gpl_asm.specs.declared.error.GplError.{GplError}
use Rattle.gpl_asm.specs.declared.pending.Pending.{Pending}
use Rattle.gpl_asm.specs.declared.pending.Rest.{Rest}
use Rattle.gpl_asm.specs.declared.pending.Rest.TheVariants.{Resolved, Refused, Unresolved}
use Rattle.gpl_asm.specs.Errors.{RefusesAt}

-- the image and the entry of some lines
pub record Built : Type 0 where
  pub image : Image
  pub entry : Option ℕ

abbrev pub nothing : Built
nothing = record { image = empty; entry = None }

-- the outcome of a line is placed after others, or overlaps them
abbrev pub put : Location → Outcome → Built → Result Built GplCause
put at found built =
    if overlaps built.image at.number (bytes_in found)
    then Err Overlap
    else Ok (record {
      image = placed built.image at.number (bytes_in found);
      entry = entry_by built.entry found;
    })

-- the outcome of a line at a place, by all names
abbrev pub line_outcome : Names → Location → List ℕ → Result Outcome GplCause
line_outcome later at text = parsed later at text >>= λ statement. outcome (look_up later) at statement

-- the outcome of what is left of a line, by all names
abbrev pub answer_by : Names → Location → Rest → Result Outcome GplCause
answer_by later at (Resolved found) = Ok (model_of_outcome found)
answer_by later at (Refused cause) = Err cause
answer_by later at (Unresolved text) = line_outcome later at text.items

abbrev pub answer : Names → Location → Option Rest → Result Outcome GplCause
answer later at None = Ok (Bytes [])
answer later at (Some rest) = answer_by later at rest

abbrev pub resolve_pending : Names → Built → Pending → Result Built GplCause
resolve_pending later built waiting = answer_by later waiting.at waiting.rest >>= λ found. put waiting.at found built

abbrev pub step : Names → Built → Pending → Result Built (Refusal GplCause)
step later built waiting = at_line waiting.number (resolve_pending later built waiting)

-- the lines in their order
abbrev pub replay : Names → Built → List Pending → Result Built (Refusal GplCause)
replay later built [] = Ok built
replay later built (waiting ∷ others) = step later built waiting >>= λ next. replay later next others

-- a refusal that waits does not stand for a lack of memory
abbrev pub WaitsFor : Rest → Type 0
WaitsFor (Resolved found) = ⊤
WaitsFor (Refused cause) = NoMemory cause
WaitsFor (Unresolved text) = ⊤

abbrev pub WaitsForSome : Option Rest → Type 0
WaitsForSome None = ⊤
WaitsForSome (Some rest) = WaitsFor rest

-- what was put, by the calls of the code
abbrev pub Puts : Image → Option ℕ → Location → Outcome → Result (Option ℕ) GplCause → Image → Type 0
Puts image entry at found (Ok after) left =
    put at found (record { image = image; entry = entry }) ≡ Ok (record { image = left; entry = after })
Puts image entry at found (Err cause) left =
    (put at found (record { image = image; entry = entry }) ≡ Err cause) × NoMemory cause

abbrev pub Resolves : Names → Built → Pending → Result (Option ℕ) Failure → Image → Type 0
Resolves later built waiting (Ok after) left = resolve_pending later built waiting
    ≡ Ok (record { image = left; entry = after })
Resolves later built waiting (Err failure) left = Fails failure (resolve_pending later built waiting)

abbrev pub Replays : Names → Built → List Pending → Result (Option ℕ) GplError → Image → Type 0
Replays later built waiting (Ok after) left = replay later built waiting ≡ Ok (record { image = left; entry = after })
Replays later built waiting (Err error) left = RefusesAt error (replay later built waiting)
