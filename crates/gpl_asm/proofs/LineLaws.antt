-- A builder after one line more.
use Rattle.std.proofs.Common.{◌≡◌, ℕ, ◌+◌, Bool, true, false, List, [], ◌∷◌, ◌++◌, Some, None, Ok, Err, refl, sym, ap, ◌∙◌, arith}
use Rattle.std.specs.Prelude.{Option, Result, is_some, if◌then◌else◌}
use Rattle.source_defs.specs.Refusals.{Refusal, ◌>>=◌, at_line}
use Rattle.expression_defs.specs.Symbols.{Names, look_up}
use Rattle.expression_defs.specs.Layout.{assembled_lines, set_or, origin, since_origin, bytes_taken}
use Rattle.gpl_source_defs.specs.declared.causes.GplCause.{GplCause}
use Rattle.gpl_source_defs.specs.declared.causes.GplCause.TheVariants.{Overlap}
use Rattle.gpl_source_defs.specs.declared.location.Location.{Location}
use Rattle.gpl_source_defs.specs.Statements.{declared_size}
use Rattle.gpl_source_defs.specs.Locations.{Line, location, place, after, start, origin_of}
use Rattle.gpl_source_defs.specs.FirstChecks.{Checked, line_of}
use Rattle.gpl_source_defs.specs.SecondChecks.{Outcome, Bytes, outcome}
use Rattle.gpl_source_defs.specs.Programs.{AssembledLine, assembled_line, image, bytes_in, overlaps, with_room}
use Rattle.gpl_asm.specs.declared.pending.Rest.{Rest}
use Rattle.gpl_asm.specs.declared.lines.GplLines.{GplLines}
use Rattle.gpl_asm.specs.Replay.{Built, put, answer, replay, nothing}
use Rattle.gpl_asm.specs.Keeping.{pending_of}
use Rattle.gpl_asm.specs.Building.{built_of, whole}
use Rattle.std.proofs.lemmas.List.{append-nil}
use Rattle.gpl_asm.proofs.ReplayLaws.{replay_more}

-- the location after a line
location_by : (set : Option Location) (from : Location) (lines : List Line) (more : ℕ)
    → after (set_or set from) (bytes_taken (if is_some set then [] else since_origin lines) + more)
    ≡ after (set_or set (after from (bytes_taken (since_origin lines)))) more
location_by (Some origin) from lines more = ap (λ number. record { grom = origin.grom; number = origin.number + number }) (omega arith)
location_by None from lines more =
    let bytes = bytes_taken (since_origin lines) in
    let same : from.number + (bytes + more) ≡ from.number + bytes + more = omega arith in
    ap (λ number. record { grom = from.grom; number = number }) same

pub location_more : (number : ℕ) (found : Checked) (lines : List Line)
    → location (line_of (location lines) number found ∷ lines)
    ≡ after (set_or (origin_of (location lines) found.statement) (location lines)) (declared_size found.statement)
location_more number found lines =
    let none : 0 + declared_size found.statement ≡ declared_size found.statement = omega arith in
    location_by (origin_of (location lines) found.statement) (origin start after lines) lines (0 + declared_size found.statement)
    ∙ ap (after (set_or (origin_of (location lines) found.statement) (location lines))) none

-- a line's place
pub place_is : (number : ℕ) (found : Checked) (lines : List Line) → place lines (line_of (location lines) number found) ≡ location lines
place_is number found lines =
    let none : (location lines).number + 0 ≡ (location lines).number = omega arith in
    ap (λ number. record { grom = (location lines).grom; number = number }) none

-- the outcomes of lines with one more
module _ (later : Names) where
  abbrev added : List Line → Line → Built → Result Built (Refusal GplCause)
  added lines line built = at_line line.number (outcome (look_up later) (place lines line) line.statement >>= λ found. put (place lines line) found built)

  room_by : (number : ℕ) (found : List AssembledLine) (line : AssembledLine) (overlap : Bool)
      → (at_line number (if overlap then Err Overlap else Ok line) >>= λ last. Ok (built_of (last ∷ found)))
      ≡ at_line number (if overlap then Err Overlap else Ok (built_of (line ∷ found)))
  room_by number found line true = refl
  room_by number found line false = refl

  outcome_by : (number : ℕ) (at : Location) (found : List AssembledLine) (answer : Result Outcome GplCause)
      → (at_line number (answer >>= λ came. with_room found (record { at = at.number; outcome = came })) >>= λ last. Ok (built_of (last ∷ found)))
      ≡ at_line number (answer >>= λ came. put at came (built_of found))
  outcome_by number at found (Ok came) =
      room_by number found (record { at = at.number; outcome = came }) (overlaps (image found) at.number (bytes_in came))
  outcome_by number at found (Err cause) = refl

  then_built : (answer : Result AssembledLine (Refusal GplCause)) (found : List AssembledLine)
      → ((answer >>= λ last. Ok (last ∷ found)) >>= λ all. Ok (built_of all)) ≡ (answer >>= λ last. Ok (built_of (last ∷ found)))
  then_built (Ok last) found = refl
  then_built (Err refusal) found = refl

  whole_by : (lines : List Line) (line : Line) (earlier : Result (List AssembledLine) (Refusal GplCause))
      → ((earlier >>= λ found. at_line line.number (assembled_line later lines found line) >>= λ last. Ok (last ∷ found)) >>= λ all. Ok (built_of all))
      ≡ ((earlier >>= λ found. Ok (built_of found)) >>= added lines line)
  whole_by lines line (Ok found) =
      then_built (at_line line.number (assembled_line later lines found line)) found
      ∙ outcome_by line.number (place lines line) found (outcome (look_up later) (place lines line) line.statement)
  whole_by lines line (Err refusal) = refl

  pub whole_more : (lines : List Line) (line : Line) → whole later (line ∷ lines) ≡ (whole later lines >>= added lines line)
  whole_more lines line = whole_by lines line (assembled_lines (assembled_line later) lines)

  -- a line without an outcome
  nothing_put : (number : ℕ) (at : Location) (answer : Result Built (Refusal GplCause))
      → (answer >>= λ built. at_line number (put at (Bytes []) built)) ≡ answer
  nothing_put number at (Ok built) = refl
  nothing_put number at (Err refusal) = refl

  -- one that was kept, or has no outcome
  pub kept_more : (builder : GplLines) (rest : Option Rest)
      → replay later nothing (builder.waiting.items ++ pending_of builder rest)
      ≡ (replay later nothing builder.waiting.items >>= λ built. at_line (builder.taken + 1)
      (answer later builder.location rest >>= λ found. put builder.location found built))
  kept_more builder None = ap (replay later nothing) (append-nil builder.waiting.items)
      ∙ sym (nothing_put (builder.taken + 1) builder.location (replay later nothing builder.waiting.items))
  kept_more builder (Some rest) = replay_more later nothing builder.waiting.items (record { number = builder.taken + 1; at = builder.location; rest = rest })
