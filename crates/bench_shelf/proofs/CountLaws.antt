-- How many lines are taken, and how many bytes of files.
use Rattle.std.proofs.Common.{◌≡◌, ℕ, ◌+◌, ◌-◌, ◌<◌, ◌≤◌, Vec, Global, List, [], ◌∷◌, ◌++◌, length, drop, refl, sym, ap, ◌∙◌, arith}
use Rattle.std.proofs.Common.{length-append, length-take, length-drop}
use Rattle.std.specs.List.{AllByRecursion, flat_map}
use Rattle.std.proofs.lemmas.List.{length-map}
use Rattle.source_defs.specs.declared.text.Line.{Line as TextLine}
use Rattle.source_defs.specs.Lines.{part, lines}
use Rattle.source_defs.specs.LineLaw.{IsLine, ending}
use Rattle.source_defs.proofs.LineLaws.{lines_are_lines}
use Rattle.std.specs.Prelude.{Option}
use Rattle.shelf_defs.specs.Copied.{most_bytes}
use Rattle.asm_core.specs.declared.lines.AsmLines.{AsmLines}
use Rattle.asm_core.specs.Building.{CanCount}
use Rattle.bench_shelf.specs.declared.run.Run.{Run}
use Rattle.bench_shelf.specs.declared.kept_line.KeptLine.{KeptLine}
use Rattle.bench_shelf.specs.declared.copying.Copying.{Copying}
use Rattle.bench_shelf.specs.Leading.{IsHeld, HasRoom, count}

-- the builder has taken as many lines as places are kept
held_count : (state : Copying) → IsHeld state → state.builder.taken ≡ count state
held_count state held =
    let holds = held.1 in
    holds.taken.after_lines.taken
    ∙ (holds.taken.all
    ∙ (length-map held.0 (λ line. line.text)
    ∙ (sym (length-map held.0 (λ line. line.place))
    ∙ sym (ap length holds.places))))

pub can_count : (state : Copying) → HasRoom 1 state → CanCount state.builder
can_count state room = omega (arith, held_count state room.held, room.room, room.copies)

-- a line with what ends it has a byte or more
ended : (text : List ℕ) (line : TextLine) (mark : List ℕ) → ending text line.span.end ≡ mark → IsLine text line
    → 1 ≤ length (part text line.span ++ ending text line.span.end)
ended text line [] is found =
    let last = found.last is in
    omega (
      arith,
      last.0,
      last.1,
      length-append (part text line.span) (ending text line.span.end),
      length-take (line.span.end - line.span.start) (drop line.span.start text),
      length-drop line.span.start text,
    )
ended text line (byte ∷ bytes) is found =
    omega (arith, ap length is, length-append (part text line.span) (ending text line.span.end))

few_of : (text : List ℕ) (found : List TextLine) → AllByRecursion (IsLine text) found
    → length found ≤ length (flat_map (λ line. part text line.span ++ ending text line.span.end) found)
few_of text [] each = omega arith
few_of text (line ∷ found) each =
    let others = few_of text found each.1 in
    omega (
      arith,
      others,
      ended text line (ending text line.span.end) refl each.0,
      length-append (part text line.span ++ ending text line.span.end)
          (flat_map (λ line. part text line.span ++ ending text line.span.end) found),
    )

-- a text has no more lines than bytes
pub few_lines : (text : List ℕ) → length (lines text) ≤ length text
few_lines text =
    let law = lines_are_lines text in
    omega (arith, few_of text (lines text) law.each, ap length law.joined)

-- the lines of a file that is copied can be counted
pub file_room : (alloc : Global) (builder : AsmLines) (runs : Vec Run Global) (kept : Option (Vec KeptLine Global)) (copies : ℕ) (bytes text : List ℕ)
    → HasRoom 1 (record { alloc = alloc; builder = builder; runs = runs; kept = kept; copies = copies }) → copies < 64 → text ≡ bytes → length bytes ≤ most_bytes
    → HasRoom (length text) (record { alloc = alloc; builder = builder; runs = runs; kept = kept; copies = copies + 1 })
file_room alloc builder runs kept copies bytes text room few is size =
    let holds = room.held.1 in
    record {
      held = (room.held.0, record { taken = holds.taken; places = holds.places; kept = holds.kept });
      copies = omega (arith, few);
      room = omega (arith, room.room, few, ap length is, size);
    }
