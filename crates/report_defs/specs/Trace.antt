-- The line of a step: its number, the state before it with the instruction there, and what it changed. `trace` shows of
-- what changed how many bytes they are, and the first.
use Rattle.std.specs.Prelude.{ℕ, ◌+◌, List, [], ◌∷◌, ◌++◌, codes, map, slice_index, Option, Some, None}
use Rattle.std.specs.List.{range_with_len}
use Rattle.std.specs.Fmt.{decimal}
use Rattle.source_defs.specs.Digits.{hex_word, byte_digits, right_in}
use Rattle.gpl_defs.specs.Reading.{reading}
use Rattle.gpl_listing_defs.specs.Texts.{read_text}
use Rattle.gpl_step_defs.specs.State.{GplState}
use Rattle.gpl_step_defs.specs.Run.{run}
use Rattle.base_defs.specs.Lists.{first_difference, count_differences}
use Rattle.report_defs.specs.Program.{state_text}

-- Profile: the line of a step begins with its number right in six columns, the state before it, and the instruction
-- there.
unfoldable pub step_front : ℕ → GplState → List ℕ
step_front number s =
    right_in 6 number ++ (codes " " ++ (state_text s ++ (codes " " ++ read_text (reading s.image s.pc) s.pc)))

-- Profile: of bytes that changed the line shows how many they are, the place of the first, and the new byte there.
abbrev pub changed_from : List ℕ → (ℕ → List ℕ) → ℕ → List ℕ → Option ℕ → List ℕ
changed_from label place count after None = []
changed_from label place count after (Some at) =
    label ++ (decimal count ++ (codes " " ++ (place at ++ (codes "=" ++ byte_digits (slice_index after at)))))

unfoldable pub changed_text : List ℕ → (ℕ → List ℕ) → List ℕ → List ℕ → List ℕ
changed_text label place before after =
    changed_from label place (count_differences before after) after (first_difference before after)

-- Profile: visible cells are shown by their addresses, as addresses of video memory are, and registers by their digits.
abbrev pub cell_place : ℕ → List ℕ
cell_place at = hex_word (0x8300 + at)

abbrev pub register_place : ℕ → List ℕ
register_place at = (0x30 + at) ∷ []

-- what an instruction can change of a state, but for its pc
pub record SeenState : Type 0 where
  pub cells : List ℕ
  pub vdp : List ℕ
  pub registers : List ℕ

abbrev pub seen_state : GplState → SeenState
seen_state s = record { cells = s.cells; vdp = s.vdp; registers = s.registers }

-- what differs of the cells, the video memory and the video registers
unfoldable pub changes_text : SeenState → SeenState → List ℕ
changes_text before after =
    changed_text (codes " C") cell_place before.cells after.cells
    ++ (changed_text (codes " V") hex_word before.vdp after.vdp
    ++ changed_text (codes " W") register_place before.registers after.registers)

-- how a line shows what a step changed, by what was seen before and after the step
abbrev pub ShowsChanges : Type 0
ShowsChanges = SeenState → SeenState → List ℕ

-- the line of a step from one state to the next
abbrev pub step_line : ShowsChanges → ℕ → GplState → GplState → List ℕ
step_line shows number s next = step_front number s ++ (shows (seen_state s) (seen_state next) ++ codes "\n")

-- The lines of a number of steps from a state on, numbered from 1.
unfoldable pub step_lines : ShowsChanges → GplState → ℕ → List (List ℕ)
step_lines shows s count =
    map (λ made. step_line shows (made + 1) (run made s).last (run (made + 1) s).last) (range_with_len 0 count)
