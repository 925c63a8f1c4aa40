-- The lines of steps give the states of a program.
use Rattle.std.proofs.Common.{◌≡◌, ℕ, zero, suc, ◌+◌, ◌^◌, ◌<◌, List, map, refl, sym, ap, ◌∙◌, subst, arith}
use Rattle.std.specs.List.{range_with_len}
use Rattle.tms_defs.specs.Bytes.{HoldsBytes, word_in}
use Rattle.console_defs.specs.Grom.{GromState}
use Rattle.console_defs.specs.Machine.{MachineState}
use Rattle.interp_defs.specs.Boot.{entry_cell}
use Rattle.interp_defs.specs.Programs.{RunsProgram}
use Rattle.gpl_step_defs.specs.State.{GplState, IsState, start}
use Rattle.gpl_step_defs.specs.Run.{run}
use Rattle.gpl_step_defs.proofs.KeptSteps.{steps_keep_states}
use Rattle.report_defs.specs.Trace.{seen_state, step_front, step_lines}
use Rattle.change_defs.specs.Steps.{StepChanges, state_applied, changes_after, state_by_changes}
use Rattle.change_defs.specs.Text.{all_changes_text}
use Rattle.change_defs.proofs.RunLead.{runs_keep, run_changes_lead}
use Rattle.debug_report_defs.specs.LineParts.{front_part, changes_part}
use Rattle.debug_report_defs.specs.LineFronts.{GplFront, gpl_front}
use Rattle.debug_report_defs.specs.Reader.{changes_of_text, changes_of_line}
use Rattle.debug_report_defs.specs.Laws.{text_after, line_after, front_after, state_of_lines, LinesGiveStates}
use Rattle.debug_report_defs.proofs.TextRead.{FitSteps, step_read}
use Rattle.debug_report_defs.proofs.Fitting.{steps_fit}
use Rattle.debug_report_defs.proofs.LineSplit.{split}
use Rattle.debug_report_defs.proofs.StepOpening.{step_begins}
use Rattle.debug_report_defs.proofs.GplFronts.{GplFrontRead, gpl_front_clean, gpl_front_read}

abbrev front_of : ℕ → ℕ → List ℕ → GplFront
front_of n p t = record { number = n; pc = p; instruction = t }

module _ (s : GplState) (is : IsState s) where
  fit_changes : (made : ℕ) → FitSteps (changes_after s made)
  fit_changes made = steps_fit (run made s).last (run (made + 1) s).last (runs_keep (made + 1) s is)

  parts_are : (made : ℕ) → (front_part (line_after s made) ≡ step_front (made + 1) (run made s).last) × (changes_part (line_after s made) ≡ text_after s made)
  parts_are made =
      split (step_front (made + 1) (run made s).last) (text_after s made) (gpl_front_clean (made + 1) (run made s).last)
      (step_begins (changes_after s made) (fit_changes made))

  changes_are : (made : ℕ) → changes_of_line (line_after s made) ≡ changes_after s made
  changes_are made = ap changes_of_text (parts_are made).1 ∙ step_read (changes_after s made) (fit_changes made)

  fronts_are : (made : ℕ) → made + 1 < 2 ^ 64 → gpl_front (line_after s made) ≡ front_after s made
  fronts_are made lt =
      let now = (run made s).last in
      let r = subst (GplFrontRead (made + 1) now) (sym (parts_are made).0) (gpl_front_read (made + 1) now (runs_keep made s is).pc) in
      λ i. front_of (r.number_is lt i) (r.pc_is i) (r.instruction_is i)

  state_from : (from count : ℕ) → state_of_lines (map (line_after s) (range_with_len from count)) (state_by_changes s from) ≡ state_by_changes s (from + count)
  state_from from zero = ap (state_by_changes s) (omega arith)
  state_from from (suc count) =
      let lines = map (line_after s) (range_with_len (from + 1) count) in
      let next : suc from ≡ from + 1 = omega arith in
      ap (λ (c : StepChanges). state_of_lines lines (state_applied c (state_by_changes s from))) (changes_are from)
      ∙ ap (λ (n : ℕ). state_of_lines lines (state_by_changes s n)) next
      ∙ state_from (from + 1) count
      ∙ ap (state_by_changes s) (omega arith)

  states_are : (made : ℕ) → state_of_lines (step_lines all_changes_text s made) (seen_state s) ≡ seen_state (run made s).last
  unfolding step_lines
  states_are made = state_from 0 made ∙ ap (state_by_changes s) (omega arith) ∙ run_changes_lead s is made

-- a program that the interpreter runs has bytes, and its entry is a word
runs_start : (image : List ℕ) (entry limit : ℕ) (left : MachineState) → RunsProgram image entry limit left → HoldsBytes 65536 image × (entry < 65536)
runs_start image entry limit left r =
    let memory = r.boot.cpu.memory in
    let pad = r.is_machine.memory.scratchpad in
    let first = pad.fits entry_cell in
    let second = pad.fits (entry_cell + 1) in
    let word : word_in memory.scratchpad entry_cell < 65536 = omega (arith, first, second) in (
      subst (λ (grom : GromState). HoldsBytes 65536 grom.image) r.is_boot.grom r.is_machine.memory.grom.image,
      subst (λ (number : ℕ). number < 65536) r.is_boot.scratchpad.word word,
    )

pub lines_give_states : LinesGiveStates
unfolding step_lines
lines_give_states =
    record {
      lines = λ s count. refl;
      parts = parts_are;
      fronts = fronts_are;
      changes = changes_are;
      states = λ image entry bytes below. states_are (start image entry) (steps_keep_states.begins image entry bytes below);
      starts = runs_start;
    }
