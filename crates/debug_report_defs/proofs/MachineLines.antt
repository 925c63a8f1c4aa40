-- The lines of instructions give the states of the machine.
use Rattle.std.proofs.Common.{◌≡◌, ℕ, zero, suc, ◌+◌, ◌^◌, ◌<◌, true, List, ◌++◌, map, None, refl, sym, ap, ap₂, ◌∙◌, subst, arith}
use Rattle.std.specs.Prelude.{codes}
use Rattle.std.specs.List.{list_all, range_with_len}
use Rattle.source_defs.specs.Digits.{word_digits, hex_word}
use Rattle.tms_defs.specs.Operand.{Cpu}
use Rattle.tms_defs.specs.Status.{status_word, status_at}
use Rattle.tms_defs.specs.declared.status.Status.{Status}
use Rattle.tms_defs.proofs.StatusLaws.{status_at-status_word}
use Rattle.console_defs.specs.Memory.{Memory}
use Rattle.console_defs.specs.Machine.{MachineState, IsMachine}
use Rattle.console_defs.specs.Runs.{after_steps}
use Rattle.source_defs.specs.Digits.{right_in}
use Rattle.machine_change_defs.specs.Seen.{seen_memory}
use Rattle.machine_change_defs.specs.Changes.{MemoryChanges, memory_applied}
use Rattle.machine_change_defs.specs.Text.{changes_text}
use Rattle.machine_change_defs.specs.Lines.{code_words, processor_text, instruction_text, step_front, step_changes, line_after, step_lines}
use Rattle.machine_change_defs.specs.Laws.{memory_by_changes}
use Rattle.machine_change_defs.proofs.MemoryLead.{changes_give_memory}
use Rattle.debug_report_defs.specs.LineParts.{front_part, changes_part}
use Rattle.debug_report_defs.specs.LineFronts.{MachineFront, number_in, after_number, machine_front_in, machine_front}
use Rattle.debug_report_defs.specs.MachineReader.{cut, reading, after_pieces, no_changes, machine_changes}
use Rattle.debug_report_defs.specs.MachineLaws.{memory_of_lines, front_after, MachineLinesGiveStates}
use Rattle.debug_report_defs.proofs.Digits.{word_digits_pass}
use Rattle.debug_report_defs.proofs.LineSplit.{in_front, split}
use Rattle.debug_report_defs.proofs.FrontRead.{front_all, number_front, number_found, rest_found, pc_at, wp_at, status_at_place, text_at}
use Rattle.debug_report_defs.proofs.InstructionFronts.{clean_printed}
use Rattle.debug_report_defs.proofs.StepFits.{status_fits}
use Rattle.debug_report_defs.proofs.ConsoleFits.{MachineFits, runs_fit}
use Rattle.debug_report_defs.proofs.StartFits.{starts_are_machines}
use Rattle.debug_report_defs.proofs.MachineRead.{ChangesFit, changes_back}
use Rattle.debug_report_defs.proofs.MachineOpening.{changes_begin}
use Rattle.debug_report_defs.proofs.MachineFitting.{changes_fit}

processor_front : (cpu : Cpu Memory) → list_all in_front (processor_text cpu) ≡ true
unfolding processor_text
processor_front cpu =
    front_all (hex_word cpu.pc) _ (word_digits_pass in_front cpu.pc refl)
    (front_all (word_digits cpu.wp) _ (word_digits_pass in_front cpu.wp refl) (word_digits_pass in_front (status_word cpu.status) refl))

front_clean : (number : ℕ) (x : MachineState) → list_all in_front (step_front number x) ≡ true
unfolding step_front instruction_text
front_clean number x =
    front_all (right_in 6 number) _ (number_front number)
    (front_all (processor_text x.cpu) (codes " " ++ instruction_text x.cpu) (processor_front x.cpu) (clean_printed (code_words x.cpu.memory x.cpu.pc) x.cpu.pc))

-- ---- what a front says

record FrontRead (number : ℕ) (x : MachineState) (front : List ℕ) : Type 0 where
  number_is : number < 2 ^ 64 → number_in front ≡ number
  pc_is : (machine_front_in 0 (after_number front)).pc ≡ x.cpu.pc
  wp_is : (machine_front_in 0 (after_number front)).wp ≡ x.cpu.wp
  status_is : (machine_front_in 0 (after_number front)).status ≡ x.cpu.status
  instruction_is : (machine_front_in 0 (after_number front)).instruction ≡ instruction_text x.cpu

front_read : (number : ℕ) (x : MachineState) → MachineFits x → FrontRead number x (step_front number x)
unfolding step_front processor_text
front_read number x fit =
    let cpu = x.cpu in
    let status = status_word cpu.status in
    let text = instruction_text cpu in
    let shown = (hex_word cpu.pc ++ (codes " WP" ++ (word_digits cpu.wp ++ (codes " ST" ++ word_digits status)))) ++ (codes " " ++ text) in
    let rest = rest_found 6 number shown in
    record {
      number_is = λ lt. number_found number shown lt;
      pc_is = ap (λ l. (machine_front_in 0 l).pc) rest ∙ pc_at cpu.pc cpu.wp status text fit.pc;
      wp_is = ap (λ l. (machine_front_in 0 l).wp) rest ∙ wp_at cpu.pc cpu.wp status text fit.wp;
      status_is =
          ap (λ l. (machine_front_in 0 l).status) rest
          ∙ ap status_at (status_at_place cpu.pc cpu.wp status text (status_fits cpu.status fit.status))
          ∙ status_at-status_word cpu.status fit.status;
      instruction_is = ap (λ l. (machine_front_in 0 l).instruction) rest ∙ text_at cpu.pc cpu.wp status text;
    }

abbrev front_of : ℕ → ℕ → ℕ → Status → List ℕ → MachineFront
front_of n p w s t = record { number = n; pc = p; wp = w; status = s; instruction = t }

module _ (x : MachineState) (is : IsMachine x) where
  abbrev changed : ℕ → MemoryChanges
  changed made = step_changes (after_steps made x) (after_steps (suc made) x)

  fit_changes : (made : ℕ) → ChangesFit (changed made)
  fit_changes made = changes_fit (after_steps made x).cpu.wp (seen_memory (after_steps made x).cpu.memory) (after_steps (suc made) x).cpu.memory (runs_fit x is (suc made)).memory

  parts_are : (made : ℕ) → (front_part (line_after x made) ≡ step_front (made + 1) (after_steps made x)) ×
      (changes_part (line_after x made) ≡ changes_text (changed made) ++ codes "\n")
  parts_are made =
      split (step_front (made + 1) (after_steps made x)) (changes_text (changed made) ++ codes "\n") (front_clean (made + 1) (after_steps made x))
      (changes_begin (changed made) (fit_changes made))

  changes_are : (made : ℕ) → machine_changes (line_after x made) ≡ changed made
  changes_are made = ap (λ l. (after_pieces (cut l).1 (reading no_changes None)).made) (parts_are made).1 ∙ changes_back (changed made) (fit_changes made)

  read_front : (made : ℕ) → FrontRead (made + 1) (after_steps made x) (front_part (line_after x made))
  read_front made = subst (FrontRead (made + 1) (after_steps made x)) (sym (parts_are made).0) (front_read (made + 1) (after_steps made x) (runs_fit x is made))

  fronts_are : (made : ℕ) → made + 1 < 2 ^ 64 → machine_front (line_after x made) ≡ front_after x made
  fronts_are made lt =
      let r = read_front made in
      λ i. front_of (r.number_is lt i) (r.pc_is i) (r.wp_is i) (r.status_is i) (r.instruction_is i)

  memory_from : (from count : ℕ) → memory_of_lines (map (line_after x) (range_with_len from count)) (memory_by_changes x from) ≡ memory_by_changes x
      (from + count)
  memory_from from zero = let same : from ≡ from + 0 = omega arith in ap (λ (n : ℕ). memory_by_changes x n) same
  memory_from from (suc count) =
      let line = line_after x from in
      let lines = map (line_after x) (range_with_len (from + 1) count) in
      let next : suc from ≡ from + 1 = omega arith in
      let last : from + 1 + count ≡ from + suc count = omega arith in
      ap₂ (λ (wp : ℕ) (c : MemoryChanges). memory_of_lines lines (memory_applied wp c (memory_by_changes x from))) (read_front from).wp_is (changes_are from)
      ∙ ap (λ (n : ℕ). memory_of_lines lines (memory_by_changes x n)) next
      ∙ memory_from (from + 1) count
      ∙ ap (λ (n : ℕ). memory_by_changes x n) last

  memory_is : (count : ℕ) → memory_of_lines (step_lines x count) (seen_memory x.cpu.memory) ≡ seen_memory (after_steps count x).cpu.memory
  unfolding step_lines
  memory_is count =
      let all : 0 + count ≡ count = omega arith in
      memory_from 0 count ∙ ap (λ (n : ℕ). memory_by_changes x n) all ∙ changes_give_memory.seen x is.memory count

pub machine_lines_give_states : MachineLinesGiveStates
unfolding step_lines
machine_lines_give_states =
    record {
      lines = λ x count. refl;
      parts = parts_are;
      fronts = fronts_are;
      changes = changes_are;
      memory = memory_is;
      starts = starts_are_machines;
    }
