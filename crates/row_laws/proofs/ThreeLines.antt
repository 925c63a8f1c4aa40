-- The lines of `trace` of a program of two instructions, by computation.
use Rattle.std.proofs.Common.{◌≡◌, ℕ, ◌+◌, ◌<◌, true, false, List, [], ◌∷◌, ◌++◌, Some, None, Ok, length, refl, ap, ◌∙◌, subst, arith, nat_cmp, ◌≤◌}
use Rattle.std.specs.Prelude.{codes, slice_index, slice_set, replicate, unwrap_or, nat_eq}
use Rattle.std.specs.FinMap.{empty, get, insert, get-empty, get-insert, get-from_entries}
use Rattle.std.proofs.lemmas.Cmp.{nat_list_cmp_total}
use Rattle.source_defs.specs.Fields.{fields, in_quotes}
use Rattle.source_defs.specs.Lines.{lines_from, line_texts}
use Rattle.source_defs.specs.Operands.{operands_from}
use Rattle.expression_defs.specs.Expression.{Absolute}
use Rattle.expression_defs.specs.Symbols.{Names, predefined, registers, look_up}
use Rattle.expression_defs.specs.Layout.{line_layout}
use Rattle.source_defs.specs.Refusals.{◌>>=◌}
use Rattle.expression_defs.specs.Tokens.{token_at, tokens_from}
use Rattle.gpl_source_defs.specs.Skeletons as skeletons
use Rattle.gpl_source_defs.specs.Mnemonics.{mnemonic}
use Rattle.gpl_source_defs.specs.Directives.{directive}
use Rattle.gpl_source_defs.specs.Forms.{form_of}
use Rattle.gpl_source_defs.specs.Statements.{Instruction, End}
use Rattle.gpl_source_defs.specs.Locations.{Line}
use Rattle.gpl_source_defs.specs.FirstChecks.{checked, check}
use Rattle.gpl_source_defs.specs.SecondChecks.{Bytes, Entry, outcome}
use Rattle.gpl_source_defs.specs.Programs.{AssembledLine, Program, assembled_line, overlaps, program_after, program_of_source}
use Rattle.std.specs.Fmt.{decimal}
use Rattle.std.proofs.lemmas.Fmt.{decimal_by_steps}
use Rattle.std.proofs.lemmas.Bool.Decides.{nat_tests}
use Rattle.std.proofs.lemmas.List.{append-nil}
use Rattle.std.specs.List.{zip, prefix_len}
use Rattle.gpl_defs.specs.declared.instruction.Space.TheVariants.{Cpu}
use Rattle.gpl_defs.specs.declared.instruction.GplOperand.{GplOperand}
use Rattle.gpl_defs.specs.declared.instruction.GplSource.TheVariants.{Immediate}
use Rattle.gpl_defs.specs.declared.instruction.OneName.TheVariants.{INC}
use Rattle.gpl_defs.specs.declared.instruction.TwoName.TheVariants.{ST}
use Rattle.gpl_defs.specs.declared.instruction.GplInstr.{GplInstr}
use Rattle.gpl_defs.specs.declared.instruction.GplInstr.TheVariants.{One, Two}
use Rattle.gpl_defs.specs.declared.instruction.GplRead.TheVariants.{Instr}
use Rattle.gpl_defs.specs.Bytes.{bytes_of}
use Rattle.gpl_defs.specs.Image.{Image, placed, AreBytesOf}
use Rattle.gpl_defs.specs.Reading.{reading}
use Rattle.gpl_defs.proofs.MeaningLaws.{bytes_read}
use Rattle.gpl_step_defs.specs.State.{GplState, start, zeros}
use Rattle.gpl_step_defs.specs.Step.{step, after}
use Rattle.gpl_step_defs.specs.Run.{GplRun, one_more, run}
use Rattle.gpl_listing_defs.specs.Texts.{operand_text, instr_text}
use Rattle.source_defs.specs.Digits.{hex_word, byte_digits, word_digits, right_in}
use Rattle.base_defs.specs.Lists.{is_same, first_difference, count_differences}
use Rattle.console_defs.specs.Machine.{MachineState}
use Rattle.report_defs.specs.declared.status.Status.TheVariants.{Done}
use Rattle.report_defs.specs.Dump.{dump_lines}
use Rattle.report_defs.specs.Program.{state_text, state_line, showing, program_status}
use Rattle.report_defs.specs.Report.{Report, Whole, ProgramRun, ProgramReport, ReportsProgram, trace_lines}
use Rattle.report_defs.specs.Trace.{seen_state, step_front, changed_from, changed_text, cell_place, register_place, changes_text, step_line, step_lines}
use Rattle.row_laws.specs.OneTrace.{source, first_line, second_line, last_line, IsTraced, OneSourceIsTraced}
use Rattle.row_laws.proofs.StillImage.{run_on}
use Rattle.row_laws.proofs.RowsInRuns.{get_other, new_hold}

-- ---- what does not differ

self_equal : (x : ℕ) → nat_eq x x ≡ true
self_equal x = grind (arith, nat_tests)

all_common : (items : List ℕ) → prefix_len is_same (zip items items) ≡ length items
all_common [] = refl
all_common (item ∷ items) = rw (self_equal item) (omega (arith, all_common items))

none_differs : (items : List ℕ) → first_difference items items ≡ None
none_differs items = rw (all_common items, self_equal (length items)) refl

unchanged_text : (label : List ℕ) (place : ℕ → List ℕ) (items : List ℕ) → changed_text label place items items ≡ []
unfolding changed_text
unchanged_text label place items = ap (changed_from label place (count_differences items items) items) (none_differs items)

one_digit : (n : ℕ) → n < 10 → decimal n ≡ (48 + n) ∷ []
one_digit n small =
    decimal_by_steps (λ n text. n < 10 → text
    ≡ (48 + n) ∷ []) (λ n lt again. refl) (λ n text ge is lt. absurd (omega (arith, ge, lt))) n (omega (arith, small)) small

-- ---- the program

abbrev cell : GplOperand
cell = record { space = Cpu; indirect = false; address = 0; index = None }

-- ST @>8300,>02 and INC @>8300
abbrev first : GplInstr
first = Two ST false cell (Immediate 2)

abbrev second : GplInstr
second = One INC false cell

abbrev program : List ℕ
program = 0xBE ∷ 0x00 ∷ 0x02 ∷ 0x90 ∷ 0x00 ∷ []

first_bytes : bytes_of first ≡ 0xBE ∷ 0x00 ∷ 0x02 ∷ []
first_bytes = refl

second_bytes : bytes_of second ≡ 0x90 ∷ 0x00 ∷ []
second_bytes = refl

abbrev cells : List ℕ
cells = slice_set (slice_set (replicate 194 0) 0x72 0x9F) 0x73 0x7E

abbrev first_cells : List ℕ
first_cells = slice_set cells 0 2

abbrev second_cells : List ℕ
second_cells = slice_set (slice_set first_cells 0 3) 0x7C 0xC0

module _ (bytes video : List ℕ) (are : AreBytesOf (placed empty 0x6000 program) bytes) where
  byte : (k : ℕ) → k < 5 → 0x6000 + k < 65536 → slice_index bytes (0x6000 + k) ≡ slice_index program k
  byte k lt within = are.each (0x6000 + k) (omega (arith, within, are.size)) ∙ ap (λ found. unwrap_or found 0) (new_hold program empty 0x6000 k lt)

  first_read : reading bytes 0x6000 ≡ Instr first 0x6003
  first_read =
      bytes_read first refl bytes 0x6000 0x6003 (
        byte 0 (omega arith) (omega arith),
        (
          byte 1 (omega arith) (omega arith),
          (byte 2 (omega arith) (omega arith), refl),
        ),
      )

  second_read : reading bytes 0x6003 ≡ Instr second 0x6005
  second_read = bytes_read second refl bytes 0x6003 0x6005 (byte 3 (omega arith) (omega arith), (byte 4 (omega arith) (omega arith), refl))

  abbrev state : List ℕ → ℕ → GplState
  state cells pc = record { cells = cells; vdp = video; registers = replicate 8 0; pc = pc; image = bytes }

  first_step : step (state cells 0x6000) ≡ Ok (state first_cells 0x6003)
  unfolding after
  first_step = rw first_read refl

  second_step : step (state first_cells 0x6003) ≡ Ok (state second_cells 0x6005)
  unfolding after
  second_step = rw second_read refl

  -- ---- its lines

  changes : (before next : List ℕ) (pc other : ℕ)
      → changes_text (seen_state (state before pc)) (seen_state (state next other)) ≡ changed_text (codes " C") cell_place before next
  unfolding changes_text
  changes before next pc other =
      ap (λ text. changed_text (codes " C") cell_place before next ++ (text ++ changed_text (codes " W") register_place (replicate 8 0) (replicate 8 0)))
      (unchanged_text (codes " V") hex_word video)
      ∙ (ap (λ text. changed_text (codes " C") cell_place before next ++ text) (unchanged_text (codes " W") register_place (replicate 8 0))
      ∙ append-nil (changed_text (codes " C") cell_place before next))

  first_change : changed_text (codes " C") cell_place cells first_cells ≡ codes " C1 >8300=02"
  unfolding changed_text byte_digits word_digits
  first_change = rw (one_digit 1 (omega arith)) refl

  second_change : changed_text (codes " C") cell_place first_cells second_cells ≡ codes " C2 >8300=03"
  unfolding changed_text byte_digits word_digits
  second_change = rw (one_digit 2 (omega arith)) refl

  first_front : step_front 1 (state cells 0x6000) ≡ codes "     1 >6000 S00 D9F R7E ST @>8300,>02"
  unfolding step_front state_text right_in byte_digits word_digits operand_text instr_text
  first_front = rw (first_read, one_digit 1 (omega arith)) refl

  second_front : step_front 2 (state first_cells 0x6003) ≡ codes "     2 >6003 S00 D9F R7E INC @>8300"
  unfolding step_front state_text right_in byte_digits word_digits operand_text instr_text
  second_front = rw (second_read, one_digit 2 (omega arith)) refl

  first_shown : step_line changes_text 1 (state cells 0x6000) (state first_cells 0x6003) ≡ first_line
  first_shown =
      ap (λ front. front ++ (changes_text (seen_state (state cells 0x6000)) (seen_state (state first_cells 0x6003)) ++ codes "\n")) first_front
      ∙ ap (λ text. codes "     1 >6000 S00 D9F R7E ST @>8300,>02" ++ (text ++ codes "\n")) (changes cells first_cells 0x6000 0x6003 ∙ first_change)

  second_shown : step_line changes_text 2 (state first_cells 0x6003) (state second_cells 0x6005) ≡ second_line
  second_shown =
      ap (λ front. front ++ (changes_text (seen_state (state first_cells 0x6003)) (seen_state (state second_cells 0x6005)) ++ codes "\n")) second_front
      ∙ ap (λ text. codes "     2 >6003 S00 D9F R7E INC @>8300" ++ (text ++ codes "\n")) (changes first_cells second_cells 0x6003 0x6005 ∙ second_change)

  one_made : (run 1 (state cells 0x6000)).last ≡ state first_cells 0x6003
  one_made = ap (λ answer. (run_on 0 (state cells 0x6000) answer).last) first_step

  both_made : run 2 (state cells 0x6000) ≡ record { done = 2; last = state second_cells 0x6005; stop = None }
  both_made =
      ap (run_on 1 (state cells 0x6000)) first_step
      ∙ ap (λ answer. one_more (run_on 0 (state first_cells 0x6003) answer)) second_step

  two_made : (run 2 (state cells 0x6000)).last ≡ state second_cells 0x6005
  two_made = ap (λ made. made.last) both_made

  last_shown : state_line (state second_cells 0x6005) ≡ last_line
  unfolding state_line state_text byte_digits word_digits
  last_shown = refl

  steps_shown : step_lines changes_text (state cells 0x6000) 2 ≡ first_line ∷ second_line ∷ []
  unfolding step_lines
  steps_shown =
      let begun = state cells 0x6000 in
      let line = step_line changes_text in
      ap (λ next. line 1 begun next ∷ line 2 next (run 2 begun).last ∷ []) one_made
      ∙ (ap (λ last. line 1 begun (state first_cells 0x6003) ∷ line 2 (state first_cells 0x6003) last ∷ []) two_made
      ∙ (ap (λ text. text ∷ line 2 (state first_cells 0x6003) (state second_cells 0x6005) ∷ []) first_shown
      ∙ ap (λ text. first_line ∷ text ∷ []) second_shown))

-- ---- the source

abbrev label : List ℕ
label = codes "START"

none_yet : look_up predefined label ≡ None
unfolding registers
none_yet = get-from_entries nat_list_cmp_total registers label

abbrev one : Line
one = record {
  number = 1;
  origin = None;
  gap = 0;
  size = 3;
  names = (label, Absolute 0x6000) ∷ [];
  statement = Instruction (skeletons.Two ST false cell (skeletons.Immediate (codes ">02")));
  last = false;
}

abbrev two : Line
two = record { number = 2; origin = None; gap = 0; size = 2; names = []; statement = Instruction (skeletons.One INC false cell); last = false }

abbrev three : Line
three = record { number = 3; origin = None; gap = 0; size = 0; names = []; statement = End (Some label); last = true }

abbrev texts : List (ℕ × List ℕ)
texts = (1, codes "START ST @>8300,>02") ∷ (2, codes " INC @>8300") ∷ (3, codes " END START") ∷ []

texts_are : line_texts source ≡ texts
unfolding lines_from
texts_are = refl

first_checked : check [] 1 (codes "START ST @>8300,>02") ≡ Ok one
unfolding checked mnemonic directive form_of fields in_quotes operands_from token_at tokens_from
first_checked = rw none_yet refl

second_checked : check (one ∷ []) 2 (codes " INC @>8300") ≡ Ok two
unfolding checked mnemonic directive form_of fields in_quotes operands_from token_at tokens_from
second_checked = refl

third_checked : check (two ∷ one ∷ []) 3 (codes " END START") ≡ Ok three
unfolding checked mnemonic directive form_of fields in_quotes operands_from token_at tokens_from
third_checked = refl

cells_are : slice_set (slice_set (zeros 194) 0x72 0x9F) 0x73 0x7E ≡ cells
unfolding zeros
cells_are = refl

registers_are : zeros 8 ≡ replicate 8 0
unfolding zeros
registers_are = refl

abbrev begun : List ℕ → List ℕ → List ℕ → GplState
begun bytes cells registers = record { cells = cells; vdp = zeros 16384; registers = registers; pc = 0x6000; image = bytes }

start_is : (bytes : List ℕ) → start bytes 0x6000 ≡ begun bytes cells (replicate 8 0)
start_is bytes = ap (λ cells. begun bytes cells (zeros 8)) cells_are ∙ ap (begun bytes cells) registers_are

abbrev known : Names
known = insert predefined label (Absolute 0x6000)

start_known : look_up known label ≡ Some (Absolute 0x6000)
start_known = get-insert nat_list_cmp_total predefined label (Absolute 0x6000) label

abbrev image : Image
image = placed empty 0x6000 program

abbrev first_placed : AssembledLine
first_placed = record { at = 0x6000; outcome = Bytes (0xBE ∷ 0x00 ∷ 0x02 ∷ []) }

abbrev second_placed : AssembledLine
second_placed = record { at = 0x6003; outcome = Bytes (0x90 ∷ 0x00 ∷ []) }

abbrev third_placed : AssembledLine
third_placed = record { at = 0x6005; outcome = Entry 0x6000 }

abbrev nothing : Image
nothing = empty

empty_there : (k : ℕ) → get nothing k ≡ None
empty_there k = get-empty nat_cmp k

later : (k : ℕ) → 0x6003 ≤ k → get (placed empty 0x6000 (0xBE ∷ 0x00 ∷ 0x02 ∷ [])) k ≡ None
later k le =
    get_other (insert (insert empty 0x6000 0xBE) 0x6001 0x00) 0x6002 0x02 k (λ same. absurd (omega (arith, le, same)))
    ∙ (get_other (insert empty 0x6000 0xBE) 0x6001 0x00 k (λ same. absurd (omega (arith, le, same)))
    ∙ (get_other empty 0x6000 0xBE k (λ same. absurd (omega (arith, le, same))) ∙ empty_there k))

first_room : overlaps empty 0x6000 (0xBE ∷ 0x00 ∷ 0x02 ∷ []) ≡ false
first_room = rw (empty_there 0x6000, empty_there 0x6001, empty_there 0x6002) refl

second_room : overlaps (placed empty 0x6000 (0xBE ∷ 0x00 ∷ 0x02 ∷ [])) 0x6003 (0x90 ∷ 0x00 ∷ []) ≡ false
second_room = rw (later 0x6003 (omega arith), later 0x6004 (omega arith)) refl

first_assembled : assembled_line known [] [] one ≡ Ok first_placed
unfolding outcome token_at tokens_from
first_assembled = rw first_room refl

second_assembled : assembled_line known (one ∷ []) (first_placed ∷ []) two ≡ Ok second_placed
unfolding outcome
second_assembled = rw second_room refl

third_assembled : assembled_line known (two ∷ one ∷ []) (second_placed ∷ first_placed ∷ []) three ≡ Ok third_placed
unfolding outcome token_at tokens_from
third_assembled = rw start_known refl

layout_is : line_layout check (line_texts source) ≡ Ok (three ∷ two ∷ one ∷ [])
layout_is = ap (line_layout check) texts_are ∙ rw first_checked (rw second_checked (rw third_checked refl))

abbrev made : Program
made = record { image = image; entry = Some 0x6000; names = known }

program_is : program_of_source source ≡ Ok made
program_is =
    ap (λ answer. answer >>= program_after) layout_is
    ∙ rw first_assembled (rw second_assembled (rw third_assembled refl))

-- ---- its report

module _ (bytes : List ℕ) (are : AreBytesOf image bytes) (left : MachineState) where
  abbrev made_run : GplState → GplRun → ProgramRun
  made_run s found = record { image = image; begun = s; made = found; left = left }

  abbrev report_of : GplState → GplRun → Report
  report_of s found = Whole (program_status found.stop) (trace_lines (made_run s found))

  abbrev from : GplState
  from = begun bytes cells (replicate 8 0)

  abbrev to : GplState
  to = state bytes (zeros 16384) are second_cells 0x6005

  traced : report_of (start bytes 0x6000) (run 2 (start bytes 0x6000)) ≡ Whole Done (first_line ∷ second_line ∷ last_line ∷ dump_lines (showing to left))
  traced =
      ap (λ s. report_of s (run 2 s)) (start_is bytes)
      ∙ (ap (report_of from) (both_made bytes (zeros 16384) are)
      ∙ (ap (λ lines. Whole Done (lines ++ (state_line to ∷ dump_lines (showing to left)))) (steps_shown bytes (zeros 16384) are)
      ∙ ap (λ line. Whole Done (first_line ∷ second_line ∷ line ∷ dump_lines (showing to left))) (last_shown bytes (zeros 16384) are)))

reported : (report : Report) → ReportsProgram trace_lines 2 image 0x6000 report → IsTraced report
reported report it = record { dump = _; is = it.is ∙ traced it.bytes it.of_image it.left }

pub one_source_is_traced : OneSourceIsTraced
one_source_is_traced report on =
    reported report (subst (λ answer. ProgramReport (ReportsProgram trace_lines 2) answer report) program_is on)
