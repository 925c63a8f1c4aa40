-- There is one report of counts.
use Rattle.std.proofs.Common.{◌≡◌, ℕ, zero, suc, ◌+◌, ◌≤◌, ◌<◌, List, ◌∷◌, ◌++◌, map, ◌-◌, append_assoc, refl, sym, ap, ◌∙◌, subst, arith}
use Rattle.std.specs.List.{range_with_len}
use Rattle.console_defs.specs.Machine.{MachineState}
use Rattle.gpl_defs.specs.Image.{Image}
use Rattle.gpl_defs.proofs.ImageLaws.{bytes_alone}
use Rattle.gpl_step_defs.specs.State.{GplState, start}
use Rattle.gpl_step_defs.specs.Run.{run}
use Rattle.interp_defs.specs.Programs.{RunsProgram}
use Rattle.interp_defs.proofs.OneMachine.{one_machine_is_left}
use Rattle.report_defs.proofs.Ranges.{mapped_split}
use Rattle.report_defs.specs.Laws.{IsPrefixOf}
use Rattle.report_defs.specs.declared.status.Status.TheVariants.{Done}
use Rattle.report_defs.specs.Program.{program_status}
use Rattle.report_defs.specs.Report.{Report, Whole, run_lines}
use Rattle.gpl_counts.specs.Counts.{counts_alone, line_after, lines_by, ReportsCounts, ShowsCounts}
use Rattle.gpl_counts.specs.Laws.{OneReportOfCounts}
use Rattle.gpl_counts.proofs.Counts.{run_made, shorter, machines}

abbrev count_lines : GplState → (ℕ → MachineState) → ℕ → List (List ℕ)
count_lines s machine count = lines_by counts_alone s machine count

-- functions that agree on some numbers in a row map them to one list
same_map : {B : Type 0} (f g : ℕ → B) (from count : ℕ) → ((i : ℕ) → i < from + count → f i ≡ g i)
    → map f (range_with_len from count) ≡ map g (range_with_len from count)
same_map f g from zero same = refl
same_map f g from (suc count) same =
    let head = same from (omega arith) in
    let rest = same_map f g (from + 1) count (λ i below. same i (omega (arith, below))) in
    λ i. head i ∷ rest i

-- the machines of two runs give one list of lines
pub same_lines : (s : GplState) (f g : ℕ → MachineState) (count : ℕ) → ((i : ℕ) → i ≤ count → f i ≡ g i)
    → count_lines s f count ≡ count_lines s g count
unfolding lines_by
same_lines s f g count same =
    same_map _ _ 0 count
    (λ i below. ap (λ (x : MachineState). line_after counts_alone s i x.count) (same (i + 1) (omega (arith, below))))

module _ (limit : ℕ) (image : Image) (entry : ℕ) where
  abbrev report_by : List ℕ → MachineState → (ℕ → MachineState) → Report
  report_by b x machine =
      let s = start b entry in
      let r = run limit s in
      Whole (program_status r.stop) (count_lines s machine r.done ++ run_lines (record { image = image; begun = s; made = r; left = x }))

  -- a run of the image, by which a report is made
  abbrev Makes : Report → List ℕ → Type 0
  Makes report b = (x : MachineState) × (f : RunsProgram b entry limit x) × (report ≡ report_by b x f.machine)

  one_made : (b : List ℕ) (first second : Report) → Makes first b → Makes second b → first ≡ second
  one_made b first second (x, f, is) (y, g, other) =
      let s = start b entry in
      let r = run limit s in
      let lines : count_lines s f.machine r.done ≡ count_lines s g.machine r.done =
      same_lines s f.machine g.machine r.done (λ i within. machines f i within (g.machine i) (shorter g i within)) in
      let left : x ≡ y = one_machine_is_left b entry limit x y f g in
      let by : List (List ℕ) → MachineState → Report =
      λ l z. Whole (program_status r.stop) (l ++ run_lines (record { image = image; begun = s; made = r; left = z })) in
      is ∙ ap (λ l. by l x) lines ∙ ap (by (count_lines s g.machine r.done)) left ∙ sym other

pub one_report_of_counts : OneReportOfCounts
one_report_of_counts limit image entry first second p q =
    let bytes : p.bytes ≡ q.bytes = bytes_alone image p.bytes q.bytes p.of_image q.of_image in
    one_made limit image entry q.bytes first second
    (subst (Makes limit image entry first) bytes (p.left, p.runs, p.is)) (q.left, q.runs, q.is)

-- ---- the lines of the steps that were made by then begin a report

-- the lines of fewer steps are a front of the lines of more
later : (s : GplState) (f : ℕ → MachineState) (made done : ℕ) → made ≤ done
    → (rest : List (List ℕ)) × (count_lines s f done ≡ count_lines s f made ++ rest)
unfolding lines_by
later s f made done le =
    let sum : made + (done - made) ≡ done = omega arith in
    let line : ℕ → List ℕ = λ made. line_after counts_alone s made (f (made + 1)).count in
    (map line (range_with_len made (done - made)), ap (λ (n : ℕ). count_lines s f n) (sym sum) ∙ mapped_split line made (done - made))

module _ (limit : ℕ) (image : Image) (entry : ℕ) (front report : Report) where
  begins_at : (b : List ℕ) (made : ℕ) → made ≤ (run limit (start b entry)).done → (x : MachineState)
      → (p : RunsProgram b entry made x) → front ≡ Whole Done (count_lines (start b entry) p.machine made)
      → Makes limit image entry report b → IsPrefixOf front report
  begins_at b made within x p is (y, q, all) =
      let s = start b entry in
      let r = run limit s in
      let own = run_made limit s made within in
      let same : count_lines s p.machine made ≡ count_lines s q.machine made =
      same_lines s p.machine q.machine made
      (λ i le. machines p i (omega (arith, le, own.0)) (q.machine i) (shorter q i (omega (arith, le, within)))) in
      let rest = later s q.machine made r.done within in
      let tail = run_lines (record { image = image; begun = s; made = r; left = y }) in
      let lines : count_lines s q.machine r.done ++ tail ≡ count_lines s p.machine made ++ (rest.0 ++ tail) =
      ap (λ (l : List (List ℕ)). l ++ tail) (rest.1 ∙ ap (λ (l : List (List ℕ)). l ++ rest.0) (sym same))
      ∙ append_assoc (count_lines s p.machine made) rest.0 tail in
      subst (λ (f : Report). IsPrefixOf f report) (sym is)
      (program_status r.stop, rest.0 ++ tail, all ∙ ap (Whole (program_status r.stop)) lines)

pub counts_begin : (limit : ℕ) (image : Image) (entry : ℕ) (front report : Report) → ShowsCounts limit image entry front
    → ReportsCounts limit image entry report → IsPrefixOf front report
counts_begin limit image entry front report p q =
    let bytes : q.bytes ≡ p.bytes = bytes_alone image q.bytes p.bytes q.of_image p.of_image in
    begins_at limit image entry front report p.bytes p.made p.within p.left p.runs p.is
    (subst (Makes limit image entry report) bytes (q.left, q.runs, q.is))
