-- The summary of a run, which `demo` reports.
use Rattle.std.specs.Prelude.{ℕ, ◌+◌, List, [], ◌∷◌, ◌++◌, codes, Option, Some, None}
use Rattle.std.specs.Fmt.{decimal}
use Rattle.console_defs.specs.Machine.{MachineState}
use Rattle.base_defs.specs.Lists.{sum_bytes}
use Rattle.gpl_step_defs.specs.declared.reason.Reason.{Reason}
use Rattle.gpl_step_defs.specs.declared.reason.Reason.TheVariants.{Exit}
use Rattle.gpl_step_defs.specs.Reasons.{number_of}
use Rattle.gpl_step_defs.specs.Run.{GplRun}
use Rattle.report_defs.specs.declared.summary.Summary.{Summary}

-- Profile: a summary has the number of the command, how many bytes the image has, how many steps were done, the sums
-- of the visible cells and of the video memory after them, why the program ended, and the machine's count of executed
-- instructions.
abbrev pub summary_of : (number image : ℕ) → GplRun → MachineState → Summary
summary_of number image r left =
    record {
      number = number;
      image = image;
      steps = r.done;
      pad = sum_bytes r.last.cells;
      vdp = sum_bytes r.last.vdp;
      ended = r.stop;
      count = left.count;
    }

-- Profile: each but the reason is given by a label and a number in decimal digits.
unfoldable pub counted_line : List ℕ → ℕ → List ℕ
counted_line label count = label ++ (decimal count ++ codes "\n")

-- Profile: a program that leaves is reported by a word, and one that is stopped by the number of the reason, which is
-- one digit. One that did neither has made the most steps.
abbrev pub ended_line : Option Reason → List ℕ
ended_line None = codes "limit\n"
ended_line (Some Exit) = codes "exit\n"
ended_line (Some reason) = codes "stop " ++ (0x30 + number_of reason) ∷ codes "\n"

abbrev pub summary_lines : Summary → List (List ℕ)
summary_lines s =
    counted_line (codes "demo ") s.number
    ∷ counted_line (codes "image ") s.image
    ∷ counted_line (codes "steps ") s.steps
    ∷ counted_line (codes "pad ") s.pad
    ∷ counted_line (codes "vdp ") s.vdp
    ∷ ended_line s.ended
    ∷ counted_line (codes "count ") s.count
    ∷ []
