-- One source, and what `trace 2` reports of it.
use Rattle.std.specs.Prelude.{◌≡◌, ℕ, List, ◌∷◌, codes}
use Rattle.report_defs.specs.declared.command.Command.TheVariants.{Trace}
use Rattle.report_defs.specs.declared.status.Status.TheVariants.{Done}
use Rattle.report_defs.specs.Report.{Report, Whole, ReportOn}

abbrev pub source : List ℕ
source = codes "START ST @>8300,>02\n INC @>8300\n END START\n"

abbrev pub first_line : List ℕ
first_line = codes "     1 >6000 S00 D9F R7E ST @>8300,>02 C1 >8300=02\n"

abbrev pub second_line : List ℕ
second_line = codes "     2 >6003 S00 D9F R7E INC @>8300 C2 >8300=03\n"

abbrev pub last_line : List ℕ
last_line = codes "gpl >6005 SC0 D9F R7E\n"

-- its report is these lines, and then those of the dump
pub record IsTraced (report : Report) : Type 0 where
  pub dump : List (List ℕ)
  pub is : report ≡ Whole Done (first_line ∷ second_line ∷ last_line ∷ dump)

-- the law, which is proved by computation
abbrev pub OneSourceIsTraced : Type 0
OneSourceIsTraced = (report : Report) → ReportOn (Trace 2) source report → IsTraced report
