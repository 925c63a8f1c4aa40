-- The lines that standard error gets.
--
-- Profile: a fault line is a text and a line feed.
use Rattle.std.specs.Prelude.{ℕ, List, ◌++◌, codes}
use Rattle.std.specs.Fmt.{decimal}
use Rattle.report_defs.specs.declared.status.Status.{Status}
use Rattle.report_defs.specs.declared.status.Status.TheVariants as status
use Rattle.report_defs.specs.declared.fault.Fault.{Fault}
use Rattle.report_defs.specs.declared.fault.Fault.TheVariants.{Usage, TooLarge, PastEnd, NoEntry}

-- Profile: words that are no command of `bench` are answered by how it is called, which names no files and no `watch`.
unfoldable pub usage_line : List ℕ
usage_line = codes "usage: ti_bench asm|link|dis ADDR|exec N|gasm|gdis ADDR|interp|run N|trace N|demo K\n"

-- a refused line, by its number from 1 and its cause
unfoldable pub refusal_line : ℕ → List ℕ → List ℕ
refusal_line line text = codes "line " ++ (decimal line ++ (codes ": " ++ (text ++ codes "\n")))

abbrev pub fault_line : Fault → List ℕ
fault_line Usage = usage_line
fault_line TooLarge = codes "too large\n"
fault_line PastEnd = codes "past the end of memory\n"
fault_line NoEntry = codes "no entry\n"

-- Profile: words that are no command have a status of their own; else the input is refused.
abbrev pub fault_status : Fault → Status
fault_status Usage = status.Usage
fault_status _ = status.Refused
