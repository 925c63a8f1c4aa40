-- The report of `watch`.
use Rattle.std.specs.Prelude.{◌≡◌, ℕ, List, ◌∷◌, ◌++◌, codes, Option, Some, None}
use Rattle.std.specs.Fmt.{decimal}
use Rattle.source_defs.specs.Digits.{hex_word, byte_digits}
use Rattle.console_defs.specs.Machine.{MachineState}
use Rattle.gpl_defs.specs.Image.{Image, AreBytesOf}
use Rattle.gpl_step_defs.specs.State.{GplState, start}
use Rattle.gpl_step_defs.specs.Run.{run}
use Rattle.interp_defs.specs.Programs.{RunsProgram}
use Rattle.watch_defs.specs.declared.item.Item.{Item}
use Rattle.watch_defs.specs.declared.found.Found.{Found}
use Rattle.watch_defs.specs.declared.found.Found.TheVariants as found
use Rattle.watch_defs.specs.Hits as hits
use Rattle.report_defs.specs.declared.status.Status.TheVariants.{Done}
use Rattle.report_defs.specs.Program.{program_lines, program_status, state_lines}
use Rattle.report_defs.specs.Report.{Report, Whole}

-- Profile: what changed is given by its lowest address and its new byte, and an address that was reached by `pc`.
abbrev pub change_text : Option (ℕ × ℕ) → List ℕ
change_text None = codes "pc"
change_text (Some change) = hex_word change.0 ++ (0x3D ∷ byte_digits change.1)

-- Profile: the number of the step, the address of its instruction, and the number of the item.
abbrev pub hit_line : ℕ → ℕ → ℕ → Option (ℕ × ℕ) → List ℕ
hit_line step from item change =
    codes "hit "
    ++ (decimal step
    ++ (codes " at "
    ++ (hex_word from ++ (codes " item " ++ (decimal item ++ (0x20 ∷ (change_text change ++ codes "\n")))))))

unfoldable pub no_hit_line : List ℕ
no_hit_line = codes "no hit\n"

-- how many steps are made: up to the hit, or as many as may be
abbrev pub steps_to : Found → ℕ → ℕ
steps_to (found.Hit step from item change) limit = step
steps_to found.None limit = limit

-- Profile: after the hit stand the state and the dump of that step; where there is none, what `run` writes.
abbrev pub watch_report : Found → ℕ → GplState → MachineState → Report
watch_report (found.Hit step from item change) limit s left =
    Whole Done (hit_line step from item change ∷ state_lines (run step s).last left)
watch_report found.None limit s left =
    Whole (program_status (run limit s).stop) (no_hit_line ∷ program_lines (run limit s).stop (run limit s).last left)

-- The report on a program whose items are watched for up to a number of steps from its entry.
pub record ReportsWatch (limit : ℕ) (items : List Item) (image : Image) (entry : ℕ) (report : Report) : Type 0 where
  pub bytes : List ℕ
  pub of_image : AreBytesOf image bytes
  pub left : MachineState
  pub found : Found
  pub is_found : found ≡ hits.found items limit (start bytes entry)
  pub runs : RunsProgram bytes entry (steps_to found limit) left
  pub is : report ≡ watch_report found limit (start bytes entry) left
