-- The changes of a line of `gsteps` begin after its front.
use Rattle.std.proofs.Common.{◌≡◌, ℕ, ◌+◌, ◌<◌, true, List, [], ◌∷◌, ◌++◌, refl}
use Rattle.std.specs.Prelude.{codes}
use Rattle.std.specs.List.{list_all}
use Rattle.std.proofs.lemmas.Bool.{agree_below_at}
use Rattle.change_defs.specs.declared.part.Part.{Part}
use Rattle.change_defs.specs.declared.part.Part.TheVariants.{Cells, Video, Registers}
use Rattle.change_defs.specs.Changes.{Change}
use Rattle.change_defs.specs.Steps.{StepChanges}
use Rattle.change_defs.specs.Text.{size_of, place_text, change_text, change_texts, part_text, step_text}
use Rattle.debug_report_defs.proofs.TextRead.{AllFit, FitSteps}
use Rattle.debug_report_defs.proofs.Digits.{word_digits_pass}
use Rattle.debug_report_defs.proofs.LineSplit.{Begins, begins_feed}
use Rattle.debug_report_defs.proofs.Opening.{plain, Opens, opens_nothing, opens_then, placed_opens}

place_plain : (part : Part) (at : ℕ) → at < size_of part → list_all plain (place_text part at) ≡ true
place_plain Cells at lt = word_digits_pass plain (0x8300 + at) refl
place_plain Video at lt = word_digits_pass plain at refl
place_plain Registers at lt = rw (agree_below_at (λ d. plain (0x30 + d)) (λ d. true) 8 at refl lt) refl

part_opens : (part : Part) (cs : List Change) → AllFit part cs → Opens (part_text part cs)
unfolding part_text change_text
part_opens part [] all = opens_nothing
part_opens part (c ∷ cs) all = placed_opens (place_text part c.at) c (change_texts (place_text part) (c.at + c.count) cs) (place_plain part c.at all.0.at)

pub step_begins : (made : StepChanges) → FitSteps made → Begins (step_text made ++ codes "\n")
unfolding step_text
step_begins made fit =
    opens_then (part_text Cells made.cells) (part_text Video made.vdp ++ part_text Registers made.registers) (part_opens Cells made.cells fit.cells)
    (opens_then (part_text Video made.vdp) (part_text Registers made.registers) (part_opens Video made.vdp fit.vdp)
    (part_opens Registers made.registers fit.registers))
    (codes "\n") begins_feed
