-- The changes of a line of `steps` begin after its front.
use Rattle.std.proofs.Common.{◌≡◌, ℕ, ◌+◌, true, List, [], ◌∷◌, ◌++◌, Option, Some, None, refl, arith}
use Rattle.std.specs.Prelude.{codes}
use Rattle.std.specs.List.{flat_map, list_all}
use Rattle.std.specs.Fmt.{decimal}
use Rattle.source_defs.specs.Digits.{byte_digits, word_digits}
use Rattle.change_defs.specs.Changes.{Change}
use Rattle.machine_change_defs.specs.declared.area.Area.{Area}
use Rattle.machine_change_defs.specs.declared.area.Area.TheVariants.{Scratchpad, LowExpansion, HighExpansion, Video, Registers}
use Rattle.machine_change_defs.specs.Seen.{size_of}
use Rattle.machine_change_defs.specs.Changes.{RegisterChange, LatchChanges, MemoryChanges}
use Rattle.machine_change_defs.specs.Text.{register_text, place_text, area_text}
use Rattle.change_defs.specs.Text.{change_text, change_texts}
use Rattle.machine_change_defs.specs.Text.{latch_text, held_text, mark_text, latches_text, bytes_text, ports_text}
use Rattle.machine_change_defs.specs.Text.{changes_text}
use Rattle.debug_report_defs.proofs.Fitting.{AllInside}
use Rattle.debug_report_defs.proofs.Digits.{decimal_passes}
use Rattle.debug_report_defs.proofs.LineSplit.{Begins, begins_feed}
use Rattle.debug_report_defs.proofs.Opening.{plain, Opens, opens_nothing, opens_then, opens_name, placed_opens}
use Rattle.debug_report_defs.proofs.MachineRead.{place_plain, ChangesFit}

registers_open : (cs : List RegisterChange) → Opens (flat_map register_text cs)
unfolding register_text
registers_open [] = opens_nothing
registers_open (c ∷ cs) =
    opens_then (register_text c) (flat_map register_text cs)
    (opens_name (0x52 ∷ decimal c.number) (byte_digits c.high ++ byte_digits c.low) (decimal_passes plain c.number refl)) (registers_open cs)

area_opens : (area : Area) (cs : List Change) → AllInside (size_of area) cs → Opens (area_text area cs)
unfolding area_text change_text
area_opens area [] all = opens_nothing
area_opens area (c ∷ cs) all =
    let i = all.0 in
    placed_opens (place_text area c.at) c (change_texts (place_text area) (c.at + c.count) cs) (place_plain area c.at (let some = i.some in let end = i.end in omega arith))

latch_opens : {T : Type 0} (name : List ℕ) (text : T → List ℕ) (o : Option T) → list_all plain name ≡ true → Opens (latch_text name text o)
latch_opens name text None e = opens_nothing
latch_opens name text (Some new) e = opens_name name (text new) e

latches_open : (l : LatchChanges) → Opens (latches_text l)
unfolding latches_text
latches_open l =
    opens_then _ _ (latch_opens (codes "VA") word_digits l.video_address refl)
    (opens_then _ _ (latch_opens (codes "VF") byte_digits l.video_fetched refl)
    (opens_then _ _ (latch_opens (codes "VH") held_text l.video_held refl)
    (opens_then _ _ (latch_opens (codes "GA") word_digits l.grom_counter refl)
    (opens_then _ _ (latch_opens (codes "GF") byte_digits l.grom_fetched refl) (latch_opens (codes "GH") mark_text l.grom_half_written refl)))))

pub changes_begin : (made : MemoryChanges) → ChangesFit made → Begins (changes_text made ++ codes "\n")
unfolding changes_text bytes_text ports_text
changes_begin made fit =
    let o = made.others in
    opens_then (flat_map register_text made.workspace) (bytes_text o ++ ports_text o) (registers_open made.workspace)
    (opens_then (bytes_text o) (ports_text o)
    (opens_then (area_text Scratchpad o.scratchpad) _ (area_opens Scratchpad o.scratchpad fit.scratchpad)
    (opens_then (area_text LowExpansion o.low_expansion) _ (area_opens LowExpansion o.low_expansion fit.low_expansion)
    (area_opens HighExpansion o.high_expansion fit.high_expansion)))
    (opens_then (area_text Video o.video) _ (area_opens Video o.video fit.video)
    (opens_then (area_text Registers o.registers) _ (area_opens Registers o.registers fit.registers) (latches_open o.latches))))
    (codes "\n") begins_feed
