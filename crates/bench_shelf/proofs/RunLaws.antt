-- Places that are kept by runs.
use Rattle.std.proofs.Common.{◌≡◌, ℕ, zero, suc, ◌+◌, ◌-◌, ◌<◌, ◌≤◌, List, [], ◌∷◌, ◌++◌, Some, length, take, drop, set, get_or, refl, sym, ap, ◌∙◌, arith}
use Rattle.std.proofs.Common.{append_assoc, append-nil}
use Rattle.std.specs.Prelude.{Option, slice_get}
use Rattle.std.specs.Option.{unwrap_or}
use Rattle.std.proofs.Math.Seq.{split_at}
use Rattle.std.proofs.lemmas.Grind.{flat_map-append}
use Rattle.std.proofs.Math.ListN.{drop_of_length-le}
use Rattle.std.proofs.lemmas.List.{drop_more, set_split}
use Rattle.shelf_defs.specs.Copied as spec
use Rattle.bench_shelf.specs.declared.place.Place.{Place}
use Rattle.bench_shelf.specs.declared.run.Run.{Run}
use Rattle.bench_shelf.specs.CopyAnswers.{model_of_place}
use Rattle.bench_shelf.specs.Runs.{places_from, run_places, places_of, ComesNext}

-- one place more
from_more : (file : Option (List ℕ)) (line count : ℕ)
    → places_from file line (suc count) ≡ places_from file line count ++ record { file = file; line = line + count } ∷ []
from_more file line zero =
    let here : line ≡ line + 0 = omega arith in
    ap (λ n. record { file = file; line = n } ∷ []) here
from_more file line (suc count) =
    let next : line + 1 + count ≡ line + suc count = omega arith in
    ap (λ others. record { file = file; line = line } ∷ others) (from_more file (line + 1) count
    ∙ ap (λ n. places_from file (line + 1) count ++ record { file = file; line = n } ∷ []) next)

of_last : (first : List Run) (run : Run) → places_of (first ++ run ∷ []) ≡ places_of first ++ run_places run
of_last first run = flat_map-append run_places first (run ∷ []) ∙ ap (λ places. places_of first ++ places) (append-nil (run_places run))

-- the last run with the place that comes next
pub places_next : (old mid new : List Run) (last longer : Run) (place : Place) → old ≡ mid ++ last ∷ [] → ComesNext last place
    → longer.file ≡ last.file → longer.line ≡ last.line → longer.count ≡ last.count + 1 → new ≡ mid ++ longer ∷ []
    → places_of new ≡ places_of old ++ model_of_place place ∷ []
places_next old mid new last longer place was next same first count is =
    let file = last.file in
    let line = last.line in
    let more : suc last.count ≡ last.count + 1 = omega arith in
    let run_is : run_places longer ≡ run_places last ++ model_of_place place ∷ [] =
    rw (same, first, count ∙ sym more, from_more file line last.count, next.file, next.line) refl in
    rw (is, was, of_last mid longer, of_last mid last, run_is, append_assoc (places_of mid) (run_places last) (model_of_place place ∷ [])) refl

-- the last run is one place longer
pub places_grown : (runs : List Run) (at : ℕ) (last longer : Run) (place : Place) → at + 1 ≡ length runs → last ≡ get_or runs at last
    → ComesNext last place → longer.file ≡ last.file → longer.line ≡ last.line → longer.count ≡ last.count + 1
    → places_of (set runs at longer) ≡ places_of runs ++ model_of_place place ∷ []
places_grown runs at last longer place size is next same first count =
    let within : at < length runs = omega arith in
    let rest : drop (suc at) runs ≡ [] = drop_of_length-le runs {i = suc at} (omega arith) in
    let old : runs ≡ take at runs ++ last ∷ [] =
    split_at runs at last within ∙ (ap (λ (found : Run). take at runs ++ found ∷ drop (suc at) runs) (sym is) ∙ ap (λ after. take at runs ++ last ∷ after) rest) in
    let new : set runs at longer ≡ take at runs ++ longer ∷ [] =
    set_split runs at longer within ∙ ap (λ after. take at runs ++ longer ∷ after) rest in
    places_next runs (take at runs) (set runs at longer) last longer place old next same first count new

-- a place of a run, and one after it
get_in : (file : Option (List ℕ)) (line count left : ℕ) (others : List spec.Place) → left < count
    → slice_get (places_from file line count ++ others) left ≡ Some (record { file = file; line = line + left })
get_in file line zero left others lt = absurd (omega (arith, lt))
get_in file line (suc count) zero others lt = let here : line ≡ line + 0 = omega arith in ap (λ n. Some (record { file = file; line = n })) here
get_in file line (suc count) (suc left) others lt =
    let next : line + 1 + left ≡ line + suc left = omega arith in
    get_in file (line + 1) count left others (omega (arith, lt)) ∙ ap (λ n. Some (record { file = file; line = n })) next

get_after : (file : Option (List ℕ)) (line count left : ℕ) (others : List spec.Place) → count ≤ left
    → slice_get (places_from file line count ++ others) left ≡ slice_get others (left - count)
get_after file line zero left others le = let here : left ≡ left - 0 = omega arith in ap (slice_get others) here
get_after file line (suc count) zero others le = absurd (omega (arith, le))
get_after file line (suc count) (suc left) others le =
    let next : left - count ≡ suc left - suc count = omega arith in
    get_after file (line + 1) count left others (omega (arith, le)) ∙ ap (slice_get others) next

-- the place after a number of others of the runs
abbrev pub place_at : spec.Place → List Run → ℕ → spec.Place
place_at none runs left = unwrap_or (slice_get (places_of runs) left) none

pub at_here : (none : spec.Place) (runs : List Run) (at left line : ℕ) (run : Run) → at < length runs → run ≡ get_or runs at run → left < run.count
    → line ≡ run.line + left → record { file = run.file; line = line } ≡ place_at none (drop at runs) left
at_here none runs at left line run lt is inside line_is =
    let rest : drop at runs ≡ run ∷ drop (at + 1) runs = drop_more runs at run lt ∙ ap (λ (found : Run). found ∷ drop (at + 1) runs) (sym is) in
    rw (line_is, rest, get_in run.file run.line run.count left (places_of (drop (at + 1) runs)) inside) refl

pub at_after : (none : spec.Place) (runs : List Run) (at left : ℕ) (run : Run) → at < length runs → run ≡ get_or runs at run → run.count ≤ left
    → place_at none (drop (at + 1) runs) (left - run.count) ≡ place_at none (drop at runs) left
at_after none runs at left run lt is past =
    let rest : drop at runs ≡ run ∷ drop (at + 1) runs = drop_more runs at run lt ∙ ap (λ (found : Run). found ∷ drop (at + 1) runs) (sym is) in
    rw (rest, get_after run.file run.line run.count left (places_of (drop (at + 1) runs)) past) refl
