-- The items that are watched, and the bytes that are kept of them.
use Rattle.std.proofs.Common.{◌≡◌, ℕ, suc, ◌+◌, ◌-◌, ◌≤◌, Bool, true, false, cond, nat_eq, ◌&&◌, arith}
use Rattle.std.proofs.Common.{List, [], ◌∷◌, length, map, take, Option, Some, None, refl, sym, ap, ap₂, ◌∙◌}
use Rattle.std.specs.Prelude.{if◌then◌else◌, slice_get, slice_range, is_some, option_map, option_and_then}
use Rattle.std.proofs.lemmas.Bool.Decides.{nat_tests}
use Rattle.std.proofs.lemmas.List.{take_all}
use Rattle.std.proofs.lemmas.Option.{same_Some, slice_get-map}
use Rattle.gpl_defs.specs.declared.instruction.Space.TheVariants.{Cpu, Vdp}
use Rattle.base_defs.specs.Lists.{common_length, first_difference}
use Rattle.gpl_step_defs.specs.State.{GplState}
use Rattle.watch_defs.specs.declared.item.Item.{Item}
use Rattle.watch_defs.specs.declared.item.Item.TheVariants.{Range, Pc}
use Rattle.watch_defs.specs.Items.{base_of, item_bytes, holds_since, holds, change_since, change}
use Rattle.watch_defs.specs.Hits.{first_item, change_at}
use Rattle.watch_defs.proofs.Places.{position_mapped, Nowhere, nowhere}
use Rattle.gpl_watch.specs.Watches.{WatchedItem, watched_in, watching, items_of, Keeps, first_kept}

-- the items of those that are watched
pub items_again : (items : List Item) (s : GplState) → items_of (watching items s) ≡ items
items_again [] s = refl
items_again (item ∷ items) s = ap (λ rest. item ∷ rest) (items_again items s)

-- all items with the bytes of a state
kept_again : (watched : List WatchedItem) (s : GplState)
    → map (λ w. watched_in s w.item) watched ≡ watching (items_of watched) s
kept_again [] s = refl
kept_again (w ∷ watched) s = ap (λ rest. watched_in s w.item ∷ rest) (kept_again watched s)

-- A list has what a state shows of some items.
module _ (items : List Item) (s : GplState) (watched : List WatchedItem) where
  pub kept_items : watched ≡ watching items s → items_of watched ≡ items
  kept_items is = ap items_of is ∙ items_again items s

  -- it keeps what the state shows of its own
  pub keeps : watched ≡ watching items s → Keeps watched s
  keeps is = is ∙ ap (λ (list : List Item). watching list s) (sym (kept_items is))

  -- once all are watched
  pub all_watched : (count : ℕ) → watched ≡ watching (take count items) s → length items ≤ count
      → watched ≡ watching items s
  all_watched count is all = is ∙ ap (λ (list : List Item). watching list s) (take_all count items all)

  -- kept anew, it has what another state shows
  pub kept_from : (t : GplState) → watched ≡ watching items s
      → map (λ w. watched_in t w.item) watched ≡ watching items t
  kept_from t is = kept_again watched t ∙ ap (λ (list : List Item). watching list t) (kept_items is)

  -- the first that holds by the bytes that are kept is the first that holds
  pub first_is : (t : GplState) → watched ≡ watching items s → first_kept t watched ≡ first_item items s t
  first_is t is =
      ap (first_kept t) is
      ∙ position_mapped (λ (w : WatchedItem). holds_since w.item w.kept t) (watched_in s) items

  -- its change by the bytes that are kept is its change
  pub change_kept : (t : GplState) (place : ℕ) (w : WatchedItem) → watched ≡ watching items s
      → slice_get watched place ≡ Some w → change_since w.item w.kept t ≡ change_at items place s t
  change_kept t place w is at =
      by (slice_get items place) refl
      (sym (slice_get-map (watched_in s) items place)
      ∙ ap (λ (ws : List WatchedItem). slice_get ws place) (sym is) ∙ at)
    where
      by : (o : Option Item) → slice_get items place ≡ o → option_map (watched_in s) o ≡ Some w
          → change_since w.item w.kept t ≡ change_at items place s t
      by None here e = absurd (cc)
      by (Some item) here e =
          ap (λ (v : WatchedItem). change_since v.item v.kept t) (sym (same_Some (watched_in s item) w e))
          ∙ sym (ap (option_and_then (λ i. change i s t)) here)

same_byte : (x y : ℕ) → nat_eq x y ≡ true → x ≡ y
same_byte x y e = grind (arith, nat_tests)

-- lists that have all their places in common are equal
equal : (a b : List ℕ) → common_length a b ≡ length a → common_length a b ≡ length b → a ≡ b
equal [] [] p q = refl
equal [] (y ∷ b) p q = let no : ⊥ = omega arith in absurd no
equal (x ∷ a) [] p q = let no : ⊥ = omega arith in absurd no
equal (x ∷ a) (y ∷ b) p q = by (nat_eq x y) refl p q (equal a b)
  where
    by : (same : Bool) → nat_eq x y ≡ same → cond same (1 + common_length a b) 0 ≡ suc (length a)
        → cond same (1 + common_length a b) 0 ≡ suc (length b)
        → (common_length a b ≡ length a → common_length a b ≡ length b → a ≡ b) → x ∷ a ≡ y ∷ b
    by true e p q rest = ap₂ (λ h t. h ∷ t) (same_byte x y e) (rest (omega arith) (omega arith))
    by false e p q rest = let no : ⊥ = omega arith in absurd no

no_difference : (a b : List ℕ) → is_some (first_difference a b) ≡ false → a ≡ b
no_difference a b = by (nat_eq (common_length a b) (length a) && nat_eq (common_length a b) (length b)) refl
  where
    by : (ends : Bool)
        → (nat_eq (common_length a b) (length a) && nat_eq (common_length a b) (length b)) ≡ ends
        → is_some (if ends then None else Some (common_length a b)) ≡ false → a ≡ b
    by true is e = equal a b (grind (arith, nat_tests)) (grind (arith, nat_tests))
    by false is e = absurd (cc)

-- an item that does not hold has the same bytes
same_bytes : (item : Item) (s t : GplState) → holds item s t ≡ false → item_bytes item t ≡ item_bytes item s
same_bytes (Range space at len) s t e =
    sym (no_difference (item_bytes (Range space at len) s) (item_bytes (Range space at len) t) e)
same_bytes (Pc at) s t e = refl

all_same : (items : List Item) (s t : GplState) → Nowhere (λ item. holds item s t) items
    → watching items t ≡ watching items s
all_same [] s t none = refl
all_same (item ∷ items) s t none =
    let head : watched_in t item ≡ watched_in s item =
    ap (λ (bytes : List ℕ). made item bytes) (same_bytes item s t none.0) in
    ap₂ (λ w rest. w ∷ rest) head (all_same items s t none.1)
  where
    made : Item → List ℕ → WatchedItem
    made item bytes = record { item = item; kept = bytes }

-- where no item holds, what is kept is what is shown
pub still_kept : (items : List Item) (s t : GplState) (watched : List WatchedItem) → watched ≡ watching items s
    → first_item items s t ≡ None → watched ≡ watching items t
still_kept items s t watched is none = is ∙ sym (all_same items s t (nowhere (λ item. holds item s t) items none))

-- states with the same cells and the same video memory show the same
same_range : (item : Item) (a b : GplState) → a.cells ≡ b.cells → a.vdp ≡ b.vdp → item_bytes item a ≡ item_bytes item b
same_range (Range Cpu at len) a b cells vdp =
    ap (λ (bytes : List ℕ). slice_range bytes (at - base_of Cpu) (at - base_of Cpu + len)) cells
same_range (Range Vdp at len) a b cells vdp =
    ap (λ (bytes : List ℕ). slice_range bytes (at - base_of Vdp) (at - base_of Vdp + len)) vdp
same_range (Pc at) a b cells vdp = refl

pub same_watching : (items : List Item) (a b : GplState) → a.cells ≡ b.cells → a.vdp ≡ b.vdp
    → watching items a ≡ watching items b
same_watching [] a b cells vdp = refl
same_watching (item ∷ items) a b cells vdp =
    ap₂ (λ (bytes : List ℕ) (rest : List WatchedItem). record { item = item; kept = bytes } ∷ rest)
    (same_range item a b cells vdp) (same_watching items a b cells vdp)
