-- The changes of the instructions give the memory.
use Rattle.std.proofs.Common.{◌≡◌, ℕ, zero, suc, ◌+◌, ◌-◌, ◌*◌, ◌≤◌, Bool, true, false, cond, nat_eq, ◌&&◌, List, [], ◌∷◌, ◌++◌, length, take, drop, get_or}
use Rattle.std.proofs.Common.{Option, Some, None, refl, sym, ap, ap₂, ◌∙◌, append_assoc, length-append, length-drop}
use Rattle.std.proofs.Common.{arith, rules}
use Rattle.std.proofs.Math.ListN.{set}
use Rattle.std.specs.List.{flat_map, range_with_len}
use Rattle.std.specs.Prelude.{slice_range, nat_le}
use Rattle.std.proofs.lemmas.Bool.Decides.{nat_tests}
use Rattle.std.proofs.lemmas.List.{get_or-append_right, set-append_right, length-take-le}
use Rattle.change_defs.proofs.Lead.{changes_lead}
use Rattle.console_defs.specs.Memory.{IsMemory}
use Rattle.console_defs.specs.Machine.{MachineState}
use Rattle.console_defs.specs.Runs.{after_steps}
use Rattle.machine_change_defs.specs.declared.area.Area.{Area}
use Rattle.machine_change_defs.specs.declared.area.Area.TheVariants.{Scratchpad, LowExpansion, HighExpansion, Video, Registers}
use Rattle.machine_change_defs.specs.declared.latches.Latches.{Latches}
use Rattle.machine_change_defs.specs.Seen.{SeenMemory, seen_memory, size_of, area_bytes, with_bytes, workspace_place, workspace_at, replaced, with_workspace}
use Rattle.machine_change_defs.specs.Changes.{RegisterChange, register_change, register_changes, registers_applied, number_if_changed, held_if_changed, mark_if_changed, renewed}
use Rattle.machine_change_defs.specs.Changes.{latch_changes, latches_applied, other_changes, others_applied, changes_at, changes_applied}
use Rattle.machine_change_defs.specs.Laws.{ChangesGiveMemory, memory_by_changes}
use Rattle.machine_change_defs.proofs.Keeping.{pick}
use Rattle.machine_change_defs.proofs.Kept.{steps_leave}

-- a list whose front has a number of bytes
module _ (p : List ℕ) (n : ℕ) (size : length p ≡ 2 * n) (x y : ℕ) (b : List ℕ) where
  first_at : get_or (p ++ x ∷ y ∷ b) (2 * n) 0 ≡ x
  first_at = let e : 2 * n - 2 * n ≡ 0 = omega arith in get_or-append_right p (x ∷ y ∷ b) (2 * n) (2 * n) 0 size (omega arith) ∙ ap (λ k. get_or (x ∷ y ∷ b) k 0) e

  second_at : get_or (p ++ x ∷ y ∷ b) (2 * n + 1) 0 ≡ y
  second_at = let e : 2 * n + 1 - 2 * n ≡ 1 = omega arith in get_or-append_right p (x ∷ y ∷ b) (2 * n) (2 * n + 1) 0 size (omega arith) ∙ ap (λ k. get_or (x ∷ y ∷ b) k 0) e

  both_set : (u v : ℕ) → set (set (p ++ x ∷ y ∷ b) (2 * n) u) (2 * n + 1) v ≡ p ++ u ∷ v ∷ b
  both_set u v =
      let e : 2 * n - 2 * n ≡ 0 = omega arith in
      let f : 2 * n + 1 - 2 * n ≡ 1 = omega arith in
      ap (λ l. set l (2 * n + 1) v) (set-append_right p (x ∷ y ∷ b) (2 * n) (2 * n) u size (omega arith) ∙ ap (λ k. p ++ set (x ∷ y ∷ b) k u) e)
      ∙ set-append_right p (u ∷ y ∷ b) (2 * n) (2 * n + 1) v size (omega arith) ∙ ap (λ k. p ++ set (u ∷ y ∷ b) k v) f

more : (p : List ℕ) (x y : ℕ) (b : List ℕ) → (p ++ x ∷ y ∷ []) ++ b ≡ p ++ x ∷ y ∷ b
more p x y b = append_assoc p (x ∷ y ∷ []) b

longer : (p : List ℕ) (x y n : ℕ) → length p ≡ 2 * n → length (p ++ x ∷ y ∷ []) ≡ 2 * (n + 1)
longer p x y n size = length-append p (x ∷ y ∷ []) ∙ omega (arith, size)

-- the registers from a number on
registers_from : (q p b a : List ℕ) (n count : ℕ) → length q ≡ 2 * n → length p ≡ 2 * n → length b ≡ 2 * count → length a ≡ 2 * count
    → registers_applied (flat_map (register_change (q ++ b) (p ++ a)) (range_with_len n count)) (p ++ b) ≡ p ++ a
registers_from q p [] [] n zero qs ps bs al = refl
registers_from q p (x ∷ y ∷ b) (u ∷ v ∷ a) n (suc count) qs ps bs al =
    rw (first_at q n qs x y b, second_at q n qs x y b, first_at p n ps u v a, second_at p n ps u v a)
    (by (nat_eq x u) (nat_eq y v) refl refl
    (rest (registers_from (q ++ x ∷ y ∷ []) (p ++ u ∷ v ∷ []) b a (n + 1) count (longer q x y n qs) (longer p u v n ps) (omega arith) (omega arith))))
  where
    others : List RegisterChange
    others = flat_map (register_change (q ++ x ∷ y ∷ b) (p ++ u ∷ v ∷ a)) (range_with_len (n + 1) count)

    rest : registers_applied (flat_map (register_change ((q ++ x ∷ y ∷ []) ++ b) ((p ++ u ∷ v ∷ []) ++ a)) (range_with_len (n + 1) count)) ((p ++ u ∷ v ∷ []) ++ b) ≡ (p ++ u ∷ v ∷ []) ++ a
        → registers_applied others (p ++ u ∷ v ∷ b) ≡ p ++ u ∷ v ∷ a
    rest next = rw (more q x y b, more p u v a, more p u v b) at next

    by : (s t : Bool) → nat_eq x u ≡ s → nat_eq y v ≡ t → registers_applied others (p ++ u ∷ v ∷ b) ≡ p ++ u ∷ v ∷ a
        → registers_applied (cond (s && t) [] (record { number = n; high = u; low = v } ∷ []) ++ others) (p ++ x ∷ y ∷ b) ≡ p ++ u ∷ v ∷ a
    by true true e f left =
        let same : x ≡ u = grind (arith, nat_tests) in
        let also : y ≡ v = grind (arith, nat_tests) in
        ap₂ (λ z w. registers_applied others (p ++ z ∷ w ∷ b)) same also ∙ left
    by _ _ e f left = ap (registers_applied others) (both_set p n ps x y b u v) ∙ left
registers_from q p _ _ n _ qs ps bs al = let no : ⊥ = omega arith in absurd no

registers_lead : (b a : List ℕ) → length b ≡ 32 → length a ≡ 32 → registers_applied (register_changes b a) b ≡ a
registers_lead b a bl al = registers_from [] [] b a 0 16 refl refl bl al

-- ---- what the ports hold
number_renewed : (old new : ℕ) → renewed (number_if_changed old new) old ≡ new
number_renewed old new = pick (nat_eq old new) (λ e. rw e (grind (arith, nat_tests))) (λ e. rw e refl)

held_renewed : (old new : Option ℕ) → renewed (held_if_changed old new) old ≡ new
held_renewed None None = refl
held_renewed (Some old) (Some new) =
    pick (nat_eq old new)
    (λ e. rw e (ap Some (let same : old ≡ new = grind (arith, nat_tests) in same))) (λ e. rw e refl)
held_renewed _ _ = refl

mark_renewed : (old new : Bool) → renewed (mark_if_changed old new) old ≡ new
mark_renewed false false = refl
mark_renewed true false = refl
mark_renewed _ _ = refl

latches_lead : (old new : Latches) → latches_applied (latch_changes old new) old ≡ new
latches_lead old new =
    rw (
      number_renewed old.video_address new.video_address,
      number_renewed old.video_fetched new.video_fetched,
      held_renewed old.video_held new.video_held,
      number_renewed old.grom_counter new.grom_counter,
      number_renewed old.grom_fetched new.grom_fetched,
      mark_renewed old.grom_half_written new.grom_half_written,
    ) refl

-- ---- all of it

-- every area has its size
record Sized (m : SeenMemory) : Type 0 where
  scratchpad : length m.scratchpad ≡ 256
  low_expansion : length m.low_expansion ≡ 8192
  high_expansion : length m.high_expansion ≡ 24576
  video : length m.video ≡ 16384
  registers : length m.registers ≡ 8

abbrev seen_of : List ℕ → List ℕ → List ℕ → List ℕ → List ℕ → Latches → SeenMemory
seen_of s l h v r t =
    record { scratchpad = s; low_expansion = l; high_expansion = h; video = v; registers = r; latches = t }

others_lead : (m n : SeenMemory) → Sized m → Sized n → others_applied (other_changes m n) m ≡ n
others_lead m n p q =
    rw (
      changes_lead m.scratchpad n.scratchpad (p.scratchpad ∙ sym q.scratchpad),
      changes_lead m.low_expansion n.low_expansion (p.low_expansion ∙ sym q.low_expansion),
      changes_lead m.high_expansion n.high_expansion (p.high_expansion ∙ sym q.high_expansion),
      changes_lead m.video n.video (p.video ∙ sym q.video),
      changes_lead m.registers n.registers (p.registers ∙ sym q.registers),
    ) (ap (seen_of n.scratchpad n.low_expansion n.high_expansion n.video n.registers) (latches_lead m.latches n.latches))

slice_size : (bytes : List ℕ) (at size : ℕ) → length bytes ≡ size → at + 32 ≤ size → length (slice_range bytes at (at + 32)) ≡ 32
slice_size bytes at size is le =
    let e : at + 32 - at ≡ 32 = omega arith in
    ap (λ n. length (take n (drop at bytes))) e ∙ length-take-le 32 (drop at bytes) (omega (arith, length-drop at bytes))

replaced_size : (bytes workspace : List ℕ) (at size : ℕ) → length bytes ≡ size → at + 32 ≤ size → length workspace ≡ 32
    → length (replaced at workspace bytes) ≡ size
replaced_size bytes workspace at size is le ws =
    omega (
      arith,
      length-append (take at bytes) (workspace ++ drop (at + 32) bytes),
      length-append workspace (drop (at + 32) bytes),
      length-drop (at + 32) bytes,
      length-take-le at bytes (omega arith),
    )

abbrev Within : Option (Area × ℕ) → Type 0
Within None = Unit {0}
Within (Some (area, at)) = at + 32 ≤ size_of area

area_size : (area : Area) (m : SeenMemory) → Sized m → length (area_bytes area m) ≡ size_of area
area_size Scratchpad m p = p.scratchpad
area_size LowExpansion m p = p.low_expansion
area_size HighExpansion m p = p.high_expansion
area_size Video m p = p.video
area_size Registers m p = p.registers

with_size : (area : Area) (bytes : List ℕ) (m : SeenMemory) → Sized m → length bytes ≡ size_of area → Sized (with_bytes area bytes m)
with_size Scratchpad bytes m p size = search rules
with_size _ bytes m p size = search rules

changes_lead_at : (place : Option (Area × ℕ)) (m n : SeenMemory) → Within place → Sized m → Sized n → changes_applied place (changes_at place m n) m ≡ n
changes_lead_at None m n within p q = others_lead m n p q
changes_lead_at (Some (area, at)) m n within p q =
    let ws = workspace_at (Some (area, at)) n in
    let old = slice_size (area_bytes area m) at (size_of area) (area_size area m p) within in
    let new = slice_size (area_bytes area n) at (size_of area) (area_size area n q) within in
    let made = with_workspace (Some (area, at)) ws m in
    let sized = with_size area (replaced at ws (area_bytes area m)) m p
    (replaced_size (area_bytes area m) ws at (size_of area) (area_size area m p) within new) in
    ap (λ w. others_applied (other_changes made n) (with_workspace (Some (area, at)) w m))
    (registers_lead (workspace_at (Some (area, at)) m) ws old new)
    ∙ others_lead made n sized q

place_within : (wp : ℕ) → Within (workspace_place wp)
place_within wp =
    pick (nat_le 0x8300 wp && nat_le wp 0x83E0) (λ e. rw e (grind (arith, nat_tests))) (λ e.
    pick (nat_le 0x2000 wp && nat_le wp 0x3FE0) (λ f. rw (e, f) (grind (arith, nat_tests))) (λ f.
    pick (nat_le 0xA000 wp && nat_le wp 0xFFE0) (λ g. rw (e, f, g) (grind (arith, nat_tests))) (λ g. rw (e, f, g) tt)))

module _ (x : MachineState) (is : IsMemory x.cpu.memory) where
  sized : (made : ℕ) → Sized (seen_memory (after_steps made x).cpu.memory)
  sized made =
      let k = steps_leave x made in
      record {
        scratchpad = k.scratchpad ∙ is.scratchpad.size;
        low_expansion = k.low_expansion ∙ is.low_expansion.size;
        high_expansion = k.high_expansion ∙ is.high_expansion.size;
        video = k.video ∙ is.vdp.memory.size;
        registers = k.registers ∙ is.vdp.registers.size;
      }

  seen_is : (made : ℕ) → memory_by_changes x made ≡ seen_memory (after_steps made x).cpu.memory
  seen_is zero = refl
  seen_is (suc earlier) =
      let y = after_steps earlier x in
      let place = workspace_place y.cpu.wp in
      let z = after_steps (suc earlier) x in
      ap (changes_applied place (changes_at place (seen_memory y.cpu.memory) (seen_memory z.cpu.memory))) (seen_is earlier)
      ∙ changes_lead_at place (seen_memory y.cpu.memory) (seen_memory z.cpu.memory) (place_within y.cpu.wp) (sized earlier) (sized (suc earlier))

pub changes_give_memory : ChangesGiveMemory
changes_give_memory = record { seen = seen_is; kept = steps_leave }
