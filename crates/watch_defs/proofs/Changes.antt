-- A range holds by its bytes.
use Rattle.std.proofs.Common.{◌≡◌, ◌≢◌, ℕ, ◌+◌, ◌-◌, ◌<◌, ◌≤◌, Bool, true, false, nat_eq, ◌&&◌, List, length, get_or}
use Rattle.std.proofs.Common.{Option, Some, None, refl, sym, ap, ◌∙◌, arith}
use Rattle.std.specs.Prelude.{if◌then◌else◌, is_some, option_map, slice_range}
use Rattle.std.specs.List.{zip}
use Rattle.std.proofs.lemmas.Bool.Decides.{nat_tests}
use Rattle.std.proofs.lemmas.List.Edits.{length-between, get_or-between}
use Rattle.std.proofs.lemmas.List.Sums.{prefix_len-le-length, prefix_len_passes, prefix_len_stops}
use Rattle.std.proofs.lemmas.Slice.Zip.{get_or-zip, length-zip}
use Rattle.gpl_defs.specs.declared.instruction.Space.{Space}
use Rattle.gpl_defs.specs.declared.instruction.Space.TheVariants.{Cpu, Vdp}
use Rattle.base_defs.specs.Lists.{is_same, common_length, first_difference}
use Rattle.gpl_step_defs.specs.State.{GplState, IsState}
use Rattle.watch_defs.specs.Items.{bytes_in, base_of, size_of, IsRange}
use Rattle.watch_defs.specs.RangeLaw.{byte_at, IsChange, RangesHoldByTheirBytes}

same_byte : (x y : ℕ) → nat_eq x y ≡ true → x ≡ y
same_byte x y e = grind (arith, nat_tests)

other_byte : (x y : ℕ) → nat_eq x y ≡ false → x ≢ y
other_byte x y e = λ f. grind (arith, nat_tests)

-- lists of one length, up to their common end and there
module _ (a b : List ℕ) (size : length a ≡ length b) where
  abbrev common : ℕ
  common = common_length a b

  bound : common ≤ length a
  bound = omega (arith, prefix_len-le-length is_same (zip a b), length-zip a b)

  shared : (k : ℕ) → k < common → get_or a k 0 ≡ get_or b k 0
  shared k lt =
      let in_a : k < length a = omega (arith, bound) in
      let in_b : k < length b = omega (arith, bound) in
      same_byte (get_or a k 0) (get_or b k 0)
      (ap is_same (sym (get_or-zip a b k (0, 0) in_a in_b)) ∙ prefix_len_passes is_same (zip a b) k (0, 0) lt)

  apart : common < length a → get_or a common 0 ≢ get_or b common 0
  apart in_a =
      let in_b : common < length b = omega arith in
      other_byte (get_or a common 0) (get_or b common 0)
      (ap is_same (sym (get_or-zip a b common (0, 0) in_a in_b))
      ∙ prefix_len_stops is_same (zip a b) (0, 0) (omega (arith, length-zip a b)))

size_is : (space : Space) (s : GplState) → IsState s → length (bytes_in space s) ≡ size_of space
size_is Cpu s h = h.cells.size
size_is Vdp s h = h.vdp.size

some_mapped : {X Y : Type 0} (f : X → Y) (o : Option X) → is_some o ≡ is_some (option_map f o)
some_mapped f None = refl
some_mapped f (Some x) = refl

module _ (space : Space) (at len : ℕ) (r : IsRange space at len) where
  abbrev start : ℕ
  start = at - base_of space

  abbrev part : GplState → List ℕ
  part s = slice_range (bytes_in space s) start (start + len)

  part_size : (s : GplState) → IsState s → length (part s) ≡ len
  part_size s h =
      let size = size_is space s h in
      let ends = r.ends in
      let begins = r.begins in
      let size_of_part = length-between (bytes_in space s) start (start + len) (omega arith) in
      omega arith

  -- a byte of the range by its address
  by_place : (s : GplState) (k : ℕ) → k < len → get_or (part s) k 0 ≡ byte_at space (at + k) s
  by_place s k lt =
      let begins = r.begins in
      let place : start + k ≡ at + k - base_of space = omega arith in
      get_or-between (bytes_in space s) start (start + len) k 0 (omega arith)
      ∙ ap (λ n. get_or (bytes_in space s) n 0) place

  by_address : (s : GplState) (address : ℕ) → at ≤ address → address < at + len
      → byte_at space address s ≡ get_or (part s) (address - at) 0
  by_address s address ge lt =
      let same : address ≡ at + (address - at) = omega arith in
      ap (λ n. byte_at space n s) same ∙ sym (by_place s (address - at) (omega arith))

  module _ (before next : GplState) (h : IsState before) (i : IsState next) where
    abbrev size : length (part before) ≡ length (part next)
    size = part_size before h ∙ sym (part_size next i)

    abbrev end : ℕ
    end = common (part before) (part next) size

    same_below : (address : ℕ) → at ≤ address → address < at + len → address - at < end
        → byte_at space address before ≡ byte_at space address next
    same_below address ge lt below =
        by_address before address ge lt ∙ shared (part before) (part next) size (address - at) below
        ∙ sym (by_address next address ge lt)

    by : (ends : Bool) → (nat_eq end (length (part before)) && nat_eq end (length (part next))) ≡ ends
        → IsChange space at len before next
        (option_map (λ place. (at + place, get_or (part next) place 0)) (if ends then None else Some end))
    by true e =
        let all : end ≡ length (part before) = grind (arith, nat_tests) in
        let parts = part_size before h in
        λ address ge lt. same_below address ge lt (omega arith)
    by false e =
        let within = bound (part before) (part next) size in
        let sizes = size in
        let parts = part_size before h in
        let less : end < length (part before) = grind (arith, nat_tests) in
        let there : end < len = omega arith in
        let differs = apart (part before) (part next) size less in
        record {
          begins = omega arith;
          ends = omega arith;
          shown = by_place next end there;
          differs = λ same. differs (by_place before end there ∙ same ∙ sym (by_place next end there));
          lowest = λ address ge lt. same_below address ge (omega arith) (omega arith);
        }

pub ranges_hold_by_their_bytes : RangesHoldByTheirBytes
ranges_hold_by_their_bytes space at len before next r h i = record {
  change =
      by space at len r before next h i
      (nat_eq (end space at len r before next h i) (length (part space at len r before))
      && nat_eq (end space at len r before next h i) (length (part space at len r next))) refl;
  holds =
      some_mapped (λ place. (at + place, get_or (part space at len r next) place 0))
      (first_difference (part space at len r before) (part space at len r next));
}
