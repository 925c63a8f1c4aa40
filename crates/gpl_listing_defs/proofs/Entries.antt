-- Bytes that are placed one after the other, where nothing is placed, and what is listed at an address.
use Rattle.std.proofs.Common.{◌≡◌, ℕ, ◌/◌, ◌%◌, ◌<◌, Bool, true, false, List, refl, subst, Option, Some, None, arith}
use Rattle.std.specs.Prelude.{◌==◌, if◌then◌else◌, nat_lt, slice_index, is_some, IsTrue, nat_le}
use Rattle.base_defs.specs.Addresses.{next_in_grom}
use Rattle.gpl_defs.specs.declared.instruction.MoveKind.{MoveKind}
use Rattle.gpl_defs.specs.declared.instruction.MoveKind.TheVariants.{GromIndexedToMemory, MemoryToMemory, GromToRegisters}
use Rattle.gpl_defs.specs.declared.instruction.GplInstr.{GplInstr}
use Rattle.gpl_defs.specs.declared.instruction.GplOperation.{GplOperation}
use Rattle.gpl_defs.specs.declared.instruction.GplOperation.TheVariants as operation
use Rattle.gpl_defs.specs.declared.instruction.GplRead.{GplRead}
use Rattle.gpl_defs.specs.declared.instruction.GplRead.TheVariants.{Instr, Refused}
use Rattle.gpl_defs.specs.Codes.{operation_at}
use Rattle.gpl_defs.specs.Reading.{word_at, address_at, index_by, operand_at, are_bytes_at, IsReadAt, ReadsInstr}
use Rattle.gpl_defs.specs.Reading.{source_at, length_at, target_at, from_at, instr_at, read_by, reading}
use Rattle.gpl_listing_defs.proofs.Operands.{IndexFits, OperandFits}
use Rattle.gpl_listing_defs.proofs.Instructions.{SourceFits, LengthFits, TargetFits, FromFits, InstrFits}
use Rattle.std.proofs.Common.{◌≢◌, ◌+◌, ◌-◌, ◌*◌, ◌≤◌, [], ◌∷◌, ◌++◌, length, take, drop, get_or, ap, sym, ◌∙◌, min}
use Rattle.std.specs.Ordering.{nat_cmp}
use Rattle.std.specs.Cmp.{nat_cmp_total}
use Rattle.std.specs.FinMap.{empty, insert, contains_key, get-insert, get-empty}
use Rattle.std.proofs.lemmas.List.{drop_more, take-append-drop, take-take, drop-take, drop-drop}
use Rattle.std.proofs.lemmas.Bool.Decides.{nat_tests}
use Rattle.std.proofs.lemmas.Grind.{common_steps}
use Rattle.gpl_defs.specs.Image.{Image, placed}
use Rattle.gpl_defs.proofs.ImageLaws.{ties-other}
use Rattle.gpl_defs.proofs.OperandLaws.{address_by, operand_by}
use Rattle.gpl_source_defs.specs.Programs.{overlaps}
use Rattle.listed_lines.proofs.Scans.{and_left, and_right}
use Rattle.gpl_defs.specs.Bytes.{bytes_of}
use Rattle.gpl_defs.specs.Valid.{is_valid}
use Rattle.gpl_defs.proofs.MeaningLaws.{reading_means}
use Rattle.gpl_listing_defs.specs.Listing.{boundary, Listed, byte_listed, instr_listed, is_whole, listed_by, listed_at}

module _ (image : List ℕ) (bytes : (k : ℕ) → slice_index image k < 256) where
  word_fits : (at : ℕ) → (word_at image at).0 < 65536
  word_fits at = let a = bytes at in let b = bytes (next_in_grom at) in omega arith

  index_fits : (test : Bool) (at : ℕ) → IndexFits (index_by test image at).0
  index_fits true at = bytes at
  index_fits false at = tt

  address_fits : (first at : ℕ) → (address_at first image at).0 < 65536
  address_fits first at = by (first % 16 == 15)
    where
      by : (test : Bool) →
          (address_by test first image at).0 < 65536
      by true = word_fits at
      by false = let a = bytes at in omega arith

  operand_fits : (at : ℕ) → OperandFits (operand_at image at).0
  unfolding operand_at
  operand_fits at = by (nat_lt (slice_index image at) 0x80) refl
    where
      by : (small : Bool) → nat_lt (slice_index image at) 0x80 ≡ small →
          OperandFits (operand_by small (slice_index image at) image (next_in_grom at)).0
      by true e = record { address = (let a = bytes at in omega arith); index = tt }
      by false e =
          let address = address_at (slice_index image at) image (next_in_grom at) in
          record {
            address = address_fits (slice_index image at) (next_in_grom at);
            index = index_fits (slice_index image at / 64 % 2 == 1)
                (address_at (slice_index image at) image (next_in_grom at)).1;
          }

  source_fits : (immediate word : Bool) (at : ℕ) → SourceFits word (source_at immediate word image at).0
  source_fits true true at = word_fits at
  source_fits true false at = bytes at
  source_fits false word at = operand_fits at

  length_fits : (immediate : Bool) (at : ℕ) → LengthFits (length_at immediate image at).0
  length_fits true at = word_fits at
  length_fits false at = operand_fits at

  target_fits : (kind : MoveKind) (at : ℕ) → TargetFits (target_at kind image at).0
  target_fits GromToRegisters at = bytes at
  target_fits _ at = operand_fits at

  from_fits : (kind : MoveKind) (at : ℕ) → FromFits (from_at kind image at).0
  from_fits MemoryToMemory at = operand_fits at
  from_fits GromIndexedToMemory at = (word_fits at, bytes (word_at image at).1)
  from_fits _ at = word_fits at

  instr_fits : (operation : GplOperation) (code at : ℕ) → InstrFits (instr_at operation code image at).0
  instr_fits (operation.Plain op) code at = tt
  instr_fits (operation.Byte op) code at = bytes at
  instr_fits (operation.Jump op) code at = word_fits at
  instr_fits (operation.Branch on) code at = let a = bytes at in omega arith
  instr_fits (operation.One op) code at = operand_fits at
  instr_fits (operation.Two op) code at =
      (operand_fits at, source_fits (code / 2 % 2 == 1) (code % 2 == 1) (operand_at image at).1)
  instr_fits (operation.Move kind) code at =
      let count = length_at (code % 2 == 1) image at in
      let to = target_at kind image count.1 in
      (length_fits (code % 2 == 1) at, target_fits kind count.1, from_fits kind to.1)

  pub FitsRead : GplRead → Type 0
  FitsRead (Instr instr next) = InstrFits instr
  FitsRead (Refused code) = Unit {0}

  pub read_fits : (at : ℕ) (instr : GplInstr) (next : ℕ) → reading image at ≡ Instr instr next → InstrFits instr
  unfolding reading FitsRead
  read_fits at instr next e =
      let F : GplRead → Type 0 = λ read. FitsRead read in
      subst F e (by (operation_at (slice_index image at)))
    where
      by : (found : Option GplOperation) → FitsRead (read_by found (slice_index image at) image (next_in_grom at))
      by None = tt
      by (Some operation) = instr_fits operation (slice_index image at) (next_in_grom at)

-- ---- Bytes that are placed one after the other, where nothing is placed, and what is listed at an address

pub placed_after : (image : Image) (at : ℕ) (xs ys : List ℕ) →
    placed (placed image at xs) (at + length xs) ys ≡ placed image at (xs ++ ys)
placed_after image at [] ys = ap (λ n. placed image n ys) (omega arith)
placed_after image at (x ∷ xs) ys =
    ap (λ n. placed (placed (insert image at x) (at + 1) xs) n ys) (omega arith)
    ∙ placed_after (insert image at x) (at + 1) xs ys

-- nothing was written from an address on
abbrev pub FreeFrom : Image → ℕ → Type 0
FreeFrom image from = (k : ℕ) → from ≤ k → contains_key image k ≡ false

pub empty_free : (from : ℕ) → FreeFrom empty from
empty_free from k le = ap is_some (get-empty nat_cmp k)

insert_other : (image : Image) (at byte k : ℕ) → k ≢ at → contains_key (insert image at byte) k ≡ contains_key image k
insert_other image at byte k other =
    ap is_some (get-insert nat_cmp_total image at byte k ∙ rw (ties-other k at other) refl)

pub placed_free : (image : Image) (at : ℕ) (xs : List ℕ) → FreeFrom image at → FreeFrom (placed image at xs)
    (at + length xs)
placed_free image at [] free k le = free k (omega arith)
placed_free image at (x ∷ xs) free k le =
    let rest : FreeFrom (insert image at x) (at + 1) =
    λ j ge. insert_other image at x j (omega arith) ∙ free j (omega arith) in
    placed_free (insert image at x) (at + 1) xs rest k (omega arith)

pub no_overlap : (image : Image) (at : ℕ) (bytes : List ℕ) → FreeFrom image at → overlaps image at bytes ≡ false
no_overlap image at [] free = refl
no_overlap image at (byte ∷ bytes) free =
    rw (free at (omega arith), no_overlap image (at + 1) bytes (λ k le. free k (omega arith))) refl

-- bytes that are in one GROM are those of the image from there on
pub bytes_taken_at : (image bytes : List ℕ) (at : ℕ) → are_bytes_at image bytes at ≡ true →
    at + length bytes ≤ at / 0x2000 * 0x2000 + 0x2000 → at + length bytes ≤ length image →
    take (length bytes) (drop at image) ≡ bytes
bytes_taken_at image [] at e within inside = refl
bytes_taken_at image (byte ∷ []) at e within inside =
    let first : get_or image at 0 ≡ byte = (let test = and_left (get_or image at 0 == byte) _ e in grind (arith, nat_tests)) in
    rw (drop_more image at 0 (omega arith), first) refl
bytes_taken_at image (byte ∷ b ∷ bs) at e within inside =
    let first : get_or image at 0 ≡ byte = (let test = and_left (get_or image at 0 == byte) _ e in grind (arith, nat_tests)) in
    let next : next_in_grom at ≡ at + 1 = omega arith in
    let rest : are_bytes_at image (b ∷ bs) (at + 1) ≡ true = rw next at (and_right (get_or image at 0 == byte) _ e) in
    rw (drop_more image at 0 (omega arith), first, bytes_taken_at image (b ∷ bs) (at + 1) rest (omega arith) (omega arith)) refl

-- the bytes of an image from an address up to another
abbrev pub between : List ℕ → ℕ → ℕ → List ℕ
between image low at = take (at - low) (drop low image)

pub between_more : (image : List ℕ) (low at size : ℕ) → low ≤ at →
    between image low (at + size) ≡ between image low at ++ take size (drop at image)
between_more image low at size le =
    let n : at + size - low ≡ at - low + size = omega arith in
    let there : low + (at - low) ≡ at = omega arith in
    rw n
    (sym (take-append-drop (at - low) (take (at - low + size) (drop low image)))
    ∙ rw (take-take (at - low) (at - low + size) (drop low image) (omega arith), drop-take (at - low) size (drop low image), drop-drop (at - low) low image, there) refl)

pub between_size : (image : List ℕ) (low at : ℕ) → low ≤ at → at ≤ length image → low + length (between image low at)
    ≡ at
between_size image low at le inside = grind (arith, common_steps)

-- ---- What is listed at an address: a whole instruction, or a byte

pub data Entry (image : List ℕ) (at high : ℕ) : Listed → Type 0 where
  Whole : (found : GplInstr) → IsTrue (is_valid found) → InstrFits found →
      take (length (bytes_of found)) (drop at image) ≡ bytes_of found →
      at + length (bytes_of found) ≤ min high (boundary at) → Entry image at high (instr_listed found at)
  Single : Entry image at high (byte_listed image at)

pub entry_of : (image : List ℕ) → ((k : ℕ) → slice_index image k < 256) → length image ≡ 65536 → (at high : ℕ) →
    high ≤ 65536 → Entry image at high (listed_at image at high)
unfolding listed_at
entry_of image bytes size at high top = by (reading image at) refl
  where
    by_test : (found : GplInstr) (next : ℕ) → reading image at ≡ Instr found next → (test : Bool) →
        is_whole image at high found ≡ test → Entry image at high (if test then instr_listed found at else byte_listed image at)
    by_test found next read false e = Single
    by_test found next read true e =
        let R : GplRead → Type 0 = λ read. IsReadAt image at read in
        let means : ReadsInstr image at found next = subst R read (reading_means image at bytes) in
        let standing : are_bytes_at image (bytes_of found) at ≡ true = and_left _ (nat_le (at + length (bytes_of found)) (min high (boundary at))) e in
        let ends : nat_le (at + length (bytes_of found)) (min high (boundary at)) ≡ true = and_right (are_bytes_at image (bytes_of found) at) _ e in
        let short : at + length (bytes_of found) ≤ min high (boundary at) = grind (arith, nat_tests) in
        Whole found means.means.is_kind.valid (read_fits image bytes at found next read)
        (bytes_taken_at image (bytes_of found) at standing (omega arith) (omega arith)) short

    by : (read : GplRead) → reading image at ≡ read → Entry image at high (listed_by image at high read)
    by (Instr found next) e = by_test found next e (is_whole image at high found) refl
    by (Refused code) e = Single
