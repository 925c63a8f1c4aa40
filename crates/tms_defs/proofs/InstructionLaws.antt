-- Laws of the instruction table: each code lies under its mask, no word belongs to two rows, and words and
-- instructions give each other back.
use Rattle.std.proofs.Common.{◌≡◌, ℕ, ◌+◌, ◌-◌, ◌*◌, ◌/◌, ◌%◌, ◌<◌, ◌≤◌, Bool, true, false, List}
use Rattle.std.proofs.Common.{[], ◌∷◌, refl, sym, ap, ◌∙◌, arith, Option, Some, None}
use Rattle.std.specs.Prelude.{if◌then◌else◌, ℤ, ◌≢◌, ◌==◌, eqb, ◌&&◌, ◌||◌, not, nat_lt, nat_le, bit_and, IfSome}
use Rattle.std.specs.Option.{option_map}
use Rattle.std.specs.Int.{w8, cast_signed, cast_unsigned}
use Rattle.std.specs.List.{list_all}
use Rattle.std.specs.Cmp.{first_so, second_so}
use Rattle.std.proofs.lemmas.Bool.Decides.{nat_tests}
use Rattle.std.proofs.lemmas.Nat.{and_assoc, and_comm}
use Rattle.std.proofs.lemmas.Nat.Bits.{and_high_mask}
use Rattle.std.proofs.lemmas.Int.{ints, of_z-to_z, to_z-of_z}
use Rattle.tms_defs.specs.declared.instruction.Place.{Place}
use Rattle.tms_defs.specs.declared.instruction.ImmOp.{ImmOp}
use Rattle.tms_defs.specs.declared.instruction.BareOp.{BareOp}
use Rattle.tms_defs.specs.declared.instruction.TwoOp.TheVariants.{SZC}
use Rattle.tms_defs.specs.declared.instruction.RegOp.TheVariants.{COC}
use Rattle.tms_defs.specs.declared.instruction.ShiftOp.TheVariants.{SRA}
use Rattle.tms_defs.specs.declared.instruction.OneOp.TheVariants.{BLWP}
use Rattle.tms_defs.specs.declared.instruction.JumpOp.TheVariants.{JMP}
use Rattle.tms_defs.specs.declared.instruction.ImmOp.TheVariants.{LI}
use Rattle.tms_defs.specs.declared.instruction.BareOp.TheVariants.{LWPI}
use Rattle.tms_defs.specs.declared.instruction.Operation.{Operation}
use Rattle.tms_defs.specs.declared.instruction.Operation.TheVariants.{Two, Reg, Shift, One, Jump, Imm, Bare}
use Rattle.tms_defs.specs.declared.instruction.Instr.{Instr}
use Rattle.tms_defs.specs.declared.instruction.Instr.TheVariants as instr
use Rattle.tms_defs.specs.Instructions.{imm_row, bare_row}
use Rattle.tms_defs.specs.Instructions.{code_of, mask_of, operations, first_row, operation_at, operands_at}
use Rattle.tms_defs.specs.Instructions.{instr_at, operation_of, operands_word, word_of, HasRoom, HasSignedByte}

-- the code has no bit that the mask does not fix, and is a word
abbrev is_under_mask : Operation → Bool
is_under_mask operation =
    eqb (bit_and (code_of operation) (mask_of operation)) (code_of operation) && nat_lt (code_of operation) 65536

-- some word could belong to both rows
abbrev could_share : Operation → Operation → Bool
could_share a b = eqb (bit_and (code_of a) (mask_of b)) (bit_and (code_of b) (mask_of a))

-- two rows of different codes share no word
abbrev is_apart : Operation → Operation → Bool
is_apart a b = not (could_share a b) || eqb (code_of a) (code_of b)

-- a row is found by its own code
own_row : (operation : Operation) → operation_at (code_of operation) ≡ Some operation
own_row (Two SZC false) = refl
own_row (Two _ false) = refl
own_row (Two _ true) = refl
own_row (Reg COC) = refl
own_row (Shift SRA) = refl
own_row (One BLWP) = refl
own_row (Jump JMP) = refl
own_row (Imm LI) = refl
own_row (Bare LWPI) = refl
own_row _ = refl

-- the row that is found passes a test that all rows pass
found_passes : (test : Operation → Bool) (rows : List Operation) (word : ℕ) (operation : Operation) → list_all test rows ≡ true →
    first_row rows word ≡ Some operation → test operation ≡ true
found_passes test [] word operation all e = absurd (cc)
found_passes test (row ∷ rows) word operation all e =
    by (found_passes test rows word operation (second_so (test row) (list_all test rows) all))
    (bit_and word (mask_of row) == code_of row) e
  where
    by : (first_row rows word ≡ Some operation → test operation ≡ true) → (b : Bool) →
        (if b then Some row else first_row rows word) ≡ Some operation → test operation ≡ true
    by rest true found =
        let same : row ≡ operation = cc in rw (← same) (first_so (test row) (list_all test rows) all)
    by rest false found = rest found

-- a test that each row passes is passed by each operation
pub each_operation : (test : Operation → Bool) → list_all test operations ≡ true → (operation : Operation) →
    test operation ≡ true
each_operation test all operation = found_passes test operations (code_of operation) operation all (own_row operation)

-- a word that belongs to two rows shows that they share it
shared : (word : ℕ) (a b : Operation) → bit_and word (mask_of a) ≡ code_of a → bit_and word (mask_of b) ≡ code_of b →
    bit_and (code_of a) (mask_of b) ≡ bit_and (code_of b) (mask_of a)
shared word a b in_a in_b =
    rw
    (← in_a, ← in_b, and_assoc (mask_of b) word (mask_of a), and_assoc (mask_of a) word (mask_of b), and_comm (mask_of a) (mask_of b))
    refl

eqb_is : (m n : ℕ) (b : Bool) → eqb m n ≡ b → m ≡ n → b ≡ true
eqb_is m n true e same = refl
eqb_is m n false e same = grind (arith, nat_tests)

-- the row that is found has the word
pub first_row_meets : (rows : List Operation) (word : ℕ) (operation : Operation) →
    first_row rows word ≡ Some operation → bit_and word (mask_of operation) ≡ code_of operation
first_row_meets [] word operation e = absurd (cc)
first_row_meets (row ∷ rows) word operation e =
    by (first_row_meets rows word operation) (eqb (bit_and word (mask_of row)) (code_of row)) refl e
  where
    by : (first_row rows word ≡ Some operation → bit_and word (mask_of operation) ≡ code_of operation) → (b : Bool) →
        eqb (bit_and word (mask_of row)) (code_of row) ≡ b →
        (if b then Some row else first_row rows word) ≡ Some operation →
        bit_and word (mask_of operation) ≡ code_of operation
    by rest true test found = let same : row ≡ operation = cc in rw (← same) (grind (arith, nat_tests))
    by rest false test found = rest found

not_true : (b : Bool) → not b ≡ true → b ≡ true → ⊥
not_true true e t = cc
not_true false e t = cc

-- where no row is found, none has the word
none_meets : (rows : List Operation) (word : ℕ) → first_row rows word ≡ None →
    list_all (λ row. not (bit_and word (mask_of row) == code_of row)) rows ≡ true
none_meets [] word e = refl
none_meets (row ∷ rows) word e = by (none_meets rows word) (bit_and word (mask_of row) == code_of row) e
  where
    rest_passes : Bool
    rest_passes = list_all (λ other. not (bit_and word (mask_of other) == code_of other)) rows

    by : (first_row rows word ≡ None → rest_passes ≡ true) → (b : Bool) →
        (if b then Some row else first_row rows word) ≡ None → (not b && rest_passes) ≡ true
    by rest true found = absurd (cc)
    by rest false found = rest found

same_code : (shares : Bool) (m n : ℕ) → (not shares || eqb m n) ≡ true → shares ≡ true → m ≡ n
same_code true m n e t = grind (arith, nat_tests)
same_code false m n e t = absurd (cc)

-- a word belongs to one row
same_row : (word : ℕ) (a b : Operation) → bit_and word (mask_of a) ≡ code_of a → bit_and word (mask_of b) ≡ code_of b → a ≡ b
same_row word a b in_a in_b =
    let apart = each_operation (is_apart a) (each_operation (λ row. list_all (is_apart row) operations) refl a) b in
    let shares = eqb_is _ _ (could_share a b) refl (shared word a b in_a in_b) in
    let code : code_of a ≡ code_of b = same_code (could_share a b) _ _ apart shares in
    let both : Some a ≡ Some b = sym (own_row a) ∙ ap operation_at code ∙ own_row b in
    cc

-- the row that a word meets is the one that is found
pub operation_at-meets : (operation : Operation) (word : ℕ) → bit_and word (mask_of operation) ≡ code_of operation →
    operation_at word ≡ Some operation
operation_at-meets operation word meets = by (operation_at word) refl
  where
    has_word : Operation → Bool
    has_word row = bit_and word (mask_of row) == code_of row

    by : (found : Option Operation) → operation_at word ≡ found → found ≡ Some operation
    by None e =
        let other = each_operation (λ row. not (has_word row)) (none_meets operations word e) operation in
        absurd (not_true (has_word operation) other (eqb_is (bit_and word (mask_of operation)) (code_of operation) _ refl meets))
    by (Some row) e = ap Some (same_row word row operation (first_row_meets operations word row e) meets)

-- the bits of a word above an operation's operands
abbrev pub high_part : Operation → ℕ → ℕ
high_part (Two op byte) word = word / 4096 * 4096
high_part (Reg op) word = word / 1024 * 1024
high_part (Shift op) word = word / 256 * 256
high_part (One op) word = word / 64 * 64
high_part (Jump op) word = word / 256 * 256
high_part (Imm op) word = word / 16 * 16
high_part (Bare op) word = word

-- they are the operation's code
abbrev pub HasCode : Operation → ℕ → Type 0
HasCode operation word = code_of operation ≡ high_part operation word

under_mask : (operation : Operation) (word : ℕ) → word < 65536 → bit_and word (mask_of operation) ≡ high_part operation word
under_mask (Two op byte) word lt = and_high_mask 16 12 (omega arith) word lt
under_mask (Reg op) word lt = and_high_mask 16 10 (omega arith) word lt
under_mask (Shift op) word lt = and_high_mask 16 8 (omega arith) word lt
under_mask (One op) word lt = and_high_mask 16 6 (omega arith) word lt
under_mask (Jump op) word lt = and_high_mask 16 8 (omega arith) word lt
under_mask (Imm op) word lt = and_high_mask 16 4 (omega arith) word lt
under_mask (Bare op) word lt = let high = and_high_mask 16 0 (omega arith) word lt in omega (arith, high)

has_code-meets : (operation : Operation) (word : ℕ) → word < 65536 → HasCode operation word →
    bit_and word (mask_of operation) ≡ code_of operation
has_code-meets operation word lt code = under_mask operation word lt ∙ sym code

meets-has_code : (operation : Operation) (word : ℕ) → word < 65536 → bit_and word (mask_of operation)
    ≡ code_of operation → HasCode operation word
meets-has_code operation word lt meets = sym meets ∙ under_mask operation word lt

pub operation_at-has_code : (operation : Operation) (word : ℕ) → word < 65536 → HasCode operation word →
    operation_at word ≡ Some operation
operation_at-has_code operation word lt code = operation_at-meets operation word (has_code-meets operation word lt code)

-- no row is found where no operation has its code in the word
pub operation_at-none : (word : ℕ) → word < 65536 → ((operation : Operation) → HasCode operation word → ⊥) →
    operation_at word ≡ None
operation_at-none word lt none = by (operation_at word) refl
  where
    by : (found : Option Operation) → operation_at word ≡ found → found ≡ None
    by None e = refl
    by (Some operation) e =
        absurd (none operation (meets-has_code operation word lt (first_row_meets operations word operation e)))

-- the codes of a form stand together: from the first number to below the second
abbrev first_of : Operation → ℕ
first_of (Two op byte) = 0x4000
first_of (Reg op) = 0x2000
first_of (Shift op) = 0x0800
first_of (One op) = 0x0400
first_of (Jump op) = 0x1000
first_of (Imm op) = 0x0200
first_of (Bare op) = 0x0200

abbrev end_of : Operation → ℕ
end_of (Two op byte) = 0x10000
end_of (Reg op) = 0x4000
end_of (Shift op) = 0x0C00
end_of (One op) = 0x0780
end_of (Jump op) = 0x2000
end_of (Imm op) = 0x0400
end_of (Bare op) = 0x0400

abbrev is_in_place : Operation → Bool
is_in_place operation = nat_le (first_of operation) (code_of operation) && nat_lt (code_of operation) (end_of operation)

record InPlace (operation : Operation) : Type 0 where
  from : first_of operation ≤ code_of operation
  below : code_of operation < end_of operation

in_place : (operation : Operation) → InPlace operation
in_place operation =
    let test = each_operation is_in_place refl operation in
    let from = first_so _ (nat_lt (code_of operation) (end_of operation)) test in
    let below = second_so (nat_le (first_of operation) (code_of operation)) _ test in
    record { from = grind (arith, nat_tests); below = grind (arith, nat_tests) }

-- where a word of an operation stands
pub has_code-place : (operation : Operation) (word : ℕ) → HasCode operation word →
    (first_of operation ≤ word) × (word < end_of operation)
has_code-place (Two op byte) word code = let place = in_place (Two op byte) in (omega arith, omega arith)
has_code-place operation word code = let place = in_place operation in (omega arith, omega arith)

-- the places between those of the forms belong to no row
pub operation_at-between : (word : ℕ) → word < 0x1000 → (0x0200 ≤ word → 0x0780 ≤ word) →
    (0x0800 ≤ word → 0x0C00 ≤ word) → operation_at word ≡ None
operation_at-between word lt after_ones after_shifts = operation_at-none word (omega arith) none
  where
    none : (operation : Operation) → HasCode operation word → ⊥
    none (Two op byte) code = let place = has_code-place (Two op byte) word code in omega arith
    none operation code = let place = has_code-place operation word code in omega arith

-- a word of the two small forms' places that has no code of theirs belongs to no row
pub operation_at-control : (word : ℕ) → 0x0200 ≤ word → word < 0x0400 → ((op : ImmOp) → (imm_row op).code ≢ word / 16 * 16) →
    ((op : BareOp) → (bare_row op).code ≢ word) → operation_at word ≡ None
operation_at-control word from below no_imm no_bare = operation_at-none word (omega arith) none
  where
    none : (operation : Operation) → HasCode operation word → ⊥
    none (Imm op) code = no_imm op code
    none (Bare op) code = no_bare op code
    none operation code = let place = has_code-place operation word code in omega arith

-- a word of a row is the code and the operands that it gives
word_of-operands_at : (operation : Operation) (word : ℕ) → word < 65536 →
    bit_and word (mask_of operation) ≡ code_of operation → word_of (operands_at operation word) ≡ word
word_of-operands_at (Jump op) word lt meets =
    let high = under_mask (Jump op) word lt in
    let low = of_z-to_z w8 (word % 256) (omega arith) in
    omega (arith, meets, high, low)
word_of-operands_at operation word lt meets = let high = under_mask operation word lt in omega (arith, meets, high)

-- a row that is found, with its operands, has the word again
pub word_of-found : (operation : Operation) (word : ℕ) → word < 65536 → operation_at word ≡ Some operation →
    word_of (operands_at operation word) ≡ word
word_of-found operation word lt found =
    word_of-operands_at operation word lt (first_row_meets operations word operation found)

-- the decoded instruction is encoded as the word again
pub instr_at-encoded : (word : ℕ) → word < 65536 → IfSome (instr_at word) (λ instr. word_of instr ≡ word)
instr_at-encoded word lt = by (operation_at word) refl
  where
    by : (found : Option Operation) → operation_at word ≡ found →
        IfSome (option_map (λ operation. operands_at operation word) found) (λ instr. word_of instr ≡ word)
    by None e = tt
    by (Some operation) e = word_of-found operation word lt e

-- the decoded instruction's operands have room
operands_at-room : (operation : Operation) (word : ℕ) → HasRoom (operands_at operation word)
operands_at-room (Jump op) word = tt
operands_at-room (Bare op) word = tt
operands_at-room (Imm op) word = omega arith
operands_at-room operation word = (omega arith, omega arith)

pub instr_at-room : (word : ℕ) → IfSome (instr_at word) HasRoom
instr_at-room word = by (operation_at word)
  where
    by : (found : Option Operation) → IfSome (option_map (λ operation. operands_at operation word) found) HasRoom
    by None = tt
    by (Some operation) = operands_at-room operation word

-- ---- from an instruction to its word, and back

-- a code that lies under its mask
record LiesUnder (operation : Operation) : Type 0 where
  fits : code_of operation < 65536
  under : bit_and (code_of operation) (mask_of operation) ≡ code_of operation

lies_under : (operation : Operation) → LiesUnder operation
lies_under operation =
    let test = each_operation is_under_mask refl operation in
    let under = first_so _ (nat_lt (code_of operation) 65536) test in
    let fits = second_so (eqb (bit_and (code_of operation) (mask_of operation)) (code_of operation)) _ test in
    record { fits = grind (arith, nat_tests); under = grind (arith, nat_tests) }

-- it has no bit in the operands' places
whole_code : (operation : Operation) → LiesUnder operation → high_part operation (code_of operation) ≡ code_of operation
whole_code operation code = sym (under_mask operation (code_of operation) code.fits) ∙ code.under

-- operands that fit their places leave the code under the mask
with_operands : (operation : Operation) (operands : ℕ) → LiesUnder operation → operands < 65536 - mask_of operation →
    bit_and (code_of operation + operands) (mask_of operation) ≡ code_of operation
with_operands (Two op byte) operands code fit =
    let whole = whole_code (Two op byte) code in
    under_mask (Two op byte) (code_of (Two op byte) + operands) (omega (arith, code.fits)) ∙ omega arith
with_operands operation operands code fit =
    let whole = whole_code operation code in
    under_mask operation (code_of operation + operands) (omega (arith, code.fits)) ∙ omega arith

-- the word of an instruction has its code under its mask
word_meets : (instr : Instr) → HasRoom instr → HasSignedByte instr → LiesUnder (operation_of instr) →
    bit_and (word_of instr) (mask_of (operation_of instr)) ≡ code_of (operation_of instr)
word_meets (instr.Jump op disp) room signed code =
    with_operands (Jump op) (cast_unsigned w8 disp) code (omega (arith, ints))
word_meets instr room signed code = with_operands (operation_of instr) (operands_word instr) code (omega arith)

same_place : (place : Place) (mode reg : ℕ) → mode ≡ place.mode → reg ≡ place.reg →
    ◌≡◌ {A = Place} (record { mode = mode; reg = reg }) place
same_place place mode reg p q = λ i. record { mode = p i; reg = q i }

-- the operands of an instruction's word are its own
operands_at-word_of : (instr : Instr) → HasRoom instr → HasSignedByte instr → LiesUnder (operation_of instr) →
    operands_at (operation_of instr) (word_of instr) ≡ instr
operands_at-word_of (instr.Two op byte dst src) room signed code =
    let high = whole_code (Two op byte) code in
    let destination =
    same_place dst (word_of (instr.Two op byte dst src) / 1024 % 4) (word_of (instr.Two op byte dst src) / 64 % 16)
    (omega arith) (omega arith) in
    let source =
    same_place src (word_of (instr.Two op byte dst src) / 16 % 4) (word_of (instr.Two op byte dst src) % 16)
    (omega arith) (omega arith) in
    λ i. instr.Two op byte (destination i) (source i)
operands_at-word_of (instr.Reg op d src) room signed code =
    let high = whole_code (Reg op) code in
    let number : word_of (instr.Reg op d src) / 64 % 16 ≡ d = omega arith in
    let source =
    same_place src (word_of (instr.Reg op d src) / 16 % 4) (word_of (instr.Reg op d src) % 16) (omega arith)
    (omega arith) in
    λ i. instr.Reg op (number i) (source i)
operands_at-word_of (instr.Shift op count w) room signed code =
    let high = whole_code (Shift op) code in
    let number : word_of (instr.Shift op count w) / 16 % 16 ≡ count = omega arith in
    let register : word_of (instr.Shift op count w) % 16 ≡ w = omega arith in
    λ i. instr.Shift op (number i) (register i)
operands_at-word_of (instr.One op at) room signed code =
    let high = whole_code (One op) code in
    let source =
    same_place at (word_of (instr.One op at) / 16 % 4) (word_of (instr.One op at) % 16) (omega arith) (omega arith) in
    λ i. instr.One op (source i)
operands_at-word_of (instr.Jump op disp) room signed code =
    let high = whole_code (Jump op) code in
    let byte : cast_unsigned w8 disp < 256 = omega (arith, ints) in
    let low : word_of (instr.Jump op disp) % 256 ≡ cast_unsigned w8 disp = omega arith in
    ap (λ (n : ℕ). instr.Jump op (cast_signed w8 n)) low ∙ ap (λ (z : ℤ). instr.Jump op z) (to_z-of_z w8 disp signed)
operands_at-word_of (instr.Imm op w) room signed code =
    let high = whole_code (Imm op) code in
    let register : word_of (instr.Imm op w) % 16 ≡ w = omega arith in
    λ i. instr.Imm op (register i)
operands_at-word_of (instr.Bare op) room signed code = refl

-- an instruction is decoded from its word again
pub instr_at-word_of : (instr : Instr) → HasRoom instr → HasSignedByte instr → instr_at (word_of instr) ≡ Some instr
instr_at-word_of instr room signed =
    let code = lies_under (operation_of instr) in
    let found = operation_at-meets (operation_of instr) (word_of instr) (word_meets instr room signed code) in
    ap (option_map (λ operation. operands_at operation (word_of instr))) found
    ∙ ap Some (operands_at-word_of instr room signed code)
