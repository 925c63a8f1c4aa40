-- A listed instruction by the first and the second checks: its name, which is no directive and names it alone, its
-- operands, and its words, which are those that it was read from.
use Rattle.std.proofs.Common.{◌≡◌, ◌<◌, ◌≤◌, ◌∙◌, true, false, length, refl, Some, None, arith, suc, ◌++◌, take}
use Rattle.std.specs.Prelude.{codes, Result, Err, ℤ, FitsSigned, slice_index, if◌then◌else◌, ◌==◌, IfSome, map}
use Rattle.std.specs.List.{list_all}
use Rattle.source_defs.specs.Names.{is_word}
use Rattle.tms_defs.specs.declared.instruction.TwoOp.TheVariants.{SZC}
use Rattle.tms_defs.specs.declared.instruction.RegOp.TheVariants.{COC, XOP, LDCR, STCR}
use Rattle.tms_defs.specs.declared.instruction.ShiftOp.TheVariants.{SRA}
use Rattle.tms_defs.specs.declared.instruction.OneOp.TheVariants.{BLWP}
use Rattle.tms_defs.specs.declared.instruction.JumpOp.TheVariants.{JMP, SBO, SBZ, TB}
use Rattle.tms_defs.specs.declared.instruction.ImmOp.TheVariants.{LI}
use Rattle.tms_defs.specs.declared.instruction.BareOp.TheVariants.{LWPI}
use Rattle.tms_defs.specs.declared.instruction.Operation.{Operation}
use Rattle.tms_defs.specs.declared.instruction.Operation.TheVariants.{Two, Reg, Shift, One, Jump, Imm, Bare}
use Rattle.instruction_defs.specs.declared.mnemonic.Mnemonic.TheVariants.{Of}
use Rattle.tms_defs.specs.Instructions.{name_of, HasRoom, HasSignedByte, operation_of, word_of}
use Rattle.instruction_defs.specs.Operations.{mnemonic}
use Rattle.asm_defs.specs.Directives.{directive}
use Rattle.listed_lines.proofs.LineTexts.{plain_byte, field_of}
use Rattle.std.proofs.Common.{◌⊎◌, inl, inr, ℕ, ◌+◌, ◌*◌, Bool, List, [], ◌∷◌, length-append, ap, subst, Ok, Option}
use Rattle.std.specs.Int.{w8}
use Rattle.source_defs.specs.Refusals.{◌>>=◌}
use Rattle.source_defs.specs.Digits.{hex_word}
use Rattle.expression_defs.specs.Expression.{Value, Absolute}
use Rattle.source_defs.specs.ListedLines.{two_texts}
use Rattle.tms_defs.specs.declared.instruction.Place.{Place}
use Rattle.tms_defs.specs.declared.instruction.RegOp.{RegOp}
use Rattle.tms_defs.specs.declared.instruction.JumpOp.{JumpOp}
use Rattle.tms_defs.specs.declared.instruction.ImmOp.{ImmOp}
use Rattle.tms_defs.specs.declared.instruction.BareOp.{BareOp}
use Rattle.tms_defs.specs.declared.instruction.Instr.{Instr}
use Rattle.tms_defs.specs.declared.instruction.Instr.TheVariants.{Two, Reg, Shift, One, Jump, Imm, Bare}
use Rattle.instruction_defs.specs.declared.causes.FormError.{FormError}
use Rattle.instruction_defs.specs.declared.causes.FormError.TheVariants.{JumpTooFar}
use Rattle.instruction_defs.specs.declared.operand_kind.OperandKind.{OperandKind}
use Rattle.instruction_defs.specs.declared.operand_kind.OperandKind.TheVariants as kind
use Rattle.instruction_defs.specs.Forms.{Form, Indexed}
use Rattle.instruction_defs.specs.Operands.{following_words, size_in_words, kinds_of, reg_kinds, jump_kinds, has_immediate, has_value}
use Rattle.instruction_defs.specs.FirstChecks.{Skeleton, Instruction, first_checks, form_in, words_after, forms_of, all_words_after, size_of}
use Rattle.instruction_defs.specs.SecondChecks as second
use Rattle.instruction_defs.specs.SecondChecks.{EncodedOperand, Located, Counted, Displaced, Followed, all_valued, all_ranged, second_checks, displaced}
use Rattle.instruction_defs.specs.SecondChecks.{instruction_of, following_in}
use Rattle.tms_defs.specs.Words.{plus}
use Rattle.tms_defs.specs.Jumps.{jump_target}
use Rattle.instruction_defs.specs.Printed.{operand_text, register_text, number_text, signed_text, target_text, operands_text}
use Rattle.listed_lines.proofs.Scans.{all_both, all_also, and_left, and_right}
use Rattle.listed_lines.proofs.OperandLines.{whole, one_text, two_operands}
use Rattle.word_listings.specs.Modules.{jump_wraps, leads_out, wraps}
use Rattle.word_listings.proofs.Slots.{known}
use Rattle.word_listings.proofs.Slots.{SlotBack, letter, followed, place_back, register_back, count_back, immediate_back, bit_back, target_back}
use Rattle.base_defs.specs.Counts.{one_if}
use Rattle.std.specs.Option.{option_map}
use Rattle.std.proofs.lemmas.Int.{ints}
use Rattle.tms_defs.specs.Instructions.{operation_at, operands_at, instr_at}
use Rattle.tms_defs.proofs.InstructionLaws.{instr_at-encoded, instr_at-room}
use Rattle.tms_defs.specs.declared.instruction.Operation.TheVariants as operation

pub record Names (operation : Operation) : Type 0 where
  pub no_directive : directive (name_of operation) ≡ None
  pub reads : mnemonic (name_of operation) ≡ Some (Of operation)
  pub some : 0 < length (name_of operation)
  pub short : length (name_of operation) ≤ 6
  pub plain : list_all plain_byte (name_of operation) ≡ true
  pub no_copy : is_word (name_of operation) (codes "COPY") ≡ false

pub names : (operation : Operation) → Names operation
unfolding directive mnemonic
names (Two SZC false) = record { no_directive = refl; reads = refl; some = omega arith; short = omega arith; plain = refl; no_copy = refl }
names (Two _ false) = record { no_directive = refl; reads = refl; some = omega arith; short = omega arith; plain = refl; no_copy = refl }
names (Reg COC) = record { no_directive = refl; reads = refl; some = omega arith; short = omega arith; plain = refl; no_copy = refl }
names (Shift SRA) = record { no_directive = refl; reads = refl; some = omega arith; short = omega arith; plain = refl; no_copy = refl }
names (One BLWP) = record { no_directive = refl; reads = refl; some = omega arith; short = omega arith; plain = refl; no_copy = refl }
names (Jump JMP) = record { no_directive = refl; reads = refl; some = omega arith; short = omega arith; plain = refl; no_copy = refl }
names (Imm LI) = record { no_directive = refl; reads = refl; some = omega arith; short = omega arith; plain = refl; no_copy = refl }
names (Bare LWPI) = record { no_directive = refl; reads = refl; some = omega arith; short = omega arith; plain = refl; no_copy = refl }
names _ = record { no_directive = refl; reads = refl; some = omega arith; short = omega arith; plain = refl; no_copy = refl }

-- ---- A listed instruction by the first and the second checks

-- an operand field by its kinds, and what the checks make of it
pub record FieldBack (here : Value) (kinds : List OperandKind) (operands : Option (List ℕ)) (answer : Result (List EncodedOperand) FormError) (count : ℕ) : Type 0 where
  pub forms : List Form
  pub forms_are : forms_of kinds (field_of operands) ≡ Ok forms
  pub readies_are : (all_valued known here kinds forms >>= all_ranged here) ≡ answer
  pub count_is : all_words_after kinds forms ≡ count
  pub few : count ≤ 2
  pub short : length (field_of operands) ≤ 11 + 6 * count
  pub is_plain : list_all plain_byte (field_of operands) ≡ true
  pub some : (operands ≡ None) ⊎ (0 < length (field_of operands))

following_few : (kind : OperandKind) (form : Form) → words_after kind form ≤ 1
following_few kind.General (Indexed text index) = omega arith
following_few _ _ = omega arith

some_text : (kind : OperandKind) (text : List ℕ) (form : Form) → form_in kind text ≡ Ok form → 0 < length text
some_text kind [] form e = cc e
some_text kind (byte ∷ bytes) form e = omega arith

is_whole : (text : List ℕ) → list_all letter text ≡ true → list_all whole text ≡ true
is_whole = all_also letter whole (λ x. and_left (whole x) (plain_byte x))

is_plain : (text : List ℕ) → list_all letter text ≡ true → list_all plain_byte text ≡ true
is_plain = all_also letter plain_byte (λ x. and_right (whole x) (plain_byte x))

abbrev alone : Result EncodedOperand FormError → Result (List EncodedOperand) FormError
alone (Ok ready) = Ok (ready ∷ [])
alone (Err cause) = Err cause

one_ready : (answer : Result EncodedOperand FormError) → (answer >>= λ ready. Ok [] >>= λ readies. Ok (ready ∷ readies)) ≡ alone answer
one_ready (Ok ready) = refl
one_ready (Err cause) = refl

module _ {here : Value} where
  no_field : FieldBack here [] None (Ok []) 0
  no_field = record { some = inl refl; forms = []; forms_are = refl; readies_are = refl; count_is = refl; few = omega arith; short = omega arith; is_plain = refl }

  one_field : {s : OperandKind} {text : List ℕ} {answer : Result EncodedOperand FormError} {count : ℕ} → SlotBack here s text answer count →
      FieldBack here (s ∷ []) (Some text) (alone answer) (count + 0)
  one_field {s = s} {text = text} {answer = answer} back =
      let some = some_text s text back.form back.form_is in
      record {
        forms = back.form ∷ [];
        forms_are = rw (one_text text some (is_whole text back.of_letters), back.form_is) refl;
        readies_are = rw (back.value_is, back.range_is) (one_ready answer);
        count_is = ap (λ n. n + 0) back.count_is;
        few = omega (arith, following_few s back.form, back.count_is);
        short = omega (arith, back.short);
        is_plain = is_plain text back.of_letters;
        some = inr some;
      }

  two_field : {a b : OperandKind} {first next : List ℕ} {x y : EncodedOperand} {m n : ℕ} → SlotBack here a first (Ok x) m → SlotBack here b next (Ok y) n →
      FieldBack here (a ∷ b ∷ []) (Some (two_texts first next)) (Ok (x ∷ y ∷ [])) (m + (n + 0))
  two_field {a = a} {b = b} {first = first} {next = next} back too =
      let size = length-append first (0x2C ∷ next) in
      record {
        forms = back.form ∷ too.form ∷ [];
        forms_are = rw (two_operands first next (is_whole first back.of_letters) (is_whole next too.of_letters), back.form_is, too.form_is) refl;
        readies_are = rw (back.value_is, too.value_is, back.range_is, too.range_is) refl;
        count_is = rw (back.count_is, too.count_is) refl;
        few = omega (arith, following_few a back.form, back.count_is, following_few b too.form, too.count_is);
        short = omega (arith, back.short, too.short, size);
        is_plain = all_both plain_byte first (0x2C ∷ next) (is_plain first back.of_letters) (is_plain next too.of_letters);
        some = inr (omega (arith, size));
      }

-- ---- an instruction

-- the values of an instruction's words, or its refusal
abbrev pub values_of : Operation → Result (List EncodedOperand) FormError → Result (List Value) FormError
values_of operation answer = answer >>= λ readies. Ok (Absolute (word_of (instruction_of operation readies)) ∷ second.all_following readies)

pub record InstrBack (here : Value) (operation : Operation) (field : List ℕ) (answer : Result (List Value) FormError) (count : ℕ) : Type 0 where
  pub skeleton : Skeleton
  pub first_is : first_checks (name_of operation) field ≡ Ok skeleton
  pub size_is : size_of skeleton ≡ 2 * count
  pub second_is : second_checks known here skeleton ≡ answer
  pub few : length field ≤ 47
  pub is_plain : list_all plain_byte field ≡ true

valued_all : (operation : Operation) (here : Value) (forms : List Form) (answer : Result (List EncodedOperand) FormError)
    → (all_valued known here (kinds_of operation) forms >>= all_ranged here) ≡ answer
    → second_checks known here (Instruction operation forms) ≡ values_of operation answer
unfolding second_checks
valued_all operation here forms answer e = both_checks (all_valued known here (kinds_of operation) forms) ∙ ap (values_of operation) e
  where
    both_checks : (values : Result (List second.Operand) FormError) →
        (values >>= λ operands. values_of operation (all_ranged here operands)) ≡ values_of operation (values >>= all_ranged here)
    both_checks (Ok operands) = refl
    both_checks (Err cause) = refl

pub instr_back : (here : Value) (operation : Operation) (operands : Option (List ℕ)) (answer : Result (List EncodedOperand) FormError) (count : ℕ)
    → FieldBack here (kinds_of operation) operands answer count → InstrBack here operation (field_of operands) (values_of operation answer) (1 + count)
unfolding first_checks
instr_back here operation operands answer count back =
    let n = names operation in
    record {
      skeleton = Instruction operation back.forms;
      first_is = rw (n.reads, back.forms_are) refl;
      size_is = ap (λ n. 2 * (1 + n)) back.count_is;
      second_is = valued_all operation here back.forms answer back.readies_are;
      few = (let f = back.few in let s = back.short in omega (arith, f, s));
      is_plain = back.is_plain;
    }

-- words of which each is one
abbrev pub AreWords : List ℕ → Type 0
AreWords words = (k : ℕ) → slice_index words k < 65536

-- the operands of an instruction at an address, with the words from its first on
abbrev pub readies_of : Instr → ℕ → List ℕ → Result (List EncodedOperand) FormError
readies_of (Two op byte dst src) at words =
    Ok (Located src (followed src (slice_index words 1)) ∷ Located dst (followed dst (slice_index words (1 + following_words src))) ∷ [])
readies_of (Reg op number src) at words = Ok (Located src (followed src (slice_index words 1)) ∷ Counted number ∷ [])
readies_of (Shift op count number) at words = Ok (Counted number ∷ Counted count ∷ [])
readies_of (One op place) at words = Ok (Located place (followed place (slice_index words 1)) ∷ [])
readies_of (Jump op disp) at words = if jump_wraps op (at + 2) disp then Err JumpTooFar else Ok (Displaced disp ∷ [])
readies_of (Imm op number) at words =
    if has_immediate op then Ok (Counted number ∷ Followed (Absolute (slice_index words 1)) ∷ []) else Ok (Counted number ∷ [])
readies_of (Bare op) at words = if has_value op then Ok (Followed (Absolute (slice_index words 1)) ∷ []) else Ok []

module _ (at : ℕ) (inside : at < 65536) (words : List ℕ) (are : AreWords words) where
  abbrev here : Value
  here = Absolute at

  abbrev Comes : Instr → Type 0
  Comes found = (n : ℕ) × (1 + n ≡ size_in_words found) × FieldBack here (kinds_of (operation_of found)) (operands_text found at words) (readies_of found at words) n

  abbrev RegField : RegOp → ℕ → Place → Type 0
  RegField op number src =
      FieldBack here (reg_kinds op) (Some (two_texts (operand_text src (slice_index words 1)) (number_text op number)))
      (Ok (Located src (followed src (slice_index words 1)) ∷ Counted number ∷ [])) (following_words src + (0 + 0))

  reg_field : (op : RegOp) (number : ℕ) (src : Place) → HasRoom (Reg op number src) → RegField op number src
  reg_field XOP number src room = two_field (place_back here _ (are 1) src room.1) (count_back here number room.0)
  reg_field LDCR number src room = two_field (place_back here _ (are 1) src room.1) (count_back here number room.0)
  reg_field STCR number src room = two_field (place_back here _ (are 1) src room.1) (count_back here number room.0)
  reg_field _ number src room = two_field (place_back here _ (are 1) src room.1) (register_back here number room.0)

  abbrev JumpField : JumpOp → ℤ → Type 0
  JumpField op disp =
      FieldBack here (jump_kinds op) (Some (target_text op (plus at 2) disp)) (if jump_wraps op (at + 2) disp then Err JumpTooFar else Ok (Displaced disp ∷ [])) 0

  bit_field : (disp : ℤ) → FitsSigned w8 disp → FieldBack here (kind.Displacement ∷ []) (Some (signed_text disp)) (Ok (Displaced disp ∷ [])) 0
  bit_field disp fits = one_field (bit_back here disp fits)

  gone : (out : Bool) (disp : ℤ) → alone (displaced (if out then None else Some disp)) ≡ (if out then Err JumpTooFar else Ok (Displaced disp ∷ []))
  gone true disp = refl
  gone false disp = refl

  to_field : (disp : ℤ) → FitsSigned w8 disp
      → FieldBack here (kind.Target ∷ []) (Some (hex_word (jump_target (plus at 2) disp))) (if leads_out (at + 2) disp then Err JumpTooFar else Ok (Displaced disp ∷ [])) 0
  to_field disp fits =
      subst (λ answer. FieldBack here (kind.Target ∷ []) (Some (hex_word (jump_target (plus at 2) disp))) answer 0) (gone (leads_out (at + 2) disp) disp)
      (one_field (target_back at inside disp fits))

  jump_field : (op : JumpOp) (disp : ℤ) → FitsSigned w8 disp → JumpField op disp
  jump_field SBO disp fits = bit_field disp fits
  jump_field SBZ disp fits = bit_field disp fits
  jump_field TB disp fits = bit_field disp fits
  jump_field _ disp fits = to_field disp fits

  imm_field : (op : ImmOp) (number : ℕ) → number < 16 → Comes (Imm op number)
  imm_field op number lt = by (has_immediate op)
    where
      by : (b : Bool) → (n : ℕ) × (1 + n ≡ 1 + one_if b)
          × FieldBack here (if b then kind.Register ∷ kind.Immediate ∷ [] else kind.Register ∷ [])
          (Some (if b then two_texts (register_text number) (hex_word (slice_index words 1)) else register_text number))
          (if b then Ok (Counted number ∷ Followed (Absolute (slice_index words 1)) ∷ []) else Ok (Counted number ∷ [])) n
      by true = (1, refl, two_field (register_back here number lt) (immediate_back here _ (are 1)))
      by false = (0, refl, one_field (register_back here number lt))

  bare_field : (op : BareOp) → Comes (Bare op)
  bare_field op = by (has_value op)
    where
      by : (b : Bool) → (n : ℕ) × (1 + n ≡ 1 + one_if b)
          × FieldBack here (if b then kind.Immediate ∷ [] else []) (if b then Some (hex_word (slice_index words 1)) else None)
          (if b then Ok (Followed (Absolute (slice_index words 1)) ∷ []) else Ok []) n
      by true = (1, refl, one_field (immediate_back here _ (are 1)))
      by false = (0, refl, no_field)

  pub field_back : (found : Instr) → HasRoom found → HasSignedByte found → Comes found
  field_back (Two op byte dst src) room signed =
      (following_words src + (following_words dst + 0), omega arith, two_field (place_back here _ (are 1) src room.1) (place_back here _ (are (1 + following_words src)) dst room.0))
  field_back (Reg op number src) room signed = (following_words src + (0 + 0), omega arith, reg_field op number src room)
  field_back (Shift op count number) room signed = (0, refl, two_field (register_back here number room.1) (count_back here count room.0))
  field_back (One op place) room signed = (following_words place + 0, omega arith, one_field (place_back here _ (are 1) place room))
  field_back (Jump op disp) room signed = (0, refl, jump_field op disp signed)
  field_back (Imm op number) room signed = imm_field op number room
  field_back (Bare op) room signed = bare_field op

-- ---- The words of a listed instruction are those that it was read from

-- what is read has a signed byte
signed : (operation : Operation) (word : ℕ) → HasSignedByte (operands_at operation word)
signed (operation.Jump op) word = omega (arith, ints)
signed _ word = tt

pub instr_at-signed : (word : ℕ) → IfSome (instr_at word) HasSignedByte
instr_at-signed word = by (operation_at word)
  where
    by : (found : Option Operation) → IfSome (option_map (λ operation. operands_at operation word) found) HasSignedByte
    by None = tt
    by (Some operation) = signed operation word

-- an instruction that is read from a word
pub record IsRead (word : ℕ) (found : Instr) : Type 0 where
  pub encoded : word_of found ≡ word
  pub room : HasRoom found
  pub signed : HasSignedByte found

pub is_read : (word : ℕ) (found : Instr) → word < 65536 → instr_at word ≡ Some found → IsRead word found
is_read word found lt e = record {
  encoded = if_some (λ instr. word_of instr ≡ word) (instr_at-encoded word lt);
  room = if_some HasRoom (instr_at-room word);
  signed = if_some HasSignedByte (instr_at-signed word);
}
  where
    if_some : (P : Instr → Type 0) → IfSome (instr_at word) P → P found
    if_some P is = subst (λ answer. IfSome answer P) e is

-- ---- the words that follow

abbrev follows : Bool → ℕ
follows b = if b then 1 else 0

two_follow : (src dst : Place) (a b : Bool) (word : ℕ) (rest : List ℕ) → follows a + follows b ≤ length rest
    → following_in (Located src (if a then Some (Absolute (slice_index (word ∷ rest) 1)) else None))
    ++ (following_in (Located dst (if b then Some (Absolute (slice_index (word ∷ rest) (1 + follows a))) else None)) ++ [])
    ≡ map Absolute (take (follows a + follows b) rest)
two_follow src dst false true word [] le = absurd (omega (arith, le))
two_follow src dst true false word [] le = absurd (omega (arith, le))
two_follow src dst true true word [] le = absurd (omega (arith, le))
two_follow src dst true true word (first ∷ []) le = absurd (omega (arith, le))
two_follow src dst _ _ word _ le = refl

alone_follows : (b : Bool) (word : ℕ) (rest : List ℕ) (place : Place) → follows b ≤ length rest
    → following_in (Located place (if b then Some (Absolute (slice_index (word ∷ rest) 1)) else None)) ++ [] ≡ map Absolute (take (follows b) rest)
alone_follows true word [] place le = absurd (omega (arith, le))
alone_follows _ word _ place le = refl

-- the values of the words of an instruction, unless it is a jump that wraps
abbrev pub values_unless : Bool → List ℕ → Result (List Value) FormError
values_unless true words = Err JumpTooFar
values_unless false words = Ok (map Absolute words)

module _ (at word : ℕ) (rest : List ℕ) where
  abbrev Again : Instr → Type 0
  Again found = word_of found ≡ word → size_in_words found ≤ length (word ∷ rest)
      → values_of (operation_of found) (readies_of found at (word ∷ rest)) ≡ values_unless (wraps at (Some found)) (take (size_in_words found) (word ∷ rest))

  put : (found : Instr) (following : List Value) (n count : ℕ) → count ≡ suc n → word_of found ≡ word → following ≡ map Absolute (take n rest)
      → ◌≡◌ {A = Result (List Value) FormError} (Ok (Absolute (word_of found) ∷ following)) (Ok (map Absolute (take count (word ∷ rest))))
  put found following n count same e f = rw (same, e, f) refl

  jump_again : (found : Instr) (disp : ℤ) (out : Bool) (cause : FormError) → word_of found ≡ word → (operation : Operation) → instruction_of operation (Displaced disp ∷ []) ≡ found
      → values_of operation (if out then Err JumpTooFar else Ok (Displaced disp ∷ [])) ≡ values_unless out (take 1 (word ∷ rest))
  jump_again found disp true cause e operation same = refl
  jump_again found disp false cause e operation same = rw (same, e) refl

  two_words : (rest : List ℕ) → 2 ≤ length (word ∷ rest) →
      ◌≡◌ {A = Result (List Value) FormError} (Ok (Absolute word ∷ Absolute (slice_index (word ∷ rest) 1) ∷ [])) (Ok (map Absolute (take 2 (word ∷ rest))))
  two_words [] le = absurd (omega (arith, le))
  two_words (first ∷ rest) le = refl

  imm_again : (found : Instr) (number : ℕ) (operation : Operation) (b : Bool) → word_of found ≡ word → 1 + one_if b ≤ length (word ∷ rest)
      → ((readies : List EncodedOperand) → instruction_of operation (Counted number ∷ readies) ≡ found)
      → values_of operation (if b then Ok (Counted number ∷ Followed (Absolute (slice_index (word ∷ rest) 1)) ∷ []) else Ok (Counted number ∷ []))
      ≡ Ok (map Absolute (take (1 + one_if b) (word ∷ rest)))
  imm_again found number operation false e le same = rw (same [], e) refl
  imm_again found number operation true e le same = rw (same (Followed (Absolute (slice_index (word ∷ rest) 1)) ∷ []), e) (two_words rest le)

  bare_again : (found : Instr) (operation : Operation) (b : Bool) → word_of found ≡ word → 1 + one_if b ≤ length (word ∷ rest)
      → ((readies : List EncodedOperand) → instruction_of operation readies ≡ found)
      → values_of operation (if b then Ok (Followed (Absolute (slice_index (word ∷ rest) 1)) ∷ []) else Ok [])
      ≡ Ok (map Absolute (take (1 + one_if b) (word ∷ rest)))
  bare_again found operation false e le same = rw (same [], e) refl
  bare_again found operation true e le same = rw (same (Followed (Absolute (slice_index (word ∷ rest) 1)) ∷ []), e) (two_words rest le)

  pub again : (found : Instr) → Again found
  again (Two op byte dst src) e le =
      put (Two op byte dst src) _ (following_words src + following_words dst) _ (omega arith) e (two_follow src dst (src.mode == 2) (dst.mode == 2) word rest (omega (arith, le)))
  again (Reg op number src) e le = put (Reg op number src) _ (following_words src) _ (omega arith) e (alone_follows (src.mode == 2) word rest src (omega (arith, le)))
  again (Shift op count number) e le = put (Shift op count number) [] 0 _ refl e refl
  again (One op place) e le = put (One op place) _ (following_words place) _ (omega arith) e (alone_follows (place.mode == 2) word rest place (omega (arith, le)))
  again (Jump op disp) e le = jump_again (Jump op disp) disp (jump_wraps op (at + 2) disp) JumpTooFar e (operation.Jump op) refl
  again (Imm op number) e le = imm_again (Imm op number) number (operation.Imm op) (has_immediate op) e le (λ readies. refl)
  again (Bare op) e le = bare_again (Bare op) (operation.Bare op) (has_value op) e le (λ readies. refl)
