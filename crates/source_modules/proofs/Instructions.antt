-- The words of an instruction line are values of 16 bits.
use Rattle.std.proofs.Common.{◌≡◌, ℕ, ℤ, pos, negsuc, neg_ℤ, ◌+◌, ◌-◌, ◌/◌, ◌%◌, ◌<◌, ◌≤◌, Bool, true, false, ◌&&◌, List, [], ◌∷◌, ◌++◌, Some, None, Ok, Err}
use Rattle.std.proofs.Common.{refl, subst, arith}
use Rattle.std.specs.Prelude.{Option, Result, ◌||◌, ◌==◌, IfOk, IfSome, FitsSigned, ⊤, nat_lt, nat_le, if◌then◌else◌, drop, take, slice_index, slice_range}
use Rattle.std.specs.Prelude.{find, codes}
use Rattle.std.specs.List.{AllByRecursion}
use Rattle.std.specs.Option.{option_map}
use Rattle.std.specs.Int.{w8, w16, cast_signed}
use Rattle.std.proofs.lemmas.Bool.Decides.{nat_tests}
use Rattle.std.proofs.lemmas.Int.{ints}
use Rattle.std.proofs.lemmas.Bool.{agree_below_at}
use Rattle.source_defs.specs.Refusals.{◌>>=◌}
use Rattle.source_defs.specs.Characters.{is_asterisk, is_at_sign}
use Rattle.source_defs.specs.Names.{is_word}
use Rattle.source_defs.specs.Operands.{operand_texts}
use Rattle.source_defs.specs.Parentheses.{last_place, opening, has_parentheses}
use Rattle.tms_defs.specs.declared.instruction.Operation.{Operation}
use Rattle.tms_defs.specs.declared.instruction.Operation.TheVariants.{Two, Reg, Shift, One, Jump, Imm, Bare}
use Rattle.tms_defs.specs.declared.instruction.Instr.{Instr}
use Rattle.tms_defs.specs.declared.instruction.Instr.TheVariants as instr
use Rattle.tms_defs.specs.Instructions.{operations, name_of, code_of, mask_of, word_of, IsPlace, HasRoom, HasSignedByte}
use Rattle.tms_defs.proofs.InstructionLaws.{each_operation}
use Rattle.expression_defs.specs.Expression.{Value, absolute, expression}
use Rattle.expression_defs.specs.declared.causes.ExprError.{ExprError}
use Rattle.instruction_defs.specs.declared.causes.FormError.{FormError}
use Rattle.instruction_defs.specs.declared.causes.FormError.TheVariants.{BadOperand, OperandCount}
use Rattle.instruction_defs.specs.declared.mnemonic.Mnemonic.{Mnemonic}
use Rattle.instruction_defs.specs.declared.mnemonic.Mnemonic.TheVariants.{Of, Fixed}
use Rattle.instruction_defs.specs.declared.operand_kind.OperandKind.{OperandKind}
use Rattle.instruction_defs.specs.declared.operand_kind.OperandKind.TheVariants.{General, Register, Count, Immediate, Target, Displacement}
use Rattle.instruction_defs.specs.Operations.{mnemonic}
use Rattle.instruction_defs.specs.Operands.{kinds_of}
use Rattle.instruction_defs.specs.Forms.{Form, Plain, Indirect, Increment, Symbolic, Indexed, starred_form, symbolic_form, form_of, is_plus, without_last}
use Rattle.instruction_defs.specs.FirstChecks.{Skeleton, Word, Instruction, form_in, form_by, forms_in, forms_of, skeleton_of, first_checks, is_mode_sign}
use Rattle.instruction_defs.specs.SecondChecks.{Operand, InRegister, ByRegister, AutoIncrement, AtAddress, AtIndexed, Number, Bit, To, Following}
use Rattle.instruction_defs.specs.SecondChecks.{EncodedOperand, Located, Counted, Displaced, Followed}
use Rattle.instruction_defs.specs.SecondChecks.{value_of, number_of, text_in, as_form_error, target_in, placed, valued, all_valued, ranged, all_ranged}
use Rattle.instruction_defs.specs.SecondChecks.{below_sixteen, by_register}
use Rattle.instruction_defs.specs.SecondChecks.{displaced, displacement_to, forward, backward, place_number, following_in, all_following, place_in, count_in}
use Rattle.instruction_defs.specs.SecondChecks.{first_of, second_of}
use Rattle.instruction_defs.specs.SecondChecks.{instruction_of, second_checks, displacement_in}
use Rattle.source_modules.proofs.Answers.{ok_then, any}
use Rattle.source_modules.proofs.Bytes.{AreBytes, AllBytes, take_bytes, drop_bytes, range_bytes, operands_bytes}
use Rattle.source_modules.proofs.Values.{FitsValue, FitsLook, expression_fits, absolute_fits}

-- ---- the word of an instruction

low_codes : (operation : Operation) → code_of operation ≤ mask_of operation
low_codes operation =
    let test = each_operation (λ operation. nat_le (code_of operation) (mask_of operation)) refl operation in
    grind (arith, nat_tests, test)

word_fits : (instr : Instr) → HasRoom instr → HasSignedByte instr → word_of instr < 65536
word_fits (instr.Two op byte dst src) room signed = omega (arith, low_codes (Two op byte))
word_fits (instr.Reg op d src) room signed = omega (arith, low_codes (Reg op))
word_fits (instr.Shift op count w) room signed = omega (arith, low_codes (Shift op))
word_fits (instr.One op at) room signed = omega (arith, low_codes (One op))
word_fits (instr.Jump op disp) room signed = omega (arith, ints, low_codes (Jump op))
word_fits (instr.Imm op w) room signed = omega (arith, low_codes (Imm op))
word_fits (instr.Bare op) room signed = omega (arith, low_codes (Bare op))

-- ---- the texts of its operands are of bytes

abbrev FormBytes : Form → Type 0
FormBytes (Plain text) = AreBytes text
FormBytes (Indirect text) = AreBytes text
FormBytes (Increment text) = AreBytes text
FormBytes (Symbolic text) = AreBytes text
FormBytes (Indexed text index) = AreBytes text × AreBytes index

abbrev FormsBytes : List Form → Type 0
FormsBytes forms = AllByRecursion FormBytes forms

either : (b : Bool) (one other : Form) → FormBytes one → FormBytes other → FormBytes (if b then one else other)
either true one other this that = this
either false one other this that = that

starred_bytes : (text : List ℕ) → AreBytes text → FormBytes (starred_form text)
starred_bytes text are =
    either (is_plus (slice_index text (last_place text))) (Increment (without_last text)) (Indirect text) (take_bytes (last_place text) text are) are

symbolic_bytes : (text : List ℕ) → AreBytes text → FormBytes (symbolic_form text)
symbolic_bytes text are =
    either (has_parentheses text) (Indexed (take (opening text) text) (slice_range text (opening text + 1) (last_place text))) (Symbolic text)
    (take_bytes (opening text) text are, range_bytes text (opening text + 1) (last_place text) are) are

form_bytes : (text : List ℕ) → AreBytes text → FormBytes (form_of text)
unfolding form_of
form_bytes text are =
    let symbolic =
    either (is_at_sign (slice_index text 0)) (symbolic_form (drop 1 text)) (Plain text) (symbolic_bytes (drop 1 text) (drop_bytes 1 text are)) are in
    either (is_asterisk (slice_index text 0)) (starred_form (drop 1 text)) (if is_at_sign (slice_index text 0) then symbolic_form (drop 1 text) else Plain text)
    (starred_bytes (drop 1 text) (drop_bytes 1 text are)) symbolic

plain_by : (b : Bool) (text : List ℕ) → AreBytes text → IfOk (if b then Err BadOperand else Ok (Plain text)) FormBytes
plain_by true text are = tt
plain_by false text are = are

kind_bytes : (kind : OperandKind) (text : List ℕ) → AreBytes text → IfOk (form_by kind text) FormBytes
kind_bytes General text are = form_bytes text are
kind_bytes _ text are = plain_by (is_mode_sign (slice_index text 0)) text are

in_bytes : (kind : OperandKind) (text : List ℕ) → AreBytes text → IfOk (form_in kind text) FormBytes
in_bytes kind [] are = tt
in_bytes kind (byte ∷ text) are = kind_bytes kind (byte ∷ text) are

forms_bytes : (kinds : List OperandKind) (texts : List (List ℕ)) → AllBytes texts → IfOk (forms_in kinds texts) FormsBytes
forms_bytes [] [] are = tt
forms_bytes [] (text ∷ texts) are = tt
forms_bytes (kind ∷ kinds) [] are = tt
forms_bytes (kind ∷ kinds) (text ∷ texts) are =
    ok_then FormBytes FormsBytes (form_in kind text) _ (in_bytes kind text are.0)
    (λ form bytes. ok_then FormsBytes FormsBytes (forms_in kinds texts) _ (forms_bytes kinds texts are.1) (λ forms all. (bytes, all)))

counted_by : (b : Bool) (answer : Result (List Form) FormError) → IfOk answer FormsBytes → IfOk (if b then answer else Err OperandCount) FormsBytes
counted_by true answer has = has
counted_by false answer has = tt

all_forms : (kinds : List OperandKind) (field : List ℕ) → AreBytes field → IfOk (forms_of kinds field) FormsBytes
all_forms [] field are = tt
all_forms (kind ∷ kinds) field are =
    counted_by _ (forms_in (kind ∷ kinds) (operand_texts field)) (forms_bytes (kind ∷ kinds) (operand_texts field) (operands_bytes field are))

-- a word of its own is one of 16 bits
abbrev SkeletonBytes : Skeleton → Type 0
SkeletonBytes (Word word) = word < 65536
SkeletonBytes (Instruction operation forms) = FormsBytes forms

abbrev FitsMnemonic : Option Mnemonic → Type 0
FitsMnemonic (Some (Fixed word)) = word < 65536
FitsMnemonic _ = ⊤

skeleton_by : (found : Option Mnemonic) (field : List ℕ) → FitsMnemonic found → AreBytes field → IfOk (skeleton_of found field) SkeletonBytes
skeleton_by None field fits are = tt
skeleton_by (Some (Fixed word)) field fits are = fits
skeleton_by (Some (Of operation)) field fits are =
    ok_then FormsBytes SkeletonBytes (forms_of (kinds_of operation) field) _ (all_forms (kinds_of operation) field are) (λ forms all. all)

of_fits : (found : Option Operation) → FitsMnemonic (option_map Of found)
of_fits (Some operation) = tt
of_fits None = tt

mnemonic_by : (nop rt : Bool) (found : Option Operation)
    → FitsMnemonic (if nop then Some (Fixed 0x1000) else if rt then Some (Fixed 0x045B) else option_map Of found)
mnemonic_by true rt found = omega arith
mnemonic_by false true found = omega arith
mnemonic_by false false found = of_fits found

names_fit : (operation : List ℕ) → FitsMnemonic (mnemonic operation)
unfolding mnemonic
names_fit operation =
    mnemonic_by (is_word operation (codes "NOP")) (is_word operation (codes "RT")) (find (λ row. is_word operation (name_of row)) operations)

skeletons : (operation field : List ℕ) → AreBytes field → IfOk (first_checks operation field) SkeletonBytes
unfolding first_checks
skeletons operation field are = skeleton_by (mnemonic operation) field (names_fit operation) are

-- ---- displacements

abbrev is_byte : ℤ → Bool
is_byte (pos number) = nat_lt number 128
is_byte (negsuc number) = nat_lt number 128

byte_fits : (disp : ℤ) → is_byte disp ≡ true → FitsSigned w8 disp
byte_fits (pos number) e = let lt : number < 128 = grind (arith, nat_tests, e) in omega (arith, ints, lt)
byte_fits (negsuc number) e = let lt : number < 128 = grind (arith, nat_tests, e) in omega (arith, ints, lt)

negative_fits : (number : ℕ) → 0xFF80 ≤ number → number < 65536 → FitsSigned w8 (cast_signed w16 number)
negative_fits number le lt =
    let below : number - 0xFF80 < 128 = omega (arith, le, lt) in
    let same : 0xFF80 + (number - 0xFF80) ≡ number = omega (arith, le) in
    byte_fits (cast_signed w16 number)
    (subst (λ number. is_byte (cast_signed w16 number) ≡ true) same
    (agree_below_at (λ n. is_byte (cast_signed w16 (0xFF80 + n))) (λ n. true) 128 (number - 0xFF80) refl below))

-- ---- operands

abbrev FitsOperand : Operand → Type 0
FitsOperand (AtAddress value) = FitsValue value
FitsOperand (AtIndexed value number) = FitsValue value
FitsOperand (Following value) = FitsValue value
FitsOperand (Bit number) = number < 65536
FitsOperand _ = ⊤

abbrev FitsReady : EncodedOperand → Type 0
FitsReady (Located place following) = IsPlace place × IfSome following FitsValue
FitsReady (Counted number) = number < 16
FitsReady (Displaced disp) = FitsSigned w8 disp
FitsReady (Followed value) = FitsValue value

abbrev AreReady : List EncodedOperand → Type 0
AreReady readies = AllByRecursion FitsReady readies

abbrev FitsOperands : List Operand → Type 0
FitsOperands operands = AllByRecursion FitsOperand operands

form_fits : {A : Type 0} (P : A → Type 0) (answer : Result A ExprError) → IfOk answer P → IfOk (as_form_error answer) P
form_fits P (Ok value) has = has
form_fits P (Err cause) has = tt

module _ (look : List ℕ → Option Value) (here : Value) (known : FitsLook look) (place : FitsValue here) where
  value_fits : (text : List ℕ) → AreBytes text → IfOk (value_of look here text) FitsValue
  value_fits text are = form_fits FitsValue (expression look here text) (expression_fits look here text known place are)

  number_fits : (text : List ℕ) → AreBytes text → IfOk (number_of look here text) (λ number. number < 65536)
  number_fits text are =
      ok_then FitsValue (λ number. number < 65536) (value_of look here text) _ (value_fits text are)
      (λ value fits. form_fits (λ number. number < 65536) (absolute value) (absolute_fits value fits))

  plain_number : (text : List ℕ) (make : ℕ → Operand) → ((number : ℕ) → FitsOperand (make number))
      → IfOk (number_of look here text >>= λ number. Ok (make number)) FitsOperand
  plain_number text make fits =
      ok_then (λ number. ⊤) FitsOperand (number_of look here text) (λ number. Ok (make number)) (any (number_of look here text)) (λ number some. fits number)

  placed_fits : (form : Form) → FormBytes form → IfOk (placed look here form) FitsOperand
  placed_fits (Plain text) are = plain_number text InRegister (λ number. tt)
  placed_fits (Indirect text) are = plain_number text ByRegister (λ number. tt)
  placed_fits (Increment text) are = plain_number text AutoIncrement (λ number. tt)
  placed_fits (Symbolic text) are = ok_then FitsValue FitsOperand (value_of look here text) _ (value_fits text are) (λ value fits. fits)
  placed_fits (Indexed text index) are =
      ok_then FitsValue FitsOperand (value_of look here text) _ (value_fits text are.0)
      (λ value fits. ok_then (λ number. ⊤) FitsOperand (number_of look here index) _ (any (number_of look here index)) (λ number some. fits))

  text_bytes : (form : Form) → FormBytes form → AreBytes (text_in form)
  text_bytes (Plain text) are = are
  text_bytes (Indirect text) are = are
  text_bytes (Increment text) are = are
  text_bytes (Symbolic text) are = are
  text_bytes (Indexed text index) are = are.0

  valued_fits : (kind : OperandKind) (form : Form) → FormBytes form → IfOk (valued look here kind form) FitsOperand
  valued_fits General form are = placed_fits form are
  valued_fits Register form are = plain_number (text_in form) Number (λ number. tt)
  valued_fits Count form are = plain_number (text_in form) Number (λ number. tt)
  valued_fits Displacement form are =
      ok_then (λ number. number < 65536) FitsOperand (number_of look here (text_in form)) _
      (number_fits (text_in form) (text_bytes form are)) (λ number fits. fits)
  valued_fits Immediate form are =
      ok_then FitsValue FitsOperand (value_of look here (text_in form)) _ (value_fits (text_in form) (text_bytes form are)) (λ value fits. fits)
  valued_fits Target form are =
      ok_then FitsValue FitsOperand (value_of look here (text_in form)) _ (value_fits (text_in form) (text_bytes form are))
      (λ value fits. ok_then (λ number. ⊤) FitsOperand (as_form_error (target_in here value)) _
      (any (as_form_error (target_in here value))) (λ number some. tt))

  all_valued_fit : (kinds : List OperandKind) (forms : List Form) → FormsBytes forms → IfOk (all_valued look here kinds forms) FitsOperands
  all_valued_fit [] forms are = tt
  all_valued_fit (kind ∷ kinds) [] are = tt
  all_valued_fit (kind ∷ kinds) (form ∷ forms) are =
      ok_then FitsOperand FitsOperands (valued look here kind form) _ (valued_fits kind form are.0)
      (λ operand fits. ok_then FitsOperands FitsOperands (all_valued look here kinds forms) _ (all_valued_fit kinds forms are.1) (λ operands all. (fits, all)))

  sixteen_by : (b : Bool) (number : ℕ) → nat_lt number 16 ≡ b → IfOk (if b then Ok number else Err BadOperand) (λ number. number < 16)
  sixteen_by true number e = grind (arith, nat_tests, e)
  sixteen_by false number e = tt

  sixteen_fits : (number : ℕ) → IfOk (below_sixteen number) (λ number. number < 16)
  sixteen_fits number = sixteen_by (nat_lt number 16) number refl

  register_fits : (mode number : ℕ) → mode < 4 → IfOk (by_register mode number) FitsReady
  register_fits mode number lt =
      ok_then (λ number. number < 16) FitsReady (below_sixteen number) _ (sixteen_fits number) (λ register fits. ((lt, fits), tt))

  indexed_by : (low high : Bool) (value : Value) (number : ℕ) → nat_lt number 16 ≡ high → FitsValue value
      → IfOk (if low && high then Ok (Located (record { mode = 2; reg = number }) (Some value)) else Err BadOperand) FitsReady
  indexed_by true true value number e fits = ((omega arith, grind (arith, nat_tests, e)), fits)
  indexed_by true false value number e fits = tt
  indexed_by false high value number e fits = tt

  bit_by : (low high : Bool) (number : ℕ) → nat_lt number 128 ≡ low → nat_le 0xFF80 number ≡ high → number < 65536
      → IfOk (if low || high then Ok (Displaced (cast_signed w16 number)) else Err BadOperand) FitsReady
  bit_by true high number e f fits = let lt : number < 128 = grind (arith, nat_tests, e) in omega (arith, ints, lt)
  bit_by false true number e f fits = let le : 0xFF80 ≤ number = grind (arith, nat_tests, f) in negative_fits number le fits
  bit_by false false number e f fits = tt

  abbrev FitsDisplacement : Option ℤ → Type 0
  FitsDisplacement found = IfSome found (FitsSigned w8)

  displaced_fits : (found : Option ℤ) → FitsDisplacement found → IfOk (displaced found) FitsReady
  displaced_fits (Some disp) fits = fits
  displaced_fits None fits = tt

  forward_by : (even few : Bool) (bytes : ℕ) → nat_le bytes 254 ≡ few → FitsDisplacement (if even && few then Some (pos (bytes / 2)) else None)
  forward_by true true bytes e = let le : bytes ≤ 254 = grind (arith, nat_tests, e) in omega (arith, ints, le)
  forward_by true false bytes e = tt
  forward_by false few bytes e = tt

  backward_by : (even few : Bool) (bytes : ℕ) → nat_le bytes 256 ≡ few → FitsDisplacement (if even && few then Some (neg_ℤ (pos (bytes / 2))) else None)
  backward_by true true bytes e = let le : bytes ≤ 256 = grind (arith, nat_tests, e) in omega (arith, ints, le)
  backward_by true false bytes e = tt
  backward_by false few bytes e = tt

  displacement_by : (b : Bool) (next target : ℕ) → FitsDisplacement (if b then forward (target - next) else backward (next - target))
  displacement_by true next target = forward_by ((target - next) % 2 == 0) (nat_le (target - next) 254) (target - next) refl
  displacement_by false next target = backward_by ((next - target) % 2 == 0) (nat_le (next - target) 256) (next - target) refl

  ranged_fits : (operand : Operand) → FitsOperand operand → IfOk (ranged here operand) FitsReady
  ranged_fits (InRegister number) fits = register_fits 0 number (omega arith)
  ranged_fits (ByRegister number) fits = register_fits 1 number (omega arith)
  ranged_fits (AutoIncrement number) fits = register_fits 3 number (omega arith)
  ranged_fits (AtAddress value) fits = ((omega arith, omega arith), fits)
  ranged_fits (AtIndexed value number) fits = indexed_by (nat_lt 0 number) (nat_lt number 16) value number refl fits
  ranged_fits (Number number) fits = ok_then (λ number. number < 16) FitsReady (below_sixteen number) _ (sixteen_fits number) (λ count lt. lt)
  ranged_fits (Bit number) fits = bit_by (nat_lt number 128) (nat_le 0xFF80 number) number refl refl fits
  ranged_fits (To target) fits =
      displaced_fits (displacement_to (place_number here + 2) target) (displacement_by (nat_le (place_number here + 2) target) (place_number here + 2) target)
  ranged_fits (Following value) fits = fits

  all_ranged_fit : (operands : List Operand) → FitsOperands operands → IfOk (all_ranged here operands) AreReady
  all_ranged_fit [] all = tt
  all_ranged_fit (operand ∷ operands) all =
      ok_then FitsReady AreReady (ranged here operand) _ (ranged_fits operand all.0)
      (λ ready fits. ok_then AreReady AreReady (all_ranged here operands) _ (all_ranged_fit operands all.1) (λ readies are. (fits, are)))

-- ---- words

place_fits : (ready : EncodedOperand) → FitsReady ready → IsPlace (place_in ready)
place_fits (Located place following) fits = fits.0
place_fits (Counted number) fits = (omega arith, omega arith)
place_fits (Displaced disp) fits = (omega arith, omega arith)
place_fits (Followed value) fits = (omega arith, omega arith)

count_fits : (ready : EncodedOperand) → FitsReady ready → count_in ready < 16
count_fits (Located place following) fits = omega arith
count_fits (Counted number) fits = fits
count_fits (Displaced disp) fits = omega arith
count_fits (Followed value) fits = omega arith

first_fits : (readies : List EncodedOperand) → AreReady readies → FitsReady (first_of readies)
first_fits [] all = omega arith
first_fits (ready ∷ readies) all = all.0

second_fits : (readies : List EncodedOperand) → AreReady readies → FitsReady (second_of readies)
second_fits [] all = omega arith
second_fits (ready ∷ readies) all = first_fits readies all.1

instruction_room : (operation : Operation) (readies : List EncodedOperand) → AreReady readies → HasRoom (instruction_of operation readies)
instruction_room (Two op byte) readies all = (place_fits (second_of readies) (second_fits readies all), place_fits (first_of readies) (first_fits readies all))
instruction_room (Reg op) readies all = (count_fits (second_of readies) (second_fits readies all), place_fits (first_of readies) (first_fits readies all))
instruction_room (Shift op) readies all = (count_fits (second_of readies) (second_fits readies all), count_fits (first_of readies) (first_fits readies all))
instruction_room (One op) readies all = place_fits (first_of readies) (first_fits readies all)
instruction_room (Jump op) readies all = tt
instruction_room (Imm op) readies all = count_fits (first_of readies) (first_fits readies all)
instruction_room (Bare op) readies all = tt

disp_fits : (ready : EncodedOperand) → FitsReady ready → FitsSigned w8 (displacement_in ready)
disp_fits (Located place following) fits = omega (arith, ints)
disp_fits (Counted number) fits = omega (arith, ints)
disp_fits (Displaced disp) fits = fits
disp_fits (Followed value) fits = omega (arith, ints)

instruction_signed : (operation : Operation) (readies : List EncodedOperand) → AreReady readies → HasSignedByte (instruction_of operation readies)
instruction_signed (Jump op) readies all = disp_fits (first_of readies) (first_fits readies all)
instruction_signed _ readies all = tt

abbrev pub FitsValues : List Value → Type 0
FitsValues values = AllByRecursion FitsValue values

following_fits : (ready : EncodedOperand) (others : List Value) → FitsReady ready → FitsValues others → FitsValues (following_in ready ++ others)
following_fits (Located place (Some value)) others fits all = (fits.1, all)
following_fits (Located place None) others fits all = all
following_fits (Counted number) others fits all = all
following_fits (Displaced disp) others fits all = all
following_fits (Followed value) others fits all = (fits, all)

all_following_fit : (readies : List EncodedOperand) → AreReady readies → FitsValues (all_following readies)
all_following_fit [] all = tt
all_following_fit (ready ∷ readies) all = following_fits ready (all_following readies) all.0 (all_following_fit readies all.1)

module _ (look : List ℕ → Option Value) (here : Value) (known : FitsLook look) (place : FitsValue here) where
  skeleton_fits : (skeleton : Skeleton) → SkeletonBytes skeleton → IfOk (second_checks look here skeleton) FitsValues
  unfolding second_checks
  skeleton_fits (Word word) are = (are, tt)
  skeleton_fits (Instruction operation forms) are =
      ok_then FitsOperands FitsValues (all_valued look here (kinds_of operation) forms) _ (all_valued_fit look here known place (kinds_of operation) forms are)
      (λ operands all. ok_then AreReady FitsValues (all_ranged here operands) _ (all_ranged_fit look here known place operands all)
      (λ readies ready. (
        word_fits (instruction_of operation readies) (instruction_room operation readies ready) (instruction_signed operation readies ready),
        all_following_fit readies ready,
      )))

  pub words_fit : (operation field : List ℕ) → AreBytes field → IfOk (first_checks operation field >>= λ skeleton. second_checks look here skeleton) FitsValues
  words_fit operation field are =
      ok_then SkeletonBytes FitsValues (first_checks operation field) _ (skeletons operation field are) (λ skeleton bytes. skeleton_fits skeleton bytes)
