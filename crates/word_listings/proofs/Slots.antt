-- The operands of a listed instruction, by the forms and the values that the assembler finds in their texts.
use Rattle.std.proofs.Common.{◌≡◌, ℕ, ◌<◌, ◌≤◌, Bool, true, false, List, ◌∷◌, refl, ap, ◌∙◌, Ok, Option, arith}
use Rattle.std.specs.Prelude.{Result, eqb}
use Rattle.std.specs.Fmt.{decimal, digits}
use Rattle.std.proofs.lemmas.Bool.{agree_below, agree_below_at}
use mathlib.Core.Path.{fun_ext}
use Rattle.expression_defs.specs.declared.causes.ExprError.{ExprError}
use Rattle.source_defs.specs.Digits.{hex_word, hex_byte, word_digits}
use Rattle.expression_defs.specs.Tokens.{token_at, tokens_from}
use Rattle.expression_defs.specs.Expression.{Value, Absolute, expression, negated}
use Rattle.expression_defs.specs.Symbols.{look_up, predefined, registers}
use Rattle.instruction_defs.specs.Printed.{register_text, operand_text, signed_text}
use Rattle.line_laws.specs.KnownLines.{look_in}
use Rattle.line_laws.proofs.Whole.{registers_look_up}
use Rattle.listed_lines.proofs.DigitLaws.{eqb_same, word_tokens, byte_tokens, word_passes, none_closed}
use Rattle.std.proofs.Common.{zero, suc, ◌+◌, ◌-◌, ◌*◌, ◌/◌, ◌%◌, not, []}
use Rattle.std.proofs.Common.{◌++◌, length, length-append, get_or, Some, None}
use Rattle.std.specs.Prelude.{◌==◌, ◌&&◌, nat_lt, nat_le, codes, if◌then◌else◌, ℤ, pos, negsuc, neg_ℤ, ◌*ℤ◌, FitsSigned}
use Rattle.std.specs.Int.{w8, w16, cast_signed, cast_unsigned}
use Rattle.std.specs.List.{list_all}
use Rattle.std.proofs.lemmas.Bool.Decides.{nat_tests}
use Rattle.std.proofs.lemmas.Int.{ints}
use Rattle.std.proofs.lemmas.List.{get_or_push}
use Rattle.std.proofs.Math.Seq.{take-append_seam}
use Rattle.source_defs.specs.Parentheses.{last_place}
use Rattle.tms_defs.specs.Words.{plus}
use Rattle.tms_defs.specs.Jumps.{jump_target}
use Rattle.tms_defs.specs.Instructions.{IsPlace}
use Rattle.tms_defs.specs.declared.instruction.Place.{Place}
use Rattle.instruction_defs.specs.declared.causes.FormError.{FormError}
use Rattle.instruction_defs.specs.declared.operand_kind.OperandKind.{OperandKind}
use Rattle.instruction_defs.specs.declared.operand_kind.OperandKind.TheVariants.{General, Register, Count, Immediate, Target, Displacement}
use Rattle.instruction_defs.specs.Forms.{Form, Plain, Indirect, Increment, Symbolic, Indexed, form_of, is_plus}
use Rattle.instruction_defs.specs.Operands.{following_words}
use Rattle.instruction_defs.specs.FirstChecks.{form_in, words_after, is_mode_sign}
use Rattle.instruction_defs.specs.SecondChecks.{Operand, InRegister, ByRegister, AutoIncrement, AtAddress, AtIndexed, Number, Bit, To}
use Rattle.instruction_defs.specs.SecondChecks.{Following, EncodedOperand, Located, Counted, Displaced, Followed, valued, ranged, displaced}
use Rattle.instruction_defs.specs.SecondChecks.{displacement_to, is_displacement}
use Rattle.line_laws.proofs.Small.{both}
use Rattle.listed_lines.proofs.Scans.{all_both, not_true, unquoted}
use Rattle.listed_lines.proofs.OperandLines.{whole, has_is, outer_is, inner_is}
use Rattle.listed_lines.proofs.LineTexts.{plain_byte}
use Rattle.word_listings.specs.Modules.{leads_out}

-- an answer is a number
abbrev comes_to : Result Value ExprError → ℕ → Bool
comes_to (Ok (Absolute m)) n = eqb m n
comes_to _ n = false

is_value : (answer : Result Value ExprError) (n : ℕ) → comes_to answer n ≡ true → answer ≡ Ok (Absolute n)
is_value (Ok (Absolute m)) n e = ap (λ n. Ok (Absolute n)) (eqb_same m n e)
is_value _ n e = cc e

-- a register by its name
abbrev pub known : List ℕ → Option Value
known name = look_up predefined name

-- a test that the text of each register passes
abbrev pub registers_pass : (List ℕ → Bool) → Bool
registers_pass p = agree_below (λ n. p (register_text n)) (λ n. true) 16

pub register_passes : (p : List ℕ → Bool) (n : ℕ) → n < 16 → registers_pass p ≡ true → p (register_text n) ≡ true
register_passes p n lt e = agree_below_at (λ n. p (register_text n)) (λ n. true) 16 n e lt

module _ (look : List ℕ → Option Value) (here : Value) where
  pub decimal_value : (n : ℕ) → n ≤ 128 → expression look here (decimal n) ≡ Ok (Absolute n)
  unfolding token_at tokens_from digits
  decimal_value n le =
      is_value _ n
      (agree_below_at (λ n. comes_to (expression look here (decimal n)) n) (λ n. true) 129 n refl (omega (arith, le)))

  pub negative_value : (n : ℕ) → n ≤ 128 → expression look here (0x2D ∷ decimal n) ≡ Ok (Absolute (negated n))
  unfolding token_at tokens_from digits
  negative_value n le =
      is_value _ (negated n)
      (agree_below_at (λ n. comes_to (expression look here (0x2D ∷ decimal n)) (negated n)) (λ n. true) 129 n refl
      (omega (arith, le)))

  pub word_value : (n : ℕ) → n < 65536 → expression look here (hex_word n) ≡ Ok (Absolute n)
  word_value n lt = rw (word_tokens n lt) refl

  pub byte_value : (n : ℕ) → n < 256 → expression look here (hex_byte n) ≡ Ok (Absolute n)
  byte_value n lt = rw (byte_tokens n lt) refl

pub register_value : (here : Value) (n : ℕ) → n < 16 → expression known here (register_text n) ≡ Ok (Absolute n)
unfolding token_at tokens_from digits registers
register_value here n lt =
    ap (λ look. expression look here (register_text n)) (fun_ext registers_look_up)
    ∙ is_value _ n
    (agree_below_at (λ n. comes_to (expression (look_in registers) here (register_text n)) n) (λ n. true) 16 n refl lt)

-- ---- The operands of a listed instruction, by the forms and the values that the assembler finds in their texts

-- a byte of an operand: it parts neither fields nor operands
abbrev pub letter : ℕ → Bool
letter byte = whole byte && plain_byte byte

abbrev letters : List ℕ → Bool
letters text = list_all letter text

-- an operand's text, by what the first checks find in it and the second make of it
pub record SlotBack (here : Value) (kind : OperandKind) (text : List ℕ) (answer : Result EncodedOperand FormError) (count : ℕ) : Type 0 where
  pub form : Form
  pub operand : Operand
  pub form_is : form_in kind text ≡ Ok form
  pub value_is : valued known here kind form ≡ Ok operand
  pub range_is : ranged here operand ≡ answer
  pub count_is : words_after kind form ≡ count
  pub short : length text ≤ 5 + 6 * count
  pub of_letters : list_all letter text ≡ true

back : {here : Value} {kind : OperandKind} {text : List ℕ} {answer : Result EncodedOperand FormError} {count : ℕ} (form : Form) (operand : Operand) →
    form_in kind text ≡ Ok form → valued known here kind form ≡ Ok operand → ranged here operand ≡ answer →
    words_after kind form ≡ count → length text ≤ 5 + 6 * count → letters text ≡ true → SlotBack here kind text answer count
back form operand a b c d e f =
    record { form = form; operand = operand; form_is = a; value_is = b; range_is = c; count_is = d; short = e; of_letters = f }

-- ---- registers and numbers

le_of : (m n : ℕ) → nat_le m n ≡ true → m ≤ n
le_of m n e = grind (arith, nat_tests)

register_short : (n : ℕ) → n < 16 → length (register_text n) ≤ 3
unfolding digits
register_short n lt = le_of _ 3 (register_passes (λ text. nat_le (length text) 3) n lt refl)

register_letters : (n : ℕ) → n < 16 → letters (register_text n) ≡ true
unfolding digits
register_letters n lt = register_passes letters n lt refl

word_letters : (w : ℕ) → letters (hex_word w) ≡ true
word_letters w = word_passes letter w refl refl

fits : (n : ℕ) → n < 16 → nat_lt n 16 ≡ true
fits n lt = grind (arith, nat_tests, lt)

-- a text that begins with no sign of a mode
abbrev is_plain : List ℕ → Bool
is_plain [] = false
is_plain (byte ∷ bytes) = not (is_mode_sign byte)

plain_form : (text : List ℕ) → is_plain text ≡ true →
    (form_in Count text ≡ Ok (Plain text)) × (form_in Displacement text ≡ Ok (Plain text))
plain_form [] e = cc e
plain_form (byte ∷ bytes) e = let no = not_true (is_mode_sign byte) e in (rw no refl, rw no refl)

abbrev is_number : ℕ → Bool
is_number n = is_plain (decimal n) && (nat_le (length (decimal n)) 3 && letters (decimal n))

record NumberText (text : List ℕ) : Type 0 where
  plain : is_plain text ≡ true
  short : length text ≤ 3
  of_letters : letters text ≡ true

number_text : (n : ℕ) → n ≤ 128 → NumberText (decimal n)
unfolding digits
number_text n le =
    let all = both (is_plain (decimal n)) _ (agree_below_at is_number (λ n. true) 129 n refl (omega (arith, le))) in
    let rest = both (nat_le (length (decimal n)) 3) _ all.1 in
    record { plain = all.0; short = le_of _ 3 rest.0; of_letters = rest.1 }

abbrev is_below : ℤ → ℕ → Bool
is_below (pos m) n = false
is_below (negsuc m) n = eqb m n

below_is : (disp : ℤ) (n : ℕ) → is_below disp n ≡ true → disp ≡ negsuc n
below_is (pos m) n e = cc e
below_is (negsuc m) n e = ap negsuc (eqb_same m n e)

negative : (n : ℕ) → n < 128 → cast_signed w16 (negated (suc n)) ≡ negsuc n
negative n lt =
    below_is _ n (agree_below_at (λ n. is_below (cast_signed w16 (negated (suc n))) n) (λ n. true) 128 n refl lt)

module _ (here : Value) where
  pub register_back : (n : ℕ) → n < 16 → SlotBack here Register (register_text n) (Ok (Counted n)) 0
  register_back n lt =
      back (Plain (register_text n)) (Number n) refl (rw (register_value here n lt) refl) (rw (fits n lt) refl) refl
      (omega (arith, register_short n lt)) (register_letters n lt)

  pub count_back : (n : ℕ) → n < 16 → SlotBack here Count (decimal n) (Ok (Counted n)) 0
  count_back n lt =
      let text = number_text n (omega (arith, lt)) in
      back (Plain (decimal n)) (Number n) (plain_form (decimal n) text.plain).0
      (rw (decimal_value known here n (omega (arith, lt))) refl) (rw (fits n lt) refl) refl (omega (arith, text.short))
      text.of_letters

  pub immediate_back : (w : ℕ) → w < 65536 → SlotBack here Immediate (hex_word w) (Ok (Followed (Absolute w))) 1
  unfolding word_digits
  immediate_back w lt =
      back (Plain (hex_word w)) (Following (Absolute w)) refl (rw (word_value known here w lt) refl) refl refl (omega arith)
      (word_letters w)

  pub bit_back : (disp : ℤ) → FitsSigned w8 disp → SlotBack here Displacement (signed_text disp) (Ok (Displaced disp)) 0
  bit_back (pos n) is =
      let text = number_text n (omega (arith, ints, is)) in
      let small : nat_lt n 128 ≡ true = (let lt : n < 128 = omega (arith, ints, is) in grind (arith, nat_tests, lt)) in
      let same : cast_signed w16 n ≡ pos n = omega (arith, ints, is) in
      back (Plain (decimal n)) (Bit n) (plain_form (decimal n) text.plain).1
      (rw (decimal_value known here n (omega (arith, ints, is))) refl) (rw small (ap (λ disp. Ok (Displaced disp)) same)) refl
      (omega (arith, text.short)) text.of_letters
  bit_back (negsuc n) is =
      let lt : n < 128 = omega (arith, ints, is) in
      let text = number_text (suc n) (omega (arith, lt)) in
      let large : is_displacement (negated (suc n)) ≡ true = grind (arith, nat_tests, lt) in
      back (Plain (0x2D ∷ decimal (suc n))) (Bit (negated (suc n))) refl
      (rw (negative_value known here (suc n) (omega (arith, lt))) refl) (rw large (ap (λ disp. Ok (Displaced disp)) (negative n lt))) refl
      (omega (arith, text.short)) text.of_letters

-- ---- places

-- the word that follows for an operand in any mode
abbrev pub followed : Place → ℕ → Option Value
followed place word = if place.mode == 2 then Some (Absolute word) else None

indirect_form : (n : ℕ) → n < 16 → form_of (0x2A ∷ register_text n) ≡ Indirect (register_text n)
unfolding form_of digits
indirect_form n lt =
    rw (not_true _ (register_passes (λ text. not (is_plus (get_or text (last_place text) 0))) n lt refl)) refl

increment_form : (text : List ℕ) → form_of (0x2A ∷ (text ++ codes "+")) ≡ Increment text
unfolding form_of
increment_form text =
    let last : last_place (text ++ codes "+") ≡ length text = omega (arith, length-append text (codes "+")) in
    rw (last, get_or_push text 0x2B 0 (length text) refl, take-append_seam text (codes "+")) refl

symbolic_form : (w : ℕ) → form_of (0x40 ∷ hex_word w) ≡ Symbolic (hex_word w)
unfolding form_of
symbolic_form w = rw (none_closed w) refl

abbrev indexed_text : ℕ → ℕ → List ℕ
indexed_text w r = hex_word w ++ (0x28 ∷ (register_text r ++ codes ")"))

indexed_passes : (p : ℕ → Bool) (w r : ℕ) → list_all p (hex_word w) ≡ true → list_all p (register_text r) ≡ true →
    (p 0x28 && p 0x29) ≡ true → list_all p (indexed_text w r) ≡ true
indexed_passes p w r e f g =
    let parens = both (p 0x28) (p 0x29) g in
    all_both p (hex_word w) (0x28 ∷ (register_text r ++ codes ")")) e
    (rw parens.0 (all_both p (register_text r) (codes ")") f (rw parens.1 refl)))

indexed_form : (w r : ℕ) → r < 16 → form_of (0x40 ∷ indexed_text w r) ≡ Indexed (hex_word w) (register_text r)
unfolding form_of digits
indexed_form w r lt =
    let quotes = indexed_passes unquoted w r (word_passes unquoted w refl refl) (register_passes (list_all unquoted) r lt refl) refl in
    let own = word_passes (λ byte. not (byte == 0x28)) w refl refl in
    rw (
      has_is (hex_word w) (register_text r) quotes own,
      outer_is (hex_word w) (register_text r) quotes own,
      inner_is (hex_word w) (register_text r) quotes own,
    ) refl

module _ (here : Value) (w : ℕ) (word : w < 65536) where
  abbrev PlaceBack : Place → Type 0
  PlaceBack place = SlotBack here General (operand_text place w) (Ok (Located place (followed place w))) (following_words place)

  place_by : (mode reg : ℕ) → mode < 4 → reg < 16 → PlaceBack (record { mode = mode; reg = reg })
  unfolding operand_text form_of word_digits
  place_by zero r a lt =
      back (Plain (register_text r)) (InRegister r) refl (rw (register_value here r lt) refl) (rw (fits r lt) refl) refl
      (omega (arith, register_short r lt)) (register_letters r lt)
  place_by (suc zero) r a lt =
      back (Indirect (register_text r)) (ByRegister r) (ap Ok (indirect_form r lt)) (rw (register_value here r lt) refl)
      (rw (fits r lt) refl) refl (omega (arith, register_short r lt)) (register_letters r lt)
  place_by (suc (suc zero)) zero a lt =
      back (Symbolic (hex_word w)) (AtAddress (Absolute w)) (ap Ok (symbolic_form w)) (rw (word_value known here w word) refl)
      refl refl (omega arith) (word_letters w)
  place_by (suc (suc zero)) (suc r) a lt =
      let above : nat_lt 0 (suc r) ≡ true = grind (arith, nat_tests) in
      let no : (suc r == 0) ≡ false = grind (arith, nat_tests) in
      rw no
      (back (Indexed (hex_word w) (register_text (suc r))) (AtIndexed (Absolute w) (suc r)) (ap Ok (indexed_form w (suc r) lt))
      (rw (word_value known here w word, register_value here (suc r) lt) refl) (rw (above, fits (suc r) lt) refl) refl
      (omega (arith, register_short (suc r) lt, length-append (register_text (suc r)) (codes ")")))
      (indexed_passes letter w (suc r) (word_letters w) (register_letters (suc r) lt) refl))
  place_by (suc (suc (suc zero))) r a lt =
      back (Increment (register_text r)) (AutoIncrement r) (ap Ok (increment_form (register_text r)))
      (rw (register_value here r lt) refl) (rw (fits r lt) refl) refl
      (omega (arith, register_short r lt, length-append (register_text r) (codes "+")))
      (all_both letter (register_text r) (codes "+") (register_letters r lt) refl)
  place_by (suc (suc (suc (suc mode)))) r a lt = absurd (omega (arith, a))

  pub place_back : (place : Place) → IsPlace place → PlaceBack place
  place_back place is = place_by place.mode place.reg is.0 is.1

-- ---- targets

-- where a jump leads, if it does not wrap
abbrev pub reached : ℕ → ℤ → Option ℤ
reached next disp = if leads_out next disp then None else Some disp

two_forward : (n : ℕ) → n < 128 → cast_unsigned w16 (pos 2 *ℤ pos n) ≡ 2 * n
two_forward n lt = omega (arith, ints, lt)

two_backward : (n : ℕ) → n < 128 → cast_unsigned w16 (pos 2 *ℤ negsuc n) ≡ 65536 - 2 * suc n
two_backward n lt = omega (arith, ints, lt)

go_forward : (next target n : ℕ) → target ≡ next + 2 * n → n < 128 → displacement_to next target ≡ Some (pos n)
go_forward next target n e lt =
    let ahead : nat_le next target ≡ true = grind (arith, nat_tests, e) in
    let distance : target - next ≡ 2 * n = omega (arith, e) in
    let even : (2 * n % 2 == 0) ≡ true = (let z : 2 * n % 2 ≡ 0 = omega arith in grind (arith, nat_tests, z)) in
    let near : nat_le (2 * n) 254 ≡ true = grind (arith, nat_tests, lt) in
    let half : 2 * n / 2 ≡ n = omega arith in
    rw (ahead, distance, even, near, half) refl

go_backward : (next target n : ℕ) → next ≡ target + 2 * suc n → n < 128 → displacement_to next target ≡ Some (negsuc n)
go_backward next target n e lt =
    let ahead : nat_le next target ≡ false = grind (arith, nat_tests, e) in
    let distance : next - target ≡ 2 * suc n = omega (arith, e) in
    let even : (2 * suc n % 2 == 0) ≡ true = (let z : 2 * suc n % 2 ≡ 0 = omega arith in grind (arith, nat_tests, z)) in
    let near : nat_le (2 * suc n) 256 ≡ true = grind (arith, nat_tests, lt) in
    let half : 2 * suc n / 2 ≡ suc n = omega arith in
    rw (ahead, distance, even, near, half) refl

far_by : (bytes most : ℕ) (disp : ℤ) → most < bytes → (if (bytes % 2 == 0) && nat_le bytes most then Some disp else None) ≡ None
far_by bytes most disp lt = grind (arith, nat_tests)

not_backward : (next target : ℕ) → target + 256 < next → displacement_to next target ≡ None
not_backward next target lt =
    let ahead : nat_le next target ≡ false = grind (arith, nat_tests, lt) in
    rw ahead (far_by (next - target) 256 (neg_ℤ (pos ((next - target) / 2))) (omega (arith, lt)))

not_forward : (next target : ℕ) → next + 254 < target → displacement_to next target ≡ None
not_forward next target lt =
    let ahead : nat_le next target ≡ true = grind (arith, nat_tests, lt) in
    rw ahead (far_by (target - next) 254 (pos ((target - next) / 2)) (omega (arith, lt)))

module _ (at : ℕ) (lt : at < 65536) where
  forward_is : (n : ℕ) → n < 128 → (out : Bool) → nat_lt 0xFFFF (at + 2 + 2 * n) ≡ out
      → displacement_to (at + 2) (plus (plus at 2) (2 * n)) ≡ (if out then None else Some (pos n))
  forward_is n few true e =
      let past : 65535 < at + 2 + 2 * n = grind (arith, nat_tests, e) in
      not_backward (at + 2) (plus (plus at 2) (2 * n)) (omega (arith, lt, few, past))
  forward_is n few false e =
      let inside : at + 2 + 2 * n ≤ 65535 = grind (arith, nat_tests, e) in
      go_forward (at + 2) (plus (plus at 2) (2 * n)) n (omega (arith, inside)) few

  backward_is : (n : ℕ) → n < 128 → (out : Bool) → nat_lt (at + 2) (2 * suc n) ≡ out
      → displacement_to (at + 2) (plus (plus at 2) (65536 - 2 * suc n)) ≡ (if out then None else Some (negsuc n))
  backward_is n few true e =
      let past : at + 2 < 2 * suc n = grind (arith, nat_tests, e) in
      not_forward (at + 2) (plus (plus at 2) (65536 - 2 * suc n)) (omega (arith, lt, few, past))
  backward_is n few false e =
      let inside : 2 * suc n ≤ at + 2 = grind (arith, nat_tests, e) in
      go_backward (at + 2) (plus (plus at 2) (65536 - 2 * suc n)) n (omega (arith, inside, lt, few)) few

  target_is : (disp : ℤ) → FitsSigned w8 disp → displacement_to (at + 2) (jump_target (plus at 2) disp) ≡ reached (at + 2) disp
  target_is (pos n) is =
      let few : n < 128 = omega (arith, ints, is) in
      ap (λ bytes. displacement_to (at + 2) (plus (plus at 2) bytes)) (two_forward n few) ∙ forward_is n few _ refl
  target_is (negsuc n) is =
      let few : n < 128 = omega (arith, ints, is) in
      ap (λ bytes. displacement_to (at + 2) (plus (plus at 2) bytes)) (two_backward n few) ∙ backward_is n few _ refl

  pub target_back : (disp : ℤ) → FitsSigned w8 disp → SlotBack (Absolute at) Target (hex_word (jump_target (plus at 2) disp)) (displaced (reached (at + 2) disp)) 0
  unfolding word_digits
  target_back disp is =
      back (Plain (hex_word (jump_target (plus at 2) disp))) (To (jump_target (plus at 2) disp)) refl
      (rw (word_value known (Absolute at) (jump_target (plus at 2) disp) (omega arith)) refl) (ap displaced (target_is disp is))
      refl (omega arith) (word_letters (jump_target (plus at 2) disp))
