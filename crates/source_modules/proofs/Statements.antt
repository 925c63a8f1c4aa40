-- What a line of bytes says has texts of bytes, and its names are kept names.
use Rattle.std.proofs.Common.{◌≡◌, ℕ, ◌-◌, ◌≤◌, Bool, true, false, ◌&&◌, ◌||◌, List, [], ◌∷◌, Some, None, Ok, Err, refl, arith, length}
use Rattle.std.specs.Prelude.{Option, Result, IfOk, IsTrue, ⊤, nat_le, nat_lt, if◌then◌else◌, map, slice_index}
use Rattle.std.specs.List.{AllByRecursion}
use Rattle.std.proofs.lemmas.Bool.Decides.{nat_tests}
use Rattle.std.proofs.lemmas.List.{length-map}
use Rattle.source_defs.specs.declared.text.Span.{Span}
use Rattle.source_defs.specs.declared.causes.OperandError.{OperandError}
use Rattle.source_defs.specs.declared.causes.OperandError.TheVariants.{Count, Form}
use Rattle.source_defs.specs.Refusals.{◌>>=◌}
use Rattle.source_defs.specs.Characters.{is_letter, is_digit, is_lower_case, upper_case}
use Rattle.source_defs.specs.Lines.{part}
use Rattle.source_defs.specs.Names.{is_name, is_kept_name, is_letter_or_digit, all_letters_or_digits, is_printed, all_printed}
use Rattle.source_defs.specs.Fields.{Fields}
use Rattle.source_defs.specs.Operands.{operand_texts}
use Rattle.source_defs.specs.OperandLists.{one_operand, optional_operand, operand_list, written, none_empty}
use Rattle.source_defs.specs.QuotedTexts.{is_quoted, quoted}
use Rattle.instruction_defs.specs.declared.causes.FormError.{FormError}
use Rattle.instruction_defs.specs.FirstChecks.{line_size}
use Rattle.asm_defs.specs.declared.directive.Directive.{Directive}
use Rattle.asm_defs.specs.declared.directive.Directive.TheVariants as named
use Rattle.asm_defs.specs.Directives.{directive}
use Rattle.asm_defs.specs.Statements.{Statement, Nothing, Instruction, Aorg, Rorg, Dorg, Bss, Bes, Even, Equ, Data, Byte, Text, Def, Ref, Idt, Titl, End}
use Rattle.asm_defs.specs.Statements.{as_form, all_names, upper_names, names_in, as_operands, directive_statement, statement_by, statement_at, statement_in}
use Rattle.asm_defs.proofs.OutcomeSizes.{IsSized}
use Rattle.source_modules.proofs.Answers.{ok_then}
use Rattle.source_modules.proofs.Bytes.{AreBytes, AllBytes, range_bytes, operands_bytes}
use Rattle.source_modules.proofs.Outcomes.{HasBytes}

-- a name that object text holds
abbrev pub IsKept : List ℕ → Type 0
IsKept name = IsTrue (is_kept_name name)

abbrev pub AreKept : List (List ℕ) → Type 0
AreKept names = AllByRecursion IsKept names

-- the names that it lists
abbrev pub HasNames : Statement → Type 0
HasNames (Def names) = AreKept names
HasNames (Ref names) = AreKept names
HasNames _ = ⊤

pub record IsFitStatement (statement : Statement) : Type 0 where
  pub bytes : HasBytes statement
  pub names : HasNames statement
  pub sized : IsSized statement

abbrev plain : (statement : Statement) → HasBytes statement → HasNames statement → IsSized statement → IsFitStatement statement
plain statement bytes names sized = record { bytes = bytes; names = names; sized = sized }

-- ---- names

printed_is : (byte : ℕ) → 0x21 ≤ byte → byte ≤ 0x7E → is_printed byte ≡ true
printed_is byte low high =
    let a : nat_le 0x21 byte ≡ true = grind (arith, nat_tests, low) in
    let b : nat_le byte 0x7E ≡ true = grind (arith, nat_tests, high) in
    rw (a, b) refl

letter_printed : (byte : ℕ) → is_letter_or_digit byte ≡ true → is_printed (upper_case byte) ≡ true
letter_printed byte e = by (is_lower_case byte) refl e
  where
    by : (lower : Bool) → is_lower_case byte ≡ lower → ((((nat_le 0x41 byte && nat_le byte 0x5A) || lower) || is_digit byte) ≡ true)
        → is_printed (if lower then byte - 0x20 else byte) ≡ true
    by true is e =
        let low : 0x61 ≤ byte = grind (arith, nat_tests, is) in
        let high : byte ≤ 0x7A = grind (arith, nat_tests, is) in
        printed_is (byte - 0x20) (omega (arith, low)) (omega (arith, high))
    by false is e =
        let low : 0x30 ≤ byte = grind (arith, nat_tests, e) in
        let high : byte ≤ 0x5A = grind (arith, nat_tests, e) in
        printed_is byte (omega (arith, low)) (omega (arith, high))

first_of : (a b : Bool) → (a && b) ≡ true → a ≡ true
first_of true b e = refl
first_of false b e = cc e

second_of : (a b : Bool) → (a && b) ≡ true → b ≡ true
second_of true b e = e
second_of false b e = cc e

all_upper : (name : List ℕ) → all_letters_or_digits name ≡ true → all_printed (map upper_case name) ≡ true
all_upper [] e = refl
all_upper (byte ∷ name) e =
    rw (
      letter_printed byte (first_of (is_letter_or_digit byte) (all_letters_or_digits name) e),
      all_upper name (second_of (is_letter_or_digit byte) (all_letters_or_digits name) e),
    ) refl

name_kept : (name : List ℕ) → is_name name ≡ true → is_kept_name (map upper_case name) ≡ true
name_kept name e =
    by (nat_lt 0 (length name)) (nat_le (length name) 6) (is_letter (slice_index name 0)) (all_letters_or_digits name) refl refl refl e
  where
    by : (some few letter all : Bool) → nat_lt 0 (length name) ≡ some → nat_le (length name) 6 ≡ few → all_letters_or_digits name ≡ all
        → (some && few && letter && all) ≡ true → is_kept_name (map upper_case name) ≡ true
    by true true true true a b c e = rw (length-map {B = ℕ} name upper_case, a, b, all_upper name c) refl
    by true true true false a b c e = cc e
    by true true false all a b c e = cc e
    by true false letter all a b c e = cc e
    by false few letter all a b c e = cc e

names_kept : (texts : List (List ℕ)) → all_names texts ≡ true → AreKept (upper_names texts)
names_kept [] e = tt
names_kept (text ∷ texts) e = (name_kept text (first_of (is_name text) (all_names texts) e), names_kept texts (second_of (is_name text) (all_names texts) e))

kept_by : (b : Bool) (texts : List (List ℕ)) → all_names texts ≡ b → IfOk (if b then Ok (upper_names texts) else Err Form) AreKept
kept_by true texts e = names_kept texts e
kept_by false texts e = tt

listed_kept : (texts : List (List ℕ)) → IfOk (names_in texts) AreKept
listed_kept [] = tt
listed_kept (text ∷ texts) = kept_by (all_names (text ∷ texts)) (text ∷ texts) refl

-- ---- operands

written_bytes : (text : List ℕ) → AreBytes text → IfOk (written text) AreBytes
written_bytes [] are = tt
written_bytes (byte ∷ text) are = are

one_bytes : (texts : List (List ℕ)) → AllBytes texts → IfOk (one_operand texts) AreBytes
one_bytes [] are = tt
one_bytes (text ∷ []) are = written_bytes text are.0
one_bytes (text ∷ other ∷ texts) are = tt

abbrev PerhapsBytes : Option (List ℕ) → Type 0
PerhapsBytes None = ⊤
PerhapsBytes (Some text) = AreBytes text

optional_bytes : (texts : List (List ℕ)) → AllBytes texts → IfOk (optional_operand texts) PerhapsBytes
optional_bytes [] are = tt
optional_bytes (text ∷ []) are = ok_then AreBytes PerhapsBytes (written text) _ (written_bytes text are.0) (λ text bytes. bytes)
optional_bytes (text ∷ other ∷ texts) are = tt

list_by : (b : Bool) (texts : List (List ℕ)) → AllBytes texts → IfOk (if b then Ok texts else Err Form) AllBytes
list_by true texts are = are
list_by false texts are = tt

list_bytes : (texts : List (List ℕ)) → AllBytes texts → IfOk (operand_list texts) AllBytes
list_bytes [] are = tt
list_bytes (text ∷ texts) are = list_by (none_empty (text ∷ texts)) (text ∷ texts) are

quoted_by : (b : Bool) (text : List ℕ) → AreBytes text → IfOk (if b then Ok text else Err Form) AreBytes
quoted_by true text are = are
quoted_by false text are = tt

-- ---- directives

module _ (texts : List (List ℕ)) (are : AllBytes texts) where
  of_one : (make : List ℕ → Statement) → ((text : List ℕ) → AreBytes text → IsFitStatement (make text))
      → IfOk (one_operand texts >>= λ text. Ok (make text)) IsFitStatement
  of_one make fit_statement = ok_then AreBytes IsFitStatement (one_operand texts) (λ text. Ok (make text)) (one_bytes texts are) fit_statement

  of_list : (make : List (List ℕ) → Statement) → ((texts : List (List ℕ)) → AllBytes texts → IsFitStatement (make texts))
      → IfOk (operand_list texts >>= λ texts. Ok (make texts)) IsFitStatement
  of_list make fit_statement = ok_then AllBytes IsFitStatement (operand_list texts) (λ texts. Ok (make texts)) (list_bytes texts are) fit_statement

  of_names : (make : List (List ℕ) → Statement) → ((names : List (List ℕ)) → AreKept names → IsFitStatement (make names))
      → IfOk (names_in texts >>= λ names. Ok (make names)) IsFitStatement
  of_names make fit_statement = ok_then AreKept IsFitStatement (names_in texts) (λ names. Ok (make names)) (listed_kept texts) fit_statement

  rorg_fits : (text : Option (List ℕ)) → PerhapsBytes text → IsFitStatement (Rorg text)
  rorg_fits None bytes = plain (Rorg None) tt tt tt
  rorg_fits (Some text) bytes = plain (Rorg (Some text)) bytes tt tt

  end_fits : (text : Option (List ℕ)) → PerhapsBytes text → IsFitStatement (End text)
  end_fits None bytes = plain (End None) tt tt tt
  end_fits (Some text) bytes = plain (End (Some text)) bytes tt tt

  directive_fits : (found : Directive) → IfOk (directive_statement found texts) IsFitStatement
  directive_fits named.Aorg = of_one Aorg (λ text bytes. plain (Aorg text) bytes tt tt)
  directive_fits named.Rorg = ok_then PerhapsBytes IsFitStatement (optional_operand texts) _ (optional_bytes texts are) rorg_fits
  directive_fits named.Dorg = of_one Dorg (λ text bytes. plain (Dorg text) bytes tt tt)
  directive_fits named.Bss = of_one Bss (λ text bytes. plain (Bss text) tt tt tt)
  directive_fits named.Bes = of_one Bes (λ text bytes. plain (Bes text) tt tt tt)
  directive_fits named.Even = plain Even tt tt tt
  directive_fits named.Equ = of_one Equ (λ text bytes. plain (Equ text) bytes tt tt)
  directive_fits named.Data = of_list Data (λ texts bytes. plain (Data texts) bytes tt tt)
  directive_fits named.Byte = of_list Byte (λ texts bytes. plain (Byte texts) bytes tt tt)
  directive_fits named.Text =
      ok_then AreBytes IsFitStatement (one_operand texts) _ (one_bytes texts are)
      (λ text bytes. ok_then AreBytes IsFitStatement (quoted text) _ (quoted_by (is_quoted text) text bytes) (λ text bytes. plain (Text text) bytes tt tt))
  directive_fits named.Def = of_names Def (λ names kept. plain (Def names) tt kept tt)
  directive_fits named.Ref = of_names Ref (λ names kept. plain (Ref names) tt kept tt)
  directive_fits named.Idt = of_one Idt (λ text bytes. plain (Idt text) tt tt tt)
  directive_fits named.Titl = of_one Titl (λ text bytes. plain (Titl text) tt tt tt)
  directive_fits named.Quiet = plain Nothing tt tt tt
  directive_fits named.End = ok_then PerhapsBytes IsFitStatement (optional_operand texts) _ (optional_bytes texts are) end_fits

as_operands_has : {A : Type 0} (P : A → Type 0) (answer : Result A OperandError) → IfOk answer P → IfOk (as_operands answer) P
as_operands_has P (Ok value) has = has
as_operands_has P (Err Count) has = tt
as_operands_has P (Err Form) has = tt

as_form_has : {A : Type 0} (P : A → Type 0) (answer : Result A FormError) → IfOk answer P → IfOk (as_form answer) P
as_form_has P (Ok value) has = has
as_form_has P (Err cause) has = tt

-- ---- lines

sized_by : (operation field : List ℕ) (answer : Result ℕ FormError) → line_size operation field ≡ answer → AreBytes field
    → IfOk (answer >>= λ size. Ok (Instruction size operation field)) IsFitStatement
sized_by operation field (Ok size) e are = plain (Instruction size operation field) are tt e
sized_by operation field (Err cause) e are = tt

by_directive : (found : Option Directive) (operation field : List ℕ) → AreBytes field → IfOk (statement_by found operation field) IsFitStatement
by_directive (Some found) operation field are =
    as_operands_has IsFitStatement (directive_statement found (operand_texts field)) (directive_fits (operand_texts field) (operands_bytes field are) found)
by_directive None operation field are = sized_by operation field (line_size operation field) refl are

at_operation : (line : List ℕ) (operation : Option Span) (operands : Span) → AreBytes line → IfOk (statement_at line operation operands) IsFitStatement
at_operation line None operands are = plain Nothing tt tt tt
at_operation line (Some operation) operands are =
    let field = part line operands in
    as_form_has IsFitStatement (statement_by (directive (part line operation)) (part line operation) field)
    (by_directive (directive (part line operation)) (part line operation) field (range_bytes line operands.start operands.end are))

pub line_fits : (line : List ℕ) (found : Fields) → AreBytes line → IfOk (statement_in line found) IsFitStatement
unfolding statement_in
line_fits line found are = at_operation line found.operation found.operands are
