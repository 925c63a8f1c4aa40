-- The lines that the first checks accept of a GPL source: an instruction has bytes, and a line ends in its GROM.
use Rattle.std.proofs.Common.{◌≡◌, ℕ, ◌+◌, ◌%◌, ◌/◌, ◌≤◌, Bool, true, false, ◌||◌, List, [], ◌∷◌, Some, None, Ok, Err, refl, sym, subst, arith}
use Rattle.std.specs.Prelude.{Option, Result, IfOk, IsTrue, ⊤, ◌&&◌, ◌==◌, not, nat_le, nat_lt, if◌then◌else◌}
use Rattle.std.proofs.lemmas.Bool.Decides.{nat_tests}
use Rattle.source_defs.specs.declared.text.Span.{Span}
use Rattle.source_defs.specs.Refusals.{Refusal, ◌>>=◌, at_line}
use Rattle.source_defs.specs.Lines.{part}
use Rattle.source_defs.specs.Fields.{fields}
use Rattle.source_defs.specs.Operands.{operand_texts}
use Rattle.source_defs.specs.OperandLists.{one_operand, optional_operand, operand_list}
use Rattle.source_defs.specs.QuotedTexts.{quoted}
use Rattle.source_defs.proofs.RefusalLaws.{bound}
use Rattle.expression_defs.specs.Expression.{Value}
use Rattle.expression_defs.specs.Symbols.{Names, look_up}
use Rattle.expression_defs.specs.Layout.{layout_after, set_or}
use Rattle.base_defs.specs.declared.size.TheConstants.{GROM_SIZE}
use Rattle.gpl_defs.specs.declared.instruction.GplInstr.{GplInstr}
use Rattle.gpl_defs.specs.declared.instruction.GplSource.{GplSource}
use Rattle.gpl_defs.specs.declared.instruction.MoveLength.{MoveLength}
use Rattle.gpl_defs.specs.declared.instruction.TwoName.{TwoName}
use Rattle.gpl_defs.specs.Valid.{has_immediate, is_valid, is_valid_source}
use Rattle.gpl_source_defs.specs.declared.causes.GplCause.{GplCause}
use Rattle.gpl_source_defs.specs.declared.causes.GplCause.TheVariants.{BadOperand, OtherGrom}
use Rattle.gpl_source_defs.specs.declared.directive.Directive.{Directive}
use Rattle.gpl_source_defs.specs.declared.directive.Directive.TheVariants as directives
use Rattle.gpl_source_defs.specs.declared.location.Location.{Location}
use Rattle.gpl_source_defs.specs.declared.mnemonic.Mnemonic.{Mnemonic}
use Rattle.gpl_source_defs.specs.declared.mnemonic.Mnemonic.TheVariants as named
use Rattle.gpl_source_defs.specs.Directives.{directive}
use Rattle.gpl_source_defs.specs.Mnemonics.{mnemonic}
use Rattle.gpl_source_defs.specs.Forms.{Form, InMemory, Alone, is_in_memory, takes_two, takes_move}
use Rattle.gpl_source_defs.specs.Values.{checked_byte, index_of}
use Rattle.gpl_source_defs.specs.Skeletons.{Source, At, Immediate, Route, Within, ToMemory, ToRegisters, Skeleton, Plain, Byte, Jump, Branch, One, Two, Move}
use Rattle.gpl_source_defs.specs.Skeletons.{as_operand, one_form, two_forms, move_forms, text_of_one, where_taken, operand_in, source_in, route_in}
use Rattle.gpl_source_defs.specs.Skeletons.{skeleton, source_by_zero, instr_by_zero}
use Rattle.gpl_source_defs.specs.Statements.{Statement, Instruction, Nothing, Grom, Aorg, Equ, Bss, End, number_of_one, directive_statement}
use Rattle.gpl_source_defs.specs.Statements.{instruction_statement}
use Rattle.gpl_source_defs.specs.Statements.{statement_by, statement_at, declared_size}
use Rattle.gpl_source_defs.specs.Locations.{Line, location, after, address_of, origin_of, passes, branch_offset}
use Rattle.gpl_source_defs.specs.FirstChecks.{as_text, parsed, checked, check, line_of, names, is_full, is_bad}
use Rattle.gpl_source_defs.specs.SecondChecks.{immediate_of, register_of, value, source_value, length_value, moved, instruction}
use Rattle.gpl_source_defs.proofs.CheckLaws.{is_accepted}
use Rattle.gpl_lines.specs.Validity.{HasForm}
use Rattle.gpl_lines.proofs.FormLaws.{named_has_form}
use Rattle.gpl_asm.proofs.LineLaws.{location_more}
use Rattle.source_modules.proofs.Answers.{ok_then, ok_has}

-- what is made of an answer has a property if it has for each value
any_then : {A B : Type 0} (P : B → Type 0) (answer : Result A GplCause) (make : A → Result B GplCause) → ((value : A) → IfOk (make value) P)
    → IfOk (answer >>= make) P
any_then P (Ok value) make each = each value
any_then P (Err cause) make each = tt

abbrev HasBytes : GplInstr → Type 0
HasBytes instr = IsTrue (is_valid instr)

abbrev FitsSkeleton : Skeleton → Type 0
FitsSkeleton found = HasBytes (instr_by_zero found)

abbrev pub FitsStatement : Statement → Type 0
FitsStatement (Instruction found) = FitsSkeleton found
FitsStatement _ = ⊤

-- ---- what the first checks leave of an instruction

abbrev FitsSource : TwoName → Bool → GplSource → Type 0
FitsSource op word source = IsTrue (is_valid_source op word source)

right_of : (a b : Bool) → (a && b) ≡ true → b ≡ true
right_of true b e = e
right_of false b e = cc e

immediate_fits : (op : TwoName) (word : Bool) (text : List ℕ) → has_immediate op ≡ true → FitsSource op word (source_by_zero (Immediate text))
immediate_fits op true text e = rw e refl
immediate_fits op false text e = rw e refl

route_fits : (length : Source) (route : Route) → FitsSkeleton (Move length route)
route_fits length (Within to place) = refl
route_fits length (ToMemory to address None) = refl
route_fits length (ToMemory to address (Some index)) = refl
route_fits length (ToRegisters number address) = refl

module _ (look : List ℕ → Option Value) (here : ℕ) where
  source_fits : (op : TwoName) (word : Bool) (to from : Form) → takes_two op to from ≡ true
      → IfOk (source_in look here from) (λ source. FitsSource op word (source_by_zero source))
  source_fits op word to (Alone text) takes = immediate_fits op word text (right_of (is_in_memory to) (has_immediate op) takes)
  source_fits op word to (InMemory memory) takes =
      any_then (λ source. FitsSource op word (source_by_zero source)) (operand_in look here (InMemory memory)) (λ operand. Ok (At operand)) (λ operand. refl)
  source_fits op word to _ takes = tt

  two_fit : (op : TwoName) (word : Bool) (forms : Form × Form) (takes : Bool) → takes_two op forms.0 forms.1 ≡ takes
      → IfOk (where_taken takes
      (operand_in look here forms.0 >>= λ destination. source_in look here forms.1 >>= λ source. Ok (Two op word destination source))) FitsSkeleton
  two_fit op word forms false takes = tt
  two_fit op word forms true takes =
      any_then FitsSkeleton (operand_in look here forms.0) _
      (λ destination. ok_then (λ source. FitsSource op word (source_by_zero source)) FitsSkeleton (source_in look here forms.1) _
      (source_fits op word forms.0 forms.1 takes) (λ source fits. fits))

  skeleton_fits : (found : Mnemonic) (field : List ℕ) → HasForm found → IfOk (skeleton look here found field) FitsSkeleton
  skeleton_fits (named.Plain op) field has = refl
  skeleton_fits (named.Byte op) field has = any_then FitsSkeleton (text_of_one (operand_texts field)) _ (λ text. refl)
  skeleton_fits (named.Jump op) field has = any_then FitsSkeleton (text_of_one (operand_texts field)) _ (λ text. refl)
  skeleton_fits (named.Branch on) field has = any_then FitsSkeleton (text_of_one (operand_texts field)) _ (λ text. refl)
  skeleton_fits (named.One op word) field has =
      any_then FitsSkeleton (one_form (operand_texts field)) _ (λ form. any_then FitsSkeleton (operand_in look here form) _ (λ operand. has))
  skeleton_fits (named.Two op word) field has =
      any_then FitsSkeleton (two_forms (operand_texts field)) _ (λ forms. two_fit op word forms (takes_two op forms.0 forms.1) refl)
  skeleton_fits named.Move field has =
      any_then FitsSkeleton (move_forms (operand_texts field)) _
      (λ forms. move_fits (takes_move forms.length forms.to forms.from) forms.length forms.to forms.from)
    where
      move_fits : (takes : Bool) (length to from : Form)
          → IfOk (where_taken takes (source_in look here length >>= λ length. route_in look here to from >>= λ route. Ok (Move length route))) FitsSkeleton
      move_fits false length to from = tt
      move_fits true length to from =
          any_then FitsSkeleton (source_in look here length) _ (λ count. any_then FitsSkeleton (route_in look here to from) _ (λ route. route_fits count route))

  -- ---- and of a line

  of_number : (make : ℕ → Statement) (texts : List (List ℕ)) → ((number : ℕ) → FitsStatement (make number))
      → IfOk (number_of_one look here texts >>= λ number. Ok (make number)) FitsStatement
  of_number make texts fits = any_then FitsStatement (number_of_one look here texts) _ (λ number. fits number)

  directive_fits : (found : Directive) (texts : List (List ℕ)) → IfOk (directive_statement look here found texts) FitsStatement
  directive_fits directives.Grom texts = of_number Grom texts (λ number. tt)
  directive_fits directives.Aorg texts = of_number Aorg texts (λ number. tt)
  directive_fits directives.Equ texts = of_number Equ texts (λ number. tt)
  directive_fits directives.Bss texts = of_number Bss texts (λ number. tt)
  directive_fits directives.Data texts = any_then FitsStatement (as_operand (operand_list texts)) _ (λ found. tt)
  directive_fits directives.Byte texts = any_then FitsStatement (as_operand (operand_list texts)) _ (λ found. tt)
  directive_fits directives.Text texts =
      any_then FitsStatement (as_operand (one_operand texts >>= quoted)) _ (λ found. tt)
  directive_fits directives.End texts = any_then FitsStatement (as_operand (optional_operand texts)) _ (λ found. tt)

  instruction_fits : (operation field : List ℕ) (found : Option Mnemonic) → mnemonic operation ≡ found
      → IfOk (instruction_statement look here found field) FitsStatement
  instruction_fits operation field (Some found) e =
      ok_then FitsSkeleton FitsStatement (skeleton look here found field) _ (skeleton_fits found field (named_has_form operation found e)) (λ found fits. fits)
  instruction_fits operation field None e = tt

  by_directive : (operation field : List ℕ) (found : Option Directive) → IfOk (statement_by look here found operation field) FitsStatement
  by_directive operation field (Some found) = directive_fits found (operand_texts field)
  by_directive operation field None = instruction_fits operation field (mnemonic operation) refl

  statement_fits : (line : List ℕ) (operation : Option Span) (operands : Span) → IfOk (statement_at look here line operation operands) FitsStatement
  statement_fits line None operands = tt
  statement_fits line (Some operation) operands = by_directive (part line operation) (part line operands) (directive (part line operation))

parsed_fits : (known : Names) (here : Location) (text : List ℕ) → IfOk (parsed known here text) FitsStatement
parsed_fits known here text =
    any_then FitsStatement (as_text (fields text)) _ (λ found. statement_fits (look_up known) (address_of here) text found.operation found.operands)

-- ---- an instruction with its values

byte_by : (small negative : Bool) (number : ℕ) → nat_le number 0xFF ≡ small
    → IfOk (if small then Ok number else if negative then Ok (number % 256) else Err BadOperand) (λ byte. nat_lt byte 256 ≡ true)
byte_by true negative number e = grind (arith, nat_tests, e)
byte_by false true number e = let small : number % 256 + 1 ≤ 256 = omega arith in grind (arith, nat_tests, small)
byte_by false false number e = tt

byte_fits : (number : ℕ) → IfOk (checked_byte number) (λ byte. nat_lt byte 256 ≡ true)
byte_fits number = byte_by (nat_le number 0xFF) (nat_le 0xFF80 number) number refl

word_immediate : (has : Bool) (value : ℕ) → (has && (true || nat_lt 0 256)) ≡ true → (has && (true || nat_lt value 256)) ≡ true
word_immediate has value fits = fits

byte_immediate : (has : Bool) (value : ℕ) → nat_lt value 256 ≡ true → (has && (false || nat_lt 0 256)) ≡ true → (has && (false || nat_lt value 256)) ≡ true
byte_immediate true value small fits = small
byte_immediate false value small fits = cc fits

value_fits : (op : TwoName) (word : Bool) (number : ℕ) → IsTrue (has_immediate op && (word || nat_lt 0 256))
    → IfOk (immediate_of word number) (λ value. IsTrue (has_immediate op && (word || nat_lt value 256)))
value_fits op true number fits = word_immediate (has_immediate op) number fits
value_fits op false number fits = go (checked_byte number) (byte_fits number)
  where
    go : (answer : Result ℕ GplCause) → IfOk answer (λ byte. nat_lt byte 256 ≡ true) → IfOk answer
        (λ value. IsTrue (has_immediate op && (false || nat_lt value 256)))
    go (Ok byte) small = byte_immediate (has_immediate op) byte small fits
    go (Err cause) small = tt

offset_by : (same : Bool) (target : ℕ) → IfOk (if same then Ok (target % GROM_SIZE) else Err OtherGrom) (λ offset. nat_lt offset GROM_SIZE ≡ true)
offset_by true target = let small : target % 8192 + 1 ≤ 8192 = omega arith in grind (arith, nat_tests, small)
offset_by false target = tt

module _ (look : List ℕ → Option Value) (at : Location) where
  source_valid : (op : TwoName) (word : Bool) (source : Source) → FitsSource op word (source_by_zero source)
      → IfOk (source_value look at word source) (FitsSource op word)
  source_valid op word (At operand) fits = refl
  source_valid op word (Immediate text) fits =
      any_then (FitsSource op word) (value look at text) _
      (λ number. ok_then (λ value. IsTrue (has_immediate op && (word || nat_lt value 256))) (FitsSource op word) (immediate_of word number) _
      (value_fits op word number fits) (λ value has. has))

  moved_valid : (count : MoveLength) (route : Route) → IfOk (moved look at count route) HasBytes
  moved_valid count (Within to place) = refl
  moved_valid count (ToMemory to address None) = any_then HasBytes (value look at address) _ (λ start. refl)
  moved_valid count (ToMemory to address (Some index)) =
      any_then HasBytes (value look at address) _
      (λ start. any_then HasBytes (value look at index) _ (λ number. any_then HasBytes (index_of number) _ (λ index. refl)))
  moved_valid count (ToRegisters first address) =
      any_then HasBytes (value look at first) _
      (λ number. any_then HasBytes (value look at address) _ (λ start. any_then HasBytes (register_of number) _ (λ register. refl)))

  -- an instruction that is the outcome of a line has bytes
  pub instruction_valid : (found : Skeleton) → FitsSkeleton found → IfOk (instruction look at found) HasBytes
  instruction_valid (Plain op) fits = refl
  instruction_valid (Byte op text) fits =
      any_then HasBytes (value look at text) _ (λ number. any_then HasBytes (checked_byte number) _ (λ byte. refl))
  instruction_valid (Jump op text) fits = any_then HasBytes (value look at text) _ (λ address. refl)
  instruction_valid (Branch on text) fits =
      any_then HasBytes (value look at text) _ (λ address. ok_then (λ offset. nat_lt offset GROM_SIZE ≡ true) HasBytes (branch_offset at address) _
      (offset_by (address / GROM_SIZE == at.grom / GROM_SIZE) address) (λ offset small. small))
  instruction_valid (One op word operand) fits = fits
  instruction_valid (Two op word destination source) fits =
      ok_then (FitsSource op word) HasBytes (source_value look at word source) _ (source_valid op word source fits) (λ source valid. valid)
  instruction_valid (Move length route) fits =
      any_then HasBytes (length_value look at length) _ (λ count. moved_valid count route)

-- ---- lines end in their GROM

-- a location of a GROM, or the one after its last
record LiesInItsGrom (here : Location) : Type 0 where
  aligned : here.grom % GROM_SIZE ≡ 0
  from : here.grom ≤ here.number
  within : here.number ≤ here.grom + GROM_SIZE

fitting : (here : Location) (bytes : ℕ) → LiesInItsGrom here → passes here bytes ≡ false → LiesInItsGrom (after here bytes)
fitting here bytes is fits = record {
  aligned = is.aligned;
  from = omega (arith, is.from);
  within = grind (arith, nat_tests, fits);
}

at_start : (address : ℕ) → not (address % GROM_SIZE == 0) ≡ false → LiesInItsGrom (after (record { grom = address; number = address }) 0)
at_start address fine = record {
  aligned = grind (arith, nat_tests, fine);
  from = omega arith;
  within = omega arith;
}

at_offset : (here : Location) (offset : ℕ) → LiesInItsGrom here → not (nat_lt offset GROM_SIZE) ≡ false
    → LiesInItsGrom (after (record { grom = here.grom; number = here.grom + offset }) 0)
at_offset here offset is fine = record {
  aligned = is.aligned;
  from = omega arith;
  within = grind (arith, nat_tests, fine);
}

leads : (here : Location) (label : Option (List ℕ)) (statement : Statement) → LiesInItsGrom here → is_full here statement ≡ false
    → is_bad label statement ≡ false → LiesInItsGrom (after (set_or (origin_of here statement) here) (declared_size statement))
leads here None (Grom address) is fits fine = at_start address fine
leads here (Some name) (Grom address) is fits fine = at_start address fine
leads here None (Aorg offset) is fits fine = at_offset here offset is fine
leads here (Some name) (Aorg offset) is fits fine = at_offset here offset is fine
leads here label Nothing is fits fine = fitting here 0 is fits
leads here label (Equ number) is fits fine = fitting here 0 is fits
leads here label (Bss number) is fits fine = fitting here number is fits
leads here label (End text) is fits fine = fitting here 0 is fits
leads here label _ is fits fine = fitting here _ is fits

-- ---- the lines of a source

-- what is known of a line that the first checks accept after others
pub record IsLaid (before : List Line) (line : Line) : Type 0 where
  pub fits : FitsStatement line.statement
  pub none : line.gap ≡ 0
  pub aligned : (location before).grom % GROM_SIZE ≡ 0
  pub from : (location before).grom ≤ (location before).number
  pub ends : (location before).number + declared_size line.statement ≤ (location before).grom + GROM_SIZE

abbrev pub AreLaidOut : List Line → Type 0
AreLaidOut [] = ⊤
AreLaidOut (line ∷ before) = IsLaid before line × AreLaidOut before

record AreFound (lines : List Line) : Type 0 where
  line_layout : AreLaidOut lines
  leads : LiesInItsGrom (location lines)

first_location : LiesInItsGrom (location [])
first_location = record { aligned = refl; from = omega arith; within = omega arith }

one_found : (before : List Line) (number : ℕ) (text : List ℕ) (line : Line) → AreFound before → check before number text ≡ Ok line → AreFound (line ∷ before)
one_found before number text line are e =
    let here = location before in
    let a = bound (checked (names before) here text) _ line e in
    let made : line_of here number a.0 ≡ line = cc a.2 in
    let through = is_accepted (names before) here text a.0 a.1 in
    let fits = ok_has FitsStatement (parsed (names before) here text) a.0.statement through.parsed (parsed_fits (names before) here text) in
    let there = leads here a.0.label a.0.statement are.leads through.fits through.fine in
    subst (λ (line : Line). AreFound (line ∷ before)) made (record {
      line_layout = (
        record {
          fits = fits;
          none = refl;
          aligned = are.leads.aligned;
          from = are.leads.from;
          ends = let full = through.fits in grind (arith, nat_tests, full);
        },
        are.line_layout,
      );
      leads = subst LiesInItsGrom (sym (location_more number a.0 before)) there;
    })

pub line_found : {A : Type 0} (number : ℕ) (answer : Result A GplCause) (found : A) → at_line number answer ≡ Ok found → answer ≡ Ok found
line_found number (Ok value) found e = cc e
line_found number (Err cause) found e = cc e

abbrev Lines : Type 0
Lines = Result (List Line) (Refusal GplCause)

last_or : (last : Bool) (texts : List (ℕ × List ℕ)) (found lines : List Line) → AreFound found → (layout_after check found texts ≡ Ok lines → AreFound lines)
    → ◌≡◌ {A = Lines} (if last then Ok found else layout_after check found texts) (Ok lines) → AreFound lines
last_or true texts found lines are next e = let same : found ≡ lines = cc e in subst AreFound same are
last_or false texts found lines are next e = next e

all_found : (texts : List (ℕ × List ℕ)) (before lines : List Line) → AreFound before → layout_after check before texts ≡ Ok lines → AreFound lines
all_found [] before lines are e = let same : before ≡ lines = cc e in subst AreFound same are
all_found (text ∷ texts) before lines are e =
    let a = bound (at_line text.0 (check before text.0 text.1)) _ lines e in
    let one = one_found before text.0 text.1 a.0 are (line_found text.0 (check before text.0 text.1) a.0 a.1) in
    last_or a.0.last texts (a.0 ∷ before) lines one (λ e. all_found texts (a.0 ∷ before) lines one e) a.2

pub lines_laid : (texts : List (ℕ × List ℕ)) (lines : List Line) → layout_after check [] texts ≡ Ok lines → AreLaidOut lines
lines_laid texts lines e = (all_found texts [] lines (record { line_layout = tt; leads = first_location }) e).line_layout
