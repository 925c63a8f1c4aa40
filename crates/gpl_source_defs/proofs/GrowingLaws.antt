-- A line whose values are known says the same, and has the same outcome, when more names are known.
use Rattle.std.proofs.Common.{◌≡◌, ℕ, Bool, true, false, List, [], ◌∷◌, Some, None, Ok, Err, refl, ap}
use Rattle.std.specs.Prelude.{Option, Result}
use Rattle.expression_defs.specs.declared.causes.ExprError.{ExprError}
use Rattle.source_defs.specs.declared.text.Span.{Span}
use Rattle.source_defs.specs.Refusals.{◌>>=◌}
use Rattle.source_defs.specs.Lines.{part}
use Rattle.source_defs.specs.Fields.{fields}
use Rattle.source_defs.specs.Operands.{operand_texts}
use Rattle.source_defs.specs.OperandLists.{one_operand}
use Rattle.expression_defs.specs.Expression.{Value, Absolute, absolute, expression}
use Rattle.expression_defs.specs.Symbols.{Names, look_up}
use Rattle.expression_defs.specs.Growing as expressions
use Rattle.expression_defs.specs.Growing.{Grows}
use Rattle.expression_defs.proofs.GrowingLaws.{Stays, stays_same, stays_then, expression_stays}
use Rattle.gpl_defs.specs.declared.instruction.TwoName.{TwoName}
use Rattle.gpl_defs.specs.declared.instruction.MoveLength.{MoveLength}
use Rattle.gpl_source_defs.specs.declared.causes.GplCause.{GplCause}
use Rattle.gpl_source_defs.specs.declared.directive.Directive.{Directive}
use Rattle.gpl_source_defs.specs.declared.directive.Directive.TheVariants as named
use Rattle.gpl_source_defs.specs.declared.location.Location.{Location}
use Rattle.gpl_source_defs.specs.declared.mnemonic.Mnemonic.{Mnemonic}
use Rattle.gpl_source_defs.specs.declared.mnemonic.Mnemonic.TheVariants as instr
use Rattle.gpl_source_defs.specs.Directives.{directive}
use Rattle.gpl_source_defs.specs.Mnemonics.{mnemonic}
use Rattle.gpl_source_defs.specs.Forms.{Memory, Form, InMemory, InGrom, Register, takes_two, takes_move}
use Rattle.gpl_source_defs.specs.Values.{as_expr, number, numbers, index_value, operand}
use Rattle.gpl_source_defs.specs.Skeletons.{Source, At, Immediate, Route, Within, ToMemory, ToRegisters, Skeleton, Plain, Jump, Branch, One, Two, Move, as_operand}
use Rattle.gpl_source_defs.specs.Skeletons.{one_form, two_forms, move_forms, where_taken, operand_in, source_in, route_in, two_skeleton}
use Rattle.gpl_source_defs.specs.Skeletons.{move_skeleton, skeleton}
use Rattle.gpl_source_defs.specs.Skeletons as skeletons
use Rattle.gpl_source_defs.specs.Statements.{Statement, Instruction, Data, Text, End, number_of_one}
use Rattle.gpl_source_defs.specs.Statements.{directive_statement}
use Rattle.gpl_source_defs.specs.Statements.{instruction_statement, statement_by, statement_at}
use Rattle.gpl_source_defs.specs.Statements as statements
use Rattle.gpl_source_defs.specs.Locations.{address_of}
use Rattle.gpl_source_defs.specs.FirstChecks.{as_text, parsed}
use Rattle.gpl_source_defs.specs.SecondChecks.{value, source_value, length_value, moved, instruction, outcome}
use Rattle.gpl_source_defs.specs.Growing.{is_unresolved}

expr_stays : {A : Type 0} (first second : Result A ExprError) → Stays expressions.is_unresolved first second → Stays is_unresolved (as_expr first) (as_expr second)
expr_stays (Ok value) second same closed = ap as_expr (same refl)
expr_stays (Err error) second same closed = ap as_expr (same closed)

-- an answer that goes on from one that stays
on : {A B : Type 0} (first second : Result A GplCause) (make : A → Result B GplCause) → Stays is_unresolved first second → Stays is_unresolved (first >>= make) (second >>= make)
on first second make same = stays_then is_unresolved first second make make same (λ value. stays_same is_unresolved (make value))

-- an answer that asks for no name, and one that does after it
after : {A B : Type 0} (first : Result A GplCause) (make other : A → Result B GplCause) → ((value : A) → Stays is_unresolved (make value) (other value))
    → Stays is_unresolved (first >>= make) (first >>= other)
after first make other next = stays_then is_unresolved first first make other (stays_same is_unresolved first) next

taken_stays : {A : Type 0} (taken : Bool) (first second : Result A GplCause) → Stays is_unresolved first second → Stays is_unresolved (where_taken taken first) (where_taken taken second)
taken_stays true first second same = same
taken_stays false first second same = λ closed. refl

module _ (look more : List ℕ → Option Value) (grows : (name : List ℕ) (value : Value) → look name ≡ Some value → more name ≡ Some value) where
  module _ (here : ℕ) where
    number_stays : (text : List ℕ) → Stays is_unresolved (number look here text) (number more here text)
    number_stays text =
        expr_stays (expression look (Absolute here) text >>= absolute) (expression more (Absolute here) text >>= absolute)
        (stays_then expressions.is_unresolved (expression look (Absolute here) text) (expression more (Absolute here) text) absolute absolute
        (expression_stays look more grows (Absolute here) text) (λ value. stays_same expressions.is_unresolved (absolute value)))

    numbers_stays : (texts : List (List ℕ)) → Stays is_unresolved (numbers look here texts) (numbers more here texts)
    numbers_stays [] = stays_same is_unresolved _
    numbers_stays (text ∷ texts) =
        stays_then is_unresolved (number look here text) (number more here text) _ _ (number_stays text)
        (λ first. on (numbers look here texts) (numbers more here texts) _ (numbers_stays texts))

    index_stays : (text : Option (List ℕ)) → Stays is_unresolved (index_value look here text) (index_value more here text)
    index_stays None = stays_same is_unresolved _
    index_stays (Some text) = on (number look here text) (number more here text) _ (number_stays text)

    operand_stays : (memory : Memory) → Stays is_unresolved (operand look here memory) (operand more here memory)
    operand_stays memory =
        stays_then is_unresolved (number look here memory.address) (number more here memory.address) _ _ (number_stays memory.address)
        (λ number. on (index_value look here memory.index) (index_value more here memory.index) _ (index_stays memory.index))

    operand_in_stays : (form : Form) → Stays is_unresolved (operand_in look here form) (operand_in more here form)
    operand_in_stays (InMemory memory) = operand_stays memory
    operand_in_stays _ = stays_same is_unresolved _

    source_in_stays : (form : Form) → Stays is_unresolved (source_in look here form) (source_in more here form)
    source_in_stays (InMemory memory) = on (operand look here memory) (operand more here memory) _ (operand_stays memory)
    source_in_stays _ = stays_same is_unresolved _

    route_stays : (to from : Form) → Stays is_unresolved (route_in look here to from) (route_in more here to from)
    route_stays (InMemory to) (InMemory from) =
        stays_then is_unresolved (operand look here to) (operand more here to) _ _ (operand_stays to)
        (λ target. on (operand look here from) (operand more here from) _ (operand_stays from))
    route_stays (InMemory to) (InGrom address index) = on (operand look here to) (operand more here to) _ (operand_stays to)
    route_stays (Register number) (InGrom address None) = stays_same is_unresolved _
    route_stays _ _ = stays_same is_unresolved _

    two_stays : (op : TwoName) (word : Bool) (field : List ℕ) → Stays is_unresolved (two_skeleton look here op word field) (two_skeleton more here op word field)
    two_stays op word field =
        after (two_forms (operand_texts field)) _ _
        (λ forms.
        taken_stays (takes_two op forms.0 forms.1) _ _
        (stays_then is_unresolved (operand_in look here forms.0) (operand_in more here forms.0) _ _ (operand_in_stays forms.0)
        (λ destination. on (source_in look here forms.1) (source_in more here forms.1) _ (source_in_stays forms.1))))

    move_stays : (field : List ℕ) → Stays is_unresolved (move_skeleton look here field) (move_skeleton more here field)
    move_stays field =
        after (move_forms (operand_texts field)) _ _
        (λ forms.
        taken_stays (takes_move forms.length forms.to forms.from) _ _
        (stays_then is_unresolved (source_in look here forms.length) (source_in more here forms.length) _ _ (source_in_stays forms.length)
        (λ length. on (route_in look here forms.to forms.from) (route_in more here forms.to forms.from) _ (route_stays forms.to forms.from))))

    skeleton_stays : (found : Mnemonic) (field : List ℕ) → Stays is_unresolved (skeleton look here found field) (skeleton more here found field)
    skeleton_stays (instr.One op word) field =
        after (one_form (operand_texts field)) _ _ (λ form. on (operand_in look here form) (operand_in more here form) _ (operand_in_stays form))
    skeleton_stays (instr.Two op word) field = two_stays op word field
    skeleton_stays instr.Move field = move_stays field
    skeleton_stays _ field = stays_same is_unresolved _

    one_stays : (texts : List (List ℕ)) → Stays is_unresolved (number_of_one look here texts) (number_of_one more here texts)
    one_stays texts = after (as_operand (one_operand texts)) _ _ number_stays

    directive_stays : (found : Directive) (texts : List (List ℕ)) → Stays is_unresolved (directive_statement look here found texts) (directive_statement more here found texts)
    directive_stays named.Data texts = stays_same is_unresolved _
    directive_stays named.Byte texts = stays_same is_unresolved _
    directive_stays named.Text texts = stays_same is_unresolved _
    directive_stays named.End texts = stays_same is_unresolved _
    directive_stays _ texts = on (number_of_one look here texts) (number_of_one more here texts) _ (one_stays texts)

    instruction_stays : (found : Option Mnemonic) (field : List ℕ) → Stays is_unresolved (instruction_statement look here found field) (instruction_statement more here found field)
    instruction_stays (Some found) field = on (skeleton look here found field) (skeleton more here found field) _ (skeleton_stays found field)
    instruction_stays None field = stays_same is_unresolved _

    by_stays : (found : Option Directive) (operation field : List ℕ) → Stays is_unresolved (statement_by look here found operation field) (statement_by more here found operation field)
    by_stays (Some found) operation field = directive_stays found (operand_texts field)
    by_stays None operation field = instruction_stays (mnemonic operation) field

    statement_stays : (line : List ℕ) (operation : Option Span) (operands : Span)
        → Stays is_unresolved (statement_at look here line operation operands) (statement_at more here line operation operands)
    statement_stays line None operands = stays_same is_unresolved _
    statement_stays line (Some operation) operands = by_stays (directive (part line operation)) (part line operation) (part line operands)

  module _ (at : Location) where
    value_stays : (text : List ℕ) → Stays is_unresolved (value look at text) (value more at text)
    value_stays text = number_stays (address_of at) text

    source_stays : (word : Bool) (source : Source) → Stays is_unresolved (source_value look at word source) (source_value more at word source)
    source_stays word (At operand) = stays_same is_unresolved _
    source_stays word (Immediate text) = on (value look at text) (value more at text) _ (value_stays text)

    length_stays : (source : Source) → Stays is_unresolved (length_value look at source) (length_value more at source)
    length_stays (At operand) = stays_same is_unresolved _
    length_stays (Immediate text) = on (value look at text) (value more at text) _ (value_stays text)

    moved_stays : (count : MoveLength) (route : Route) → Stays is_unresolved (moved look at count route) (moved more at count route)
    moved_stays count (Within to place) = stays_same is_unresolved _
    moved_stays count (ToMemory to address None) = on (value look at address) (value more at address) _ (value_stays address)
    moved_stays count (ToMemory to address (Some index)) =
        stays_then is_unresolved (value look at address) (value more at address) _ _ (value_stays address)
        (λ start. on (value look at index) (value more at index) _ (value_stays index))
    moved_stays count (ToRegisters first address) =
        stays_then is_unresolved (value look at first) (value more at first) _ _ (value_stays first)
        (λ number. on (value look at address) (value more at address) _ (value_stays address))

    instr_stays : (found : Skeleton) → Stays is_unresolved (instruction look at found) (instruction more at found)
    instr_stays (Plain op) = stays_same is_unresolved _
    instr_stays (skeletons.Byte op text) = on (value look at text) (value more at text) _ (value_stays text)
    instr_stays (Jump op text) = on (value look at text) (value more at text) _ (value_stays text)
    instr_stays (Branch on_set text) = on (value look at text) (value more at text) _ (value_stays text)
    instr_stays (One op word operand) = stays_same is_unresolved _
    instr_stays (Two op word destination source) = on (source_value look at word source) (source_value more at word source) _ (source_stays word source)
    instr_stays (Move length route) =
        stays_then is_unresolved (length_value look at length) (length_value more at length) _ _ (length_stays length) (λ count. moved_stays count route)

    pub outcome_stays : (statement : Statement) → Stays is_unresolved (outcome look at statement) (outcome more at statement)
    unfolding outcome
    outcome_stays (Instruction found) = on (instruction look at found) (instruction more at found) _ (instr_stays found)
    outcome_stays (Data texts) = on (numbers look (address_of at) texts) (numbers more (address_of at) texts) _ (numbers_stays (address_of at) texts)
    outcome_stays (statements.Byte texts) = on (numbers look (address_of at) texts) (numbers more (address_of at) texts) _ (numbers_stays (address_of at) texts)
    outcome_stays (End (Some text)) = on (value look at text) (value more at text) _ (value_stays text)
    outcome_stays _ = stays_same is_unresolved _

pub parse_stays : (known more : Names) → Grows known more → (here : Location) (text : List ℕ) → Stays is_unresolved (parsed known here text) (parsed more here text)
parse_stays known more grows here text =
    after (as_text (fields text)) _ _
    (λ found. statement_stays (look_up known) (look_up more) grows (address_of here) text found.operation found.operands)
