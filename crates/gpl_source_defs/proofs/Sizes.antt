-- The outcome of a line fills the size that the line says.
use Rattle.std.proofs.Common.{◌≡◌, ℕ, suc, ◌*◌, ◌≤◌, Bool, true, false, List, [], ◌∷◌, ◌++◌, Some, None, Ok, length, refl, sym, ap, ◌∙◌, arith}
use Rattle.std.proofs.Common.{length-append}
use Rattle.std.specs.Prelude.{Option, Result}
use Rattle.std.specs.List.{flat_map}
use Rattle.expression_defs.specs.Expression.{Value, characters}
use Rattle.source_defs.proofs.RefusalLaws.{bound}
use Rattle.gpl_defs.specs.declared.instruction.GplInstr.{GplInstr}
use Rattle.gpl_defs.specs.declared.instruction.GplSource.{GplSource}
use Rattle.gpl_defs.specs.declared.instruction.GplSource.TheVariants as immediate
use Rattle.gpl_defs.specs.declared.instruction.MoveLength.{MoveLength}
use Rattle.gpl_defs.specs.declared.instruction.MoveLength.TheVariants as counted
use Rattle.gpl_defs.specs.Bytes as gpl
use Rattle.gpl_source_defs.specs.declared.causes.GplCause.{GplCause}
use Rattle.gpl_source_defs.specs.declared.location.Location.{Location}
use Rattle.gpl_source_defs.specs.Values.{number, numbers, checked_byte, checked_bytes, index_of}
use Rattle.gpl_source_defs.specs.Skeletons.{Source, At, Immediate, Route, Within, ToMemory, ToRegisters, Skeleton, Plain, Jump, Branch, One, Two, Move}
use Rattle.gpl_source_defs.specs.Skeletons.{source_by_zero, length_by_zero, move_by_zero, instr_by_zero, size_of}
use Rattle.gpl_source_defs.specs.Skeletons as skeletons
use Rattle.gpl_source_defs.specs.Statements.{Statement, Instruction, Data, Text, End, declared_size}
use Rattle.gpl_source_defs.specs.Statements as statements
use Rattle.gpl_source_defs.specs.Locations.{address_of, branch_offset}
use Rattle.gpl_source_defs.specs.SecondChecks.{Outcome, Bytes, Entry, immediate_of, register_of, value, source_value, length_value, moved, instruction, outcome}
use Rattle.gpl_source_defs.specs.Programs.{bytes_in}

numbers_length : (look : List ℕ → Option Value) (here : ℕ) (texts : List (List ℕ)) (found : List ℕ) → numbers look here texts ≡ Ok found → length found ≡ length texts
numbers_length look here [] found e =
    let same : [] ≡ found = cc e in
    sym (ap length same)
numbers_length look here (text ∷ texts) found e =
    let a = bound (number look here text) _ found e in
    let b = bound (numbers look here texts) _ found a.2 in
    let same : a.0 ∷ b.0 ≡ found = cc b.2 in
    omega (arith, ap length same, numbers_length look here texts b.0 b.1)

bytes_length : (numbers found : List ℕ) → checked_bytes numbers ≡ Ok found → length found ≡ length numbers
bytes_length [] found e =
    let same : [] ≡ found = cc e in
    sym (ap length same)
bytes_length (number ∷ numbers) found e =
    let a = bound (checked_byte number) _ found e in
    let b = bound (checked_bytes numbers) _ found a.2 in
    let same : a.0 ∷ b.0 ≡ found = cc b.2 in
    omega (arith, ap length same, bytes_length numbers b.0 b.1)

words_length : (words : List ℕ) → length (flat_map gpl.word_bytes words) ≡ 2 * length words
words_length [] = refl
words_length (word ∷ words) = omega (arith, words_length words)

-- bytes of two parts
two_parts : (a b c d : List ℕ) → length a ≡ length b → length c ≡ length d → length (a ++ c) ≡ length (b ++ d)
two_parts a b c d e f = omega (arith, length-append a c, length-append b d, e, f)

abbrev answers : {A : Type 0} → Result A GplCause → Result A GplCause → Type 0
answers a b = a ≡ b

-- the bytes of an instruction that was made, by one that is as long
made_length : (made found zero : GplInstr) → answers (Ok made) (Ok found) → length (gpl.bytes_of made) ≡ length (gpl.bytes_of zero)
    → length (gpl.bytes_of found) ≡ length (gpl.bytes_of zero)
made_length made found zero e f =
    let same : made ≡ found = cc e in
    sym (ap (λ instr. length (gpl.bytes_of instr)) same) ∙ f

immediate_length : (word : Bool) (first second : ℕ) → length (gpl.value_bytes word first) ≡ length (gpl.value_bytes word second)
immediate_length true first second = refl
immediate_length false first second = refl

-- an instruction with its values is as long as with 0 for each
module _ (look : List ℕ → Option Value) (at : Location) where
  source_length : (word : Bool) (source : Source) (found : GplSource) → source_value look at word source ≡ Ok found
      → length (gpl.source_bytes word found) ≡ length (gpl.source_bytes word (source_by_zero source))
  source_length word (At operand) found e =
      let same : immediate.At operand ≡ found = cc e in
      sym (ap (λ source. length (gpl.source_bytes word source)) same)
  source_length word (Immediate text) found e =
      let a = bound (value look at text) _ found e in
      let b = bound (immediate_of word a.0) _ found a.2 in
      let same : immediate.Immediate b.0 ≡ found = cc b.2 in
      sym (ap (λ source. length (gpl.source_bytes word source)) same) ∙ immediate_length word b.0 0

  count_length : (source : Source) (found : MoveLength) → length_value look at source ≡ Ok found
      → length (gpl.length_bytes found) ≡ length (gpl.length_bytes (length_by_zero source))
  count_length (At operand) found e =
      let same : counted.At operand ≡ found = cc e in
      sym (ap (λ count. length (gpl.length_bytes count)) same)
  count_length (Immediate text) found e =
      let a = bound (value look at text) _ found e in
      let same : counted.Immediate a.0 ≡ found = cc a.2 in
      sym (ap (λ count. length (gpl.length_bytes count)) same)

  suc_same : (n m : ℕ) → n ≡ m → suc n ≡ suc m
  suc_same n m e = ap suc e

  moved_length : (count zero : MoveLength) (route : Route) (found : GplInstr) → length (gpl.length_bytes count) ≡ length (gpl.length_bytes zero)
      → moved look at count route ≡ Ok found → length (gpl.bytes_of found) ≡ length (gpl.bytes_of (move_by_zero zero route))
  moved_length count zero (Within to place) found same e =
      made_length _ found (move_by_zero zero (Within to place)) e
      (suc_same _ _ (two_parts (gpl.length_bytes count) (gpl.length_bytes zero) (gpl.operand_bytes to ++ gpl.operand_bytes place) _ same refl))
  moved_length count zero (ToMemory to address None) found same e =
      let a = bound (value look at address) _ found e in
      made_length _ found (move_by_zero zero (ToMemory to address None)) a.2
      (suc_same _ _ (two_parts (gpl.length_bytes count) (gpl.length_bytes zero) (gpl.operand_bytes to ++ gpl.word_bytes a.0) (gpl.operand_bytes to ++ gpl.word_bytes 0) same
      (two_parts (gpl.operand_bytes to) (gpl.operand_bytes to) (gpl.word_bytes a.0) (gpl.word_bytes 0) refl refl)))
  moved_length count zero (ToMemory to address (Some index)) found same e =
      let a = bound (value look at address) _ found e in
      let b = bound (value look at index) _ found a.2 in
      let c = bound (index_of b.0) _ found b.2 in
      made_length _ found (move_by_zero zero (ToMemory to address (Some index))) c.2
      (suc_same _ _ (two_parts (gpl.length_bytes count) (gpl.length_bytes zero) (gpl.operand_bytes to ++ (gpl.word_bytes a.0 ++ c.0 ∷ [])) (gpl.operand_bytes to ++ (gpl.word_bytes 0 ++ 0 ∷ [])) same
      (two_parts (gpl.operand_bytes to) (gpl.operand_bytes to) (gpl.word_bytes a.0 ++ c.0 ∷ []) (gpl.word_bytes 0 ++ 0 ∷ []) refl refl)))
  moved_length count zero (ToRegisters first address) found same e =
      let a = bound (value look at first) _ found e in
      let b = bound (value look at address) _ found a.2 in
      let c = bound (register_of a.0) _ found b.2 in
      made_length _ found (move_by_zero zero (ToRegisters first address)) c.2
      (suc_same _ _ (two_parts (gpl.length_bytes count) (gpl.length_bytes zero) (c.0 ∷ gpl.word_bytes b.0) (0 ∷ gpl.word_bytes 0) same refl))

  instr_length : (skeleton : Skeleton) (found : GplInstr) → instruction look at skeleton ≡ Ok found → length (gpl.bytes_of found) ≡ size_of skeleton
  instr_length (Plain op) found e = made_length _ found (instr_by_zero (Plain op)) e refl
  instr_length (skeletons.Byte op text) found e =
      let a = bound (value look at text) _ found e in
      let b = bound (checked_byte a.0) _ found a.2 in
      made_length _ found (instr_by_zero (skeletons.Byte op text)) b.2 refl
  instr_length (Jump op text) found e =
      let a = bound (value look at text) _ found e in
      made_length _ found (instr_by_zero (Jump op text)) a.2 refl
  instr_length (Branch on text) found e =
      let a = bound (value look at text) _ found e in
      let b = bound (branch_offset at a.0) _ found a.2 in
      made_length _ found (instr_by_zero (Branch on text)) b.2 refl
  instr_length (One op word operand) found e = made_length _ found (instr_by_zero (One op word operand)) e refl
  instr_length (Two op word destination source) found e =
      let a = bound (source_value look at word source) _ found e in
      made_length _ found (instr_by_zero (Two op word destination source)) a.2
      (suc_same _ _ (two_parts (gpl.operand_bytes destination) (gpl.operand_bytes destination) (gpl.source_bytes word a.0) (gpl.source_bytes word (source_by_zero source)) refl
      (source_length word source a.0 a.1)))
  instr_length (Move length route) found e =
      let a = bound (length_value look at length) _ found e in
      moved_length a.0 (length_by_zero length) route found (count_length length a.0 a.1) a.2

  placed_length : (bytes : List ℕ) (found : Outcome) (size : ℕ) → answers (Ok (Bytes bytes)) (Ok found) → length bytes ≡ size → length (bytes_in found) ≤ size
  placed_length bytes found size e f =
      let same : Bytes bytes ≡ found = cc e in
      omega (arith, ap (λ outcome. length (bytes_in outcome)) same, f)

  none_placed : (found : Outcome) (size : ℕ) → answers (Ok (Bytes [])) (Ok found) → length (bytes_in found) ≤ size
  none_placed found size e =
      let same : Bytes [] ≡ found = cc e in
      omega (arith, ap (λ outcome. length (bytes_in outcome)) same)

  pub outcome_size : (statement : Statement) (found : Outcome) → outcome look at statement ≡ Ok found → length (bytes_in found) ≤ declared_size statement
  unfolding outcome
  outcome_size (Instruction skeleton) found e =
      let a = bound (instruction look at skeleton) _ found e in
      placed_length (gpl.bytes_of a.0) found (size_of skeleton) a.2 (instr_length skeleton a.0 a.1)
  outcome_size (Data texts) found e =
      let a = bound (numbers look (address_of at) texts) _ found e in
      placed_length (flat_map gpl.word_bytes a.0) found (2 * length texts) a.2
      (words_length a.0 ∙ ap (λ n. 2 * n) (numbers_length look (address_of at) texts a.0 a.1))
  outcome_size (statements.Byte texts) found e =
      let a = bound (numbers look (address_of at) texts) _ found e in
      let b = bound (checked_bytes a.0) _ found a.2 in
      placed_length b.0 found (length texts) b.2 (bytes_length a.0 b.0 b.1 ∙ numbers_length look (address_of at) texts a.0 a.1)
  outcome_size (Text quoted) found e = placed_length (characters quoted) found (length (characters quoted)) e refl
  outcome_size (End None) found e = none_placed found _ e
  outcome_size (End (Some text)) found e =
      let a = bound (value look at text) _ found e in
      let same : Entry a.0 ≡ found = cc a.2 in
      omega (arith, ap (λ outcome. length (bytes_in outcome)) same)
  outcome_size _ found e = none_placed found _ e
