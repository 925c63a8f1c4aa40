-- The module of lines that are known by themselves.
use Rattle.std.proofs.Common.{◌≡◌, ℕ, ◌+◌, ◌-◌, ◌*◌, ◌<◌, ◌≤◌, Bool, true, false, List, [], ◌∷◌, ◌++◌, None, Ok}
use Rattle.std.proofs.Common.{length, refl, sym, ap, subst, ◌∙◌, arith}
use Rattle.std.specs.Prelude.{Option, Result, ◌&&◌, ◌||◌, nat_le, nat_lt, map, if◌then◌else◌, slice_get}
use Rattle.std.proofs.lemmas.Bool.Decides.{nat_tests}
use Rattle.std.proofs.lemmas.Cmp.{nat_list_cmp_total}
use Rattle.std.specs.FinMap.{get-from_entries}
use Rattle.std.proofs.lemmas.Bool.{false_from_ne_true}
use Rattle.source_defs.specs.Refusals.{◌>>=◌, at_line}
use Rattle.expression_defs.specs.Symbols.{look_up, predefined, registers}
use Rattle.expression_defs.specs.Expression.{Value, Absolute}
use Rattle.source_defs.specs.Lines.{numbered}
use Rattle.expression_defs.specs.Layout.{assembled_lines, line_layout, with_names}
use Rattle.expression_defs.proofs.LayoutLaws.{layout_more}
use Rattle.object_defs.specs.declared.spot.Spot.{Spot}
use Rattle.object_defs.specs.Modules.{Module, Reference}
use Rattle.asm_defs.specs.declared.causes.AsmCause.{AsmCause}
use Rattle.asm_defs.specs.declared.location.Location.{Location}
use Rattle.asm_defs.specs.declared.location.Part.{Part}
use Rattle.asm_defs.specs.declared.location.Part.TheVariants as part
use Rattle.asm_defs.specs.Locations.{Line, location}
use Rattle.asm_defs.specs.Statements.{Statement, End}
use Rattle.asm_defs.specs.FirstChecks.{check, line_of, names, refs, defs, refs_in, defs_in, any_known, label_in}
use Rattle.asm_defs.specs.FirstChecks.{label_entry, external_entries}
use Rattle.asm_defs.specs.SecondChecks.{Outcome, Words, Entry}
use Rattle.asm_defs.specs.declared.content.Content.{Content}
use Rattle.asm_defs.specs.Memory.{AssembledLine, covers, same_part, is_placed, bytes_in, any_from, word_count, pieces}
use Rattle.asm_defs.specs.Memory.{references_of, after_by, after_word, spot_by, is_placed_in}
use Rattle.asm_defs.proofs.PlacedWords.{after_words}
use Rattle.asm_defs.specs.Modules.{assembled_line, with_room, module_by, module_after, module_of_lines, entry, entry_by}
use Rattle.asm_defs.specs.Modules.{unused, definition_in}
use Rattle.line_laws.specs.KnownLines.{KnownLine, known_line, all_names, all_words, names_after, are_new, are_close}
use Rattle.line_laws.specs.Laws.{looks, AreKnown, HasWords, KnownLinesHaveTheirWords}
use Rattle.line_laws.proofs.EarlierLines.{is_free}
use Rattle.line_laws.proofs.LayoutLines.{LooksUpIn, layout_list, AreLaidOut, earlier_layout, check_after}
use Rattle.line_laws.proofs.PlacedWords.{HoldWords, few_words, content_of}
use Rattle.line_laws.proofs.SecondChecks.{as_assembled, assembled_list, assemble_is, AreAssembled, are_assembled, assembled_step}
use Rattle.line_laws.proofs.SecondChecks.{room_by}
use Rattle.line_laws.proofs.LinkedPieces.{pieces_held}
use Rattle.line_laws.proofs.Small.{both, append_none}

pub registers_look_up : LooksUpIn predefined registers
registers_look_up name = get-from_entries nat_list_cmp_total registers name

pub none_by : (b : Bool) (k : ℕ) → ◌≡◌ {A = Option Content} None (if b then slice_get [] k else None)
none_by true k = refl
none_by false k = refl

-- where no name is external, no use is one
no_use : (at : Spot) (word : Value) → after_word [] at word ≡ []
no_use at (Absolute number) = refl
no_use at _ = refl

no_words : (found : Part) (at : ℕ) (words : List Value) → after_words found [] at words ≡ []
no_words found at [] = refl
no_words found at (word ∷ words) =
    ap (λ references. after_words found references (at + 2) words) (no_use (spot_by found at) word) ∙ no_words found (at + 2) words

either_none : (b : Bool) (references : List Reference) → references ≡ [] → (if b then references else []) ≡ []
either_none true references e = e
either_none false references e = refl

no_line : (at : Location) (found : Outcome) → after_by at [] found ≡ []
no_line at (Words words) = either_none (is_placed_in at.part) _ (no_words at.part at.number words)
no_line at _ = refl

pub no_uses : (lines : List AssembledLine) → references_of [] lines ≡ []
no_uses [] = refl
no_uses (line ∷ lines) = ap (λ references. after_by line.at references line.outcome) (no_uses lines) ∙ no_line line.at line.outcome

-- a line that places no bytes
module _ (line : AssembledLine) (none : bytes_in line.outcome ≡ 0) where
  pub not_covered : (found : Part) (p : ℕ) → covers line found p ≡ false
  not_covered found p = false_from_ne_true _ (λ e.
      let b = both (same_part line.at.part found && nat_le line.at.number p) _ e in
      let c = both (same_part line.at.part found) _ b.0 in
      let from : line.at.number ≤ p = grind (arith, nat_tests, c.1) in
      let to : p < line.at.number + bytes_in line.outcome = grind (arith, nat_tests, b.1) in
      omega (arith, none, from, to))

  pub hold_still : (lines : List AssembledLine) (from : ℕ) (words : List ℕ) → HoldWords [] lines from words → HoldWords [] (line ∷ lines) from words
  hold_still lines from words hold = record {
    absolute = λ p. rw (not_covered part.Absolute p) (hold.absolute p);
    relocatable = λ p. rw (not_covered part.Relocatable p) (hold.relocatable p);
    free = λ p le. ap (λ b. b || is_placed lines part.Absolute p) (not_covered part.Absolute p) ∙ hold.free p le;
    none = λ p. ap (λ b. b || is_placed lines part.Relocatable p) (not_covered part.Relocatable p) ∙ hold.none p;
  }

  pub room_still : (lines : List AssembledLine) (from : ℕ) (words : List ℕ) → HoldWords [] lines from words → with_room lines line ≡ Ok line
  room_still lines from words hold =
      let few = few_words (line ∷ lines) (hold_still lines from words hold).none in
      let fits : nat_lt 32768 (word_count (line ∷ lines)) ≡ false = grind (arith, nat_tests, few) in
      room_by line _ _ fits (ap (any_from (is_placed lines line.at.part) line.at.number) none)

abbrev pub no_label : Option (List ℕ) → Type 0
no_label label = label ≡ None

own_names : (statement : Statement) (label : Option (List ℕ)) (value : Value) (text : Option (List ℕ)) → no_label label → statement ≡ End text
    → label_entry label value ++ external_entries (refs_in statement) ≡ []
own_names statement label value text none ends =
    ap (λ (label : Option (List ℕ)). label_entry label value ++ external_entries (refs_in statement)) none
    ∙ ap (λ (statement : Statement). external_entries (refs_in statement)) ends

checked_last : (before : List Line) (number : ℕ) (found : Line) (answer : Result Line AsmCause) → answer ≡ Ok found
    → (at_line number answer >>= λ line. Ok (line ∷ before)) ≡ Ok (found ∷ before)
checked_last before number found answer e = rw e refl

no_bytes : (found : Outcome) (spot : Spot) → found ≡ Entry spot → bytes_in found ≡ 0
no_bytes found spot e = ap bytes_in e

module _ (half : ℕ) (texts : List (List ℕ)) (last : List ℕ) (defined : List (List ℕ × Value)) (lines : List KnownLine) (end : KnownLine) (spot : Spot) (is : AreKnown (2 * half) texts last defined lines end spot) where
  abbrev pub front : List Line
  front = layout_list [] 1 lines

  abbrev pub number : ℕ
  number = 1 + length texts

  abbrev pub final : Line
  final = line_of number end.found

  pub first : AreLaidOut (looks defined) texts lines [] 1 registers
  first = earlier_layout (looks defined) texts lines [] 1 registers is.known is.plain registers_look_up (ap (are_new registers) is.names ∙ is.new)

  pub final_known : known_line (looks defined) (location front) last ≡ Ok end
  final_known = ap (λ at. known_line (looks defined) at last) first.at ∙ is.closing

  pub final_free : is_free end.found.statement ≡ true
  final_free = ap is_free is.ends.1

  pub final_checked : check front number last ≡ Ok final
  final_checked = check_after (looks defined) last end front number final_known final_free (ap (λ label. any_known (names front) (label_in label)) is.unnamed)

  pub whole_layout : line_layout check (numbered 1 (texts ++ last ∷ [])) ≡ Ok (final ∷ front)
  whole_layout =
      layout_more check last texts [] 1 number front refl first.line_layout first.going_on
      ∙ checked_last front number final (check front number last) final_checked

  names_same : names (final ∷ front) ≡ names front
  names_same = ap (with_names (names front)) (own_names end.found.statement end.found.label end.found.move.label is.ends.0 is.unnamed is.ends.1)

  at_place : LooksUpIn (names (final ∷ front)) (names_after registers defined)
  at_place = subst (λ entries. LooksUpIn (names (final ∷ front)) (names_after registers entries)) is.names
      (subst (λ known. LooksUpIn known (names_after registers (all_names lines))) (sym names_same) first.names)

  pub looked : looks defined ≡ look_up (names (final ∷ front))
  looked i name = sym (at_place name) i

  rest : AreAssembled (looks defined) (names (final ∷ front)) looked (2 * half) lines [] 1 [] []
  rest = are_assembled (looks defined) (names (final ∷ front)) looked (2 * half) texts lines [] 1 [] [] is.known is.plain
      (ap (λ n. are_close n lines) (omega arith) ∙ is.close) refl
      (record { absolute = λ p. none_there p; relocatable = λ p. refl; free = λ p le. refl; none = λ p. refl })
    where
      none_there : (p : ℕ) → None ≡ content_of (2 * half) [] p
      none_there p = none_by (nat_le (2 * half) p) (p - 2 * half)

  abbrev found : List AssembledLine
  found = assembled_list [] lines

  final_room : with_room found (as_assembled end) ≡ Ok (as_assembled end)
  final_room = room_still (as_assembled end) (no_bytes end.outcome spot is.enters) found (2 * half) (all_words lines) rest.hold

  all_assembled : assembled_lines (assembled_line (names (final ∷ front))) (final ∷ front) ≡ Ok (as_assembled end ∷ found)
  all_assembled =
      assembled_step (names (final ∷ front)) front found number end.found (as_assembled end) (assembled_lines (assembled_line (names (final ∷ front))) front) rest.assembled_lines
      (assemble_is (looks defined) (names (final ∷ front)) looked (2 * half) last end front number found final_known final_room)

  abbrev whole : Module
  whole = module_by (final ∷ front) (as_assembled end ∷ found)

  no_refs : refs (final ∷ front) ≡ []
  no_refs = append_none (refs front) (refs_in end.found.statement) (ap refs_in is.ends.1) ∙ first.refs

  no_defs : defs (final ∷ front) ≡ []
  no_defs = append_none (defs front) (defs_in end.found.statement) (ap defs_in is.ends.1) ∙ first.defs

  pub assembled : module_of_lines (texts ++ last ∷ []) ≡ Ok whole
  assembled =
      ap (λ answer. answer >>= module_after) whole_layout
      ∙ ap (λ answer. answer >>= λ found. Ok (module_by (final ∷ front) found)) all_assembled

  pub has_words : half + length (all_words lines) ≤ 32768 → HasWords (2 * half) (all_words lines) spot whole
  has_words le = record {
    pieces = ap (λ references. pieces (map unused references) (as_assembled end ∷ found)) no_refs
        ∙ pieces_held (as_assembled end ∷ found) half (all_words lines)
        (hold_still (as_assembled end) (no_bytes end.outcome spot is.enters) found (2 * half) (all_words lines) rest.hold) le;
    defs = ap (map (definition_in (names (final ∷ front)))) no_defs;
    refs = ap (λ references. references_of (map unused references) (as_assembled end ∷ found)) no_refs ∙ no_uses (as_assembled end ∷ found);
    entered = ap (entry_by (entry found)) is.enters;
  }

pub have_their_words : KnownLinesHaveTheirWords
have_their_words half texts last defined lines end spot is le = record {
  unit = whole half texts last defined lines end spot is;
  assembled = assembled half texts last defined lines end spot is;
  has = has_words half texts last defined lines end spot is le;
}
