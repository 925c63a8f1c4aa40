-- The last lines of a listing, and the module of all.
use Rattle.std.proofs.Common.{◌≡◌, ℕ, zero, suc, ◌+◌, ◌-◌, ◌*◌, ◌<◌, ◌≤◌, true, false, List, [], ◌∷◌, ◌++◌}
use Rattle.std.proofs.Common.{length, refl, ap, sym, subst, ◌∙◌, Ok, Option, Some, None, arith}
use Rattle.std.specs.Option.{option_map}
use Rattle.std.specs.Prelude.{Err, ◌||◌, map, nat_le, nat_lt, codes}
use Rattle.std.proofs.lemmas.Bool.Decides.{nat_tests}
use Rattle.source_defs.specs.Refusals.{Refusal, ◌>>=◌}
use Rattle.source_defs.specs.Digits.{hex_byte}
use Rattle.expression_defs.specs.Layout.{assembled_lines}
use Rattle.expression_defs.specs.Symbols.{predefined}
use Rattle.tms_defs.specs.Words.{join}
use Rattle.object_defs.specs.declared.spot.Spot.{Spot}
use Rattle.object_defs.specs.declared.spot.Spot.TheVariants as spot
use Rattle.object_defs.specs.declared.spot.Piece.{Piece}
use Rattle.object_defs.specs.Digits.{padded}
use Rattle.object_defs.specs.Modules.{Module, Definition, Reference}
use Rattle.asm_defs.specs.declared.content.Content.{Content}
use Rattle.asm_defs.specs.declared.content.Content.TheVariants as content
use Rattle.asm_defs.specs.declared.causes.AsmCause.{AsmCause}
use Rattle.asm_defs.specs.declared.location.Part.{Part}
use Rattle.asm_defs.specs.declared.location.Part.TheVariants as part
use Rattle.asm_defs.specs.Locations.{Line}
use Rattle.asm_defs.specs.FirstChecks.{names}
use Rattle.asm_defs.specs.SecondChecks.{Bytes}
use Rattle.asm_defs.specs.Memory.{AssembledLine, covers, is_placed, bytes_in, any_from, content_at, pieces, pieces_from}
use Rattle.asm_defs.specs.Memory.{part_words, word_count, references_of}
use Rattle.asm_defs.specs.Modules.{assembled_line, with_room, module_by, entry, entry_by, unused, definition_in}
use Rattle.line_laws.specs.KnownLines.{pieces_of}
use Rattle.line_laws.proofs.PlacedWords.{HoldWords, content_of, few_words}
use Rattle.line_laws.proofs.SecondChecks.{room_by}
use Rattle.line_laws.proofs.LinkedPieces.{pieces_held, pieces_there, pieces_split, none_from, at_word, content_none, content_not_yet, nothing_before}
use Rattle.line_laws.proofs.Whole.{not_covered, no_uses}
use Rattle.word_listings.proofs.LineBacks.{absolute_at, end_text, end_outcome, end_line, IsEntry, byte_line}
use Rattle.word_listings.proofs.After.{IsAt, Holds, Fails, taken, Ends, ends_last, ends_more, assembles_now, fails_still}

-- lines that hold some pieces and an entry, or none, and nothing else
pub record Held (lines : List AssembledLine) (held : List Piece) (entered : Option Spot) : Type 0 where
  pub pieces_are : pieces [] lines ≡ held
  pub none : (p : ℕ) → is_placed lines part.Relocatable p ≡ false
  pub entry_is : entry lines ≡ entered

same_pieces : (f g : ℕ → Option Content) (found : Part) (first n : ℕ) → ((p : ℕ) → 2 * first ≤ p → p < 2 * (first + n) → f p ≡ g p) → pieces_from f found first n ≡ pieces_from g found first n
same_pieces f g found first zero same = refl
same_pieces f g found first (suc n) same =
    rw (same (2 * first) (omega arith) (omega arith), same (2 * first + 1) (omega arith) (omega arith))
    (rw (same_pieces f g found (first + 1) n (λ p le lt. same p (omega (arith, le)) (omega (arith, lt)))) refl)

-- END places nothing
module _ (end : ℕ) (entered : Option ℕ) where
  abbrev pub end_assembled : AssembledLine
  end_assembled = record { at = absolute_at end; outcome = end_outcome entered }

  no_bytes : bytes_in (end_outcome entered) ≡ 0
  no_bytes = by entered
    where
      by : (entered : Option ℕ) → bytes_in (end_outcome entered) ≡ 0
      by None = refl
      by (Some number) = refl

  same_content : (lines : List AssembledLine) (found : Part) (p : ℕ) → content_at [] (end_assembled ∷ lines) found p ≡ content_at [] lines found p
  same_content lines found p = rw (not_covered end_assembled no_bytes found p) refl

  end_none : (lines : List AssembledLine) (p : ℕ) → is_placed lines part.Relocatable p ≡ false → is_placed (end_assembled ∷ lines) part.Relocatable p ≡ false
  end_none lines p e = rw (not_covered end_assembled no_bytes part.Relocatable p) e

  entry_held : (before : Option Spot) → before ≡ None → entry_by before (end_outcome entered) ≡ option_map spot.Absolute entered
  entry_held before none = by entered
    where
      by : (entered : Option ℕ) → entry_by before (end_outcome entered) ≡ option_map spot.Absolute entered
      by None = none
      by (Some number) = refl

  pub end_held : (lines : List AssembledLine) (held : List Piece) → Held lines held None → Held (end_assembled ∷ lines) held (option_map spot.Absolute entered)
  end_held lines held is = record {
    pieces_are =
        ap (λ pieces. pieces ++ pieces_from (content_at [] (end_assembled ∷ lines) part.Absolute) part.Absolute 0 part_words)
        (same_pieces _ _ part.Relocatable 0 part_words (λ p le lt. same_content lines part.Relocatable p))
        ∙ (ap (λ rest. pieces_from (content_at [] lines part.Relocatable) part.Relocatable 0 part_words ++ rest)
        (same_pieces _ _ part.Absolute 0 part_words (λ p le lt. same_content lines part.Absolute p))
        ∙ is.pieces_are);
    none = λ p. end_none lines p (is.none p);
    entry_is = entry_held (entry lines) is.entry_is;
  }

  pub end_room : (lines : List AssembledLine) (held : List Piece) → Held lines held None → with_room lines end_assembled ≡ Ok end_assembled
  end_room lines held is =
      let few = few_words (end_assembled ∷ lines) (λ p. end_none lines p (is.none p)) in
      let fits : nat_lt 32768 (word_count (end_assembled ∷ lines)) ≡ false = grind (arith, nat_tests, few) in
      room_by end_assembled _ _ fits (ap (any_from (is_placed lines part.Absolute) end) no_bytes)

pub words_held : (lines : List AssembledLine) (half : ℕ) (words : List ℕ) → HoldWords [] lines (2 * half) words → entry lines ≡ None → half + length words ≤ 32768
    → Held lines (pieces_of (2 * half) words) None
words_held lines half words hold none le = record { pieces_are = pieces_held lines half words hold le; none = hold.none; entry_is = none }

-- ---- a last odd byte

abbrev lone : ℕ → ℕ → List Piece
lone at word = record { at = spot.Absolute at; word = spot.Absolute word } ∷ []

pieces_append : (from : ℕ) (words : List ℕ) (word : ℕ) (at : ℕ) → at ≡ from + 2 * length words
    → pieces_of from (words ++ word ∷ []) ≡ pieces_of from words ++ record { at = spot.Absolute at; word = spot.Absolute word } ∷ []
pieces_append from [] word at e = let same : at ≡ from = omega (arith, e) in ap (λ at. lone at word) (sym same)
pieces_append from (first ∷ words) word at e =
    ap (λ rest. record { at = spot.Absolute from; word = spot.Absolute first } ∷ rest) (pieces_append (from + 2) words word at (omega (arith, e)))

module _ (f : ℕ → Option Content) (a rest most : ℕ) (words : List ℕ) (byte : ℕ) (size : a + (length words + suc rest) ≡ most)
    (same : (p : ℕ) → p < 2 * (a + length words) → f p ≡ content_of (2 * a) words p) (there : f (2 * (a + length words)) ≡ Some (content.Byte byte))
    (past : (p : ℕ) → 2 * (a + length words) < p → f p ≡ None) where
  front_pieces : pieces_from f part.Absolute a (length words) ≡ pieces_of (2 * a) words
  front_pieces =
      same_pieces f (content_of (2 * a) words) part.Absolute a (length words) (λ p le lt. same p lt)
      ∙ pieces_there (content_of (2 * a) words) a words (λ p le. refl)

  last_piece : pieces_from f part.Absolute (a + length words) (suc rest) ≡ record { at = spot.Absolute (2 * (a + length words)); word = spot.Absolute (join byte 0) } ∷ []
  last_piece =
      ap (λ pieces. pieces ++ pieces_from f part.Absolute (a + length words + 1) rest)
      (at_word f part.Absolute (a + length words) (Some (content.Byte byte)) None there (past (2 * (a + length words) + 1) (omega arith)))
      ∙ ap (λ pieces. record { at = spot.Absolute (2 * (a + length words)); word = spot.Absolute (join byte 0) } ∷ pieces)
      (none_from f part.Absolute (a + length words + 1) rest (λ p le lt. past p (omega (arith, le))))

  byte_pieces : pieces_from f part.Absolute 0 most ≡ pieces_of (2 * a) (words ++ join byte 0 ∷ [])
  byte_pieces =
      let zero_more : 0 + a ≡ a = omega arith in
      ap (pieces_from f part.Absolute 0) (sym size)
      ∙ (pieces_split f part.Absolute 0 a (length words + suc rest)
      ∙ (nothing_before _ _ (none_from f part.Absolute 0 a (λ p le lt. same p (omega (arith, lt)) ∙ content_not_yet (2 * a) words p (omega (arith, lt))))
      ∙ (ap (λ first. pieces_from f part.Absolute first (length words + suc rest)) zero_more
      ∙ (pieces_split f part.Absolute a (length words) (suc rest)
      ∙ (ap (λ pieces. pieces ++ pieces_from f part.Absolute (a + length words) (suc rest)) front_pieces
      ∙ (ap (λ pieces. pieces_of (2 * a) words ++ pieces) last_piece
      ∙ sym (pieces_append (2 * a) words (join byte 0) (2 * (a + length words)) (omega arith))))))))

module _ (end byte : ℕ) where
  abbrev pub byte_assembled : AssembledLine
  byte_assembled = record { at = absolute_at end; outcome = Bytes (byte ∷ []) }

  module _ (lines : List AssembledLine) (half : ℕ) (words : List ℕ) (hold : HoldWords [] lines (2 * half) words) (there : end ≡ 2 * (half + length words)) where
    covers_there : covers byte_assembled part.Absolute end ≡ true
    covers_there = grind (arith, nat_tests)

    covers_before : (p : ℕ) → p < end → covers byte_assembled part.Absolute p ≡ false
    covers_before p lt = let no : nat_le end p ≡ false = grind (arith, nat_tests, lt) in rw no refl

    covers_after : (p : ℕ) → end < p → covers byte_assembled part.Absolute p ≡ false
    covers_after p lt =
        let no : nat_lt p (end + 1) ≡ false = grind (arith, nat_tests, lt) in
        let yes : nat_le end p ≡ true = grind (arith, nat_tests, lt) in
        rw (no, yes) refl

    byte_none : (p : ℕ) → is_placed (byte_assembled ∷ lines) part.Relocatable p ≡ false
    byte_none p = hold.none p

    content_there : content_at [] (byte_assembled ∷ lines) part.Absolute end ≡ Some (content.Byte byte)
    content_there =
        let first : end - end ≡ 0 = omega arith in
        rw (covers_there, first) refl

    content_before : (p : ℕ) → p < end → content_at [] (byte_assembled ∷ lines) part.Absolute p ≡ content_of (2 * half) words p
    content_before p lt = rw (covers_before p lt) (hold.absolute p)

    content_after : (p : ℕ) → end < p → content_at [] (byte_assembled ∷ lines) part.Absolute p ≡ None
    content_after p lt =
        rw (covers_after p lt) (hold.absolute p ∙ content_none (2 * half) words p (omega (arith, there, lt)))

    pub byte_held : entry lines ≡ None → half + length words < 32768 → Held (byte_assembled ∷ lines) (pieces_of (2 * half) (words ++ join byte 0 ∷ [])) None
    unfolding part_words
    byte_held none lt =
        let size : half + (length words + suc (32767 - (half + length words))) ≡ 32768 = omega (arith, lt) in
        record {
          pieces_are =
              nothing_before _ _ (none_from (content_at [] (byte_assembled ∷ lines) part.Relocatable) part.Relocatable 0 32768 (λ p from to. hold.relocatable p))
              ∙ byte_pieces (content_at [] (byte_assembled ∷ lines) part.Absolute) half (32767 - (half + length words)) 32768 words byte size
              (λ p lt. content_before p (omega (arith, lt, there)))
              (subst (λ at. content_at [] (byte_assembled ∷ lines) part.Absolute at ≡ Some (content.Byte byte)) there content_there)
              (λ p lt. content_after p (omega (arith, lt, there)));
          none = byte_none;
          entry_is = none;
        }

    pub byte_room : with_room lines byte_assembled ≡ Ok byte_assembled
    byte_room =
        let few = few_words (byte_assembled ∷ lines) byte_none in
        let fits : nat_lt 32768 (word_count (byte_assembled ∷ lines)) ≡ false = grind (arith, nat_tests, few) in
        room_by byte_assembled _ _ fits (ap (λ b. b || false) (hold.free end (omega (arith, there))))

-- ---- the module

same_module : (n m : List ℕ) (s t : ℕ) (p q : List Piece) (d e : List Definition) (r u : List Reference) (x y : Option Spot)
    → n ≡ m → s ≡ t → p ≡ q → d ≡ e → r ≡ u → x ≡ y
    → ◌≡◌ {A = Module} (record { name = n; size = s; pieces = p; defs = d; refs = r; entry = x }) (record { name = m; size = t; pieces = q; defs = e; refs = u; entry = y })
same_module n m s t p q d e r u x y a b c f g h = rw (a, b, c, f, g, h) refl

abbrev pub module_with : List Piece → Option Spot → Module
module_with held entered = record { name = padded 8 []; size = 0; pieces = held; defs = []; refs = []; entry = entered }

module_is : (all : List Line) (at : ℕ) (lines : List AssembledLine) (held : List Piece) (entered : Option Spot) → IsAt all at → Held lines held entered
    → module_by all lines ≡ module_with held entered
module_is all at lines held entered after_these is =
    same_module _ _ _ _ _ _ _ _ _ _ _ _ after_these.title_is after_these.reached_is
    (ap (λ references. pieces (map unused references) lines) after_these.refs_are ∙ is.pieces_are)
    (ap (map (definition_in (names all))) after_these.defs_are)
    (ap (λ references. references_of (map unused references) lines) after_these.refs_are ∙ no_uses lines) is.entry_is

-- END after lines that hold some pieces
module _ (entered : Option ℕ) (is_entry : IsEntry entered) where
  pub closes_end : (end : ℕ) (fits : end ≤ 65536) (before : List Line) (lines : List AssembledLine) (number : ℕ) (held : List Piece) → IsAt before end
      → assembled_lines (assembled_line predefined) before ≡ Ok lines → Held lines held None
      → Ends before number (end_text entered ∷ []) (Ok (module_with held (option_map spot.Absolute entered)))
  closes_end end fits before lines number held after_these are is =
      let line = taken end (end_text entered) 0 true _ (end_line end entered is_entry) (omega (arith, fits)) before after_these number in
      let now = assembles_now before number (end_text entered) end (end + 0) true (end_outcome entered) lines line are (end_room end entered lines held is) in
      ends_last before number (end_text entered) end (end + 0) (Ok (end_outcome entered)) _ line
      (ap (λ answer. answer >>= λ found. Ok (module_by (line.line ∷ before) found)) now
      ∙ ap Ok (module_is (line.line ∷ before) (end + 0) (end_assembled end entered ∷ lines) held _ line.after_these (end_held end entered lines held is)))

  pub breaks_end : (end : ℕ) (fits : end ≤ 65536) (before : List Line) (number : ℕ) (refusal : Refusal AsmCause) → IsAt before end → Fails before refusal
      → Ends before number (end_text entered ∷ []) (Err refusal)
  breaks_end end fits before number refusal after_these fails =
      let line = taken end (end_text entered) 0 true _ (end_line end entered is_entry) (omega (arith, fits)) before after_these number in
      ends_last before number (end_text entered) end (end + 0) (Ok (end_outcome entered)) _ line
      (ap (λ answer. answer >>= λ found. Ok (module_by (line.line ∷ before) found)) (fails_still line.line before refusal fails))

  -- BYTE before it
  module _ (end byte : ℕ) (fits : end < 65536) (small : byte < 256) where
    abbrev byte_text : List ℕ
    byte_text = codes "BYTE " ++ hex_byte byte

    pub closes_byte : (half : ℕ) (words : List ℕ) → end ≡ 2 * (half + length words) → (before : List Line) (lines : List AssembledLine) (number : ℕ) → IsAt before end
        → Holds before lines (2 * half) words
        → Ends before number (byte_text ∷ end_text entered ∷ [])
        (Ok (module_with (pieces_of (2 * half) (words ++ join byte 0 ∷ [])) (option_map spot.Absolute entered)))
    closes_byte half words there before lines number after_these holds =
        let line = taken end byte_text 1 false _ (byte_line end byte small) (omega (arith, fits)) before after_these number in
        let now = assembles_now before number byte_text end (end + 1) false (Bytes (byte ∷ [])) lines line holds.assembled_are
        (byte_room end byte lines half words holds.hold there) in
        ends_more before number _ _ _ _ _ _ line
        (closes_end (end + 1) (omega (arith, fits)) (line.line ∷ before) (byte_assembled end byte ∷ lines) (number + 1) _ line.after_these now
        (byte_held end byte lines half words holds.hold there holds.entry_is (omega (arith, there, fits))))

    pub breaks_byte : (before : List Line) (number : ℕ) (refusal : Refusal AsmCause) → IsAt before end → Fails before refusal
        → Ends before number (byte_text ∷ end_text entered ∷ []) (Err refusal)
    breaks_byte before number refusal after_these fails =
        let line = taken end byte_text 1 false _ (byte_line end byte small) (omega (arith, fits)) before after_these number in
        ends_more before number _ _ _ _ _ _ line
        (breaks_end (end + 1) (omega (arith, fits)) (line.line ∷ before) (number + 1) refusal line.after_these (fails_still line.line before refusal fails))
