-- The lines of a listing: each is accepted after others, and placed.
use Rattle.std.proofs.Common.{◌≡◌, ◌⊎◌, inl, inr, ℕ, ◌+◌, ◌%◌, ◌<◌, ◌≤◌, Bool, true, false, List, [], ◌∷◌, ◌++◌}
use Rattle.std.proofs.Common.{length, refl, ap, sym, subst, ◌∙◌, Ok, Option, Some, None, arith, rules}
use Rattle.std.specs.Prelude.{◌==◌, codes, IsTrue, nat_lt, nat_le, if◌then◌else◌}
use Rattle.std.specs.List.{list_all}
use Rattle.std.proofs.lemmas.Bool.Decides.{nat_tests}
use Rattle.source_defs.specs.Digits.{hex_word, hex_byte, word_digits, byte_digits}
use Rattle.source_defs.specs.Lines.{numbered}
use Rattle.expression_defs.specs.Layout.{layout_after, assembled_lines}
use Rattle.source_defs.specs.ListedLines.{listed, with_operands}
use Rattle.expression_defs.specs.Symbols.{Names, look_up, predefined}
use Rattle.base_defs.specs.declared.size.TheConstants.{GROM_SIZE}
use Rattle.gpl_defs.specs.declared.instruction.GplInstr.{GplInstr}
use Rattle.gpl_defs.specs.Image.{Image, placed}
use Rattle.gpl_defs.specs.Valid.{is_valid}
use Rattle.gpl_defs.specs.Bytes.{bytes_of}
use Rattle.gpl_source_defs.specs.declared.location.Location.{Location}
use Rattle.gpl_source_defs.specs.Directives.{directive}
use Rattle.gpl_source_defs.specs.Mnemonics.{name_of}
use Rattle.gpl_source_defs.specs.Statements.{Statement, Instruction, Grom, Aorg, Byte, End, operation_statement, declared_size}
use Rattle.gpl_source_defs.specs.Locations.{Line, start, after, location, place, address_of, origin_of}
use Rattle.gpl_source_defs.specs.FirstChecks.{checked, check, line_of, names, is_full, is_bad, is_end}
use Rattle.gpl_source_defs.specs.SecondChecks.{Bytes, outcome}
use Rattle.gpl_source_defs.specs.Programs.{AssembledLine, image, entry, overlaps, assembled_line, assembled_at}
use Rattle.gpl_listing_defs.specs.Texts.{mnemonic_of, instr_text}
use Rattle.listed_lines.proofs.DigitLaws.{word_passes, byte_passes}
use Rattle.listed_lines.proofs.OperandLines.{whole, one_text}
use Rattle.listed_lines.proofs.LineTexts.{Cut, Fit, number_fit, cut_listed, in_line, listed_in_line, plain_byte, field_of}
use Rattle.gpl_listing_defs.proofs.Operands.{Alphabet, word_value, byte_value, tokens_of, tokens_are, few_tokens, shown, shown_all, shown_some, shown_short}
use Rattle.gpl_listing_defs.proofs.Instructions.{InstrFits, InGromOf, instr_names, left_of, skeleton_back, size_back, instruction_back}

-- the outcomes of some lines
pub record IsAt (before : List Line) (earlier : List AssembledLine) (at : Location) (bytes : Image) : Type 0 where
  pub names_are : names before ≡ predefined
  pub location_is : location before ≡ at
  pub assembled_are : assembled_lines (assembled_line predefined) before ≡ Ok earlier
  pub image_is : image earlier ≡ bytes
  pub entry_is : entry earlier ≡ None

pub at_first : IsAt [] [] start (image [])
at_first = search rules

-- a line after others that is accepted, with the outcome of all
pub record Taken (before : List Line) (number : ℕ) (text : List ℕ) (last : Bool) (next : Location) (bytes : Image) :
    Type 0 where
  pub line : Line
  pub earlier : List AssembledLine
  pub check_is : check before number text ≡ Ok line
  pub last_is : line.last ≡ last
  pub place_is : IsAt (line ∷ before) earlier next bytes

-- the location after a line that sets one, or none
abbrev moved : Option Location → Location → ℕ → Location
moved None here size = after here size
moved (Some origin) here size = after origin size

pub same_location : (grom m n : ℕ) → m ≡ n →
    ◌≡◌ {A = Location} (record { grom = grom; number = m }) (record { grom = grom; number = n })
same_location grom m n e = rw e refl

here_again : (at : Location) → ◌≡◌ {A = Location} (after at 0) at
here_again at = same_location at.grom (at.number + 0) at.number (omega arith)

location_after : (line : Line) (before : List Line) (o : Option Location) → line.origin ≡ o → line.gap ≡ 0 →
    location (line ∷ before) ≡ moved o (location before) line.size
location_after line before None e gap = rw (e, gap) (same_location _ _ _ (omega arith))
location_after line before (Some origin) e gap = rw (e, gap) (same_location _ _ _ (omega arith))

assemble_here : (earlier : List AssembledLine) (at there : Location) (held : Image) (parsed_statement : Statement) (bytes : List ℕ) →
    there ≡ at → image earlier ≡ held → outcome (look_up predefined) at parsed_statement ≡ Ok (Bytes bytes) →
    overlaps held at.number bytes ≡ false →
    assembled_at predefined there parsed_statement earlier ≡ Ok (record { at = at.number; outcome = Bytes bytes })
assemble_here earlier at there held parsed_statement bytes same is second free = rw (same, second, is, free) refl

plain_letters : Alphabet plain_byte
plain_letters = search rules

instr_fit : (found : GplInstr) (at : ℕ) → IsTrue (is_valid found) →
    Fit (name_of (mnemonic_of found)) (field_of (shown (tokens_of found at)))
instr_fit found at valid =
    let n = instr_names found valid in
    record {
      some = n.some;
      short = n.short;
      few = omega (arith, shown_short (tokens_of found at), few_tokens found at);
      name_plain = n.plain;
      field_plain = shown_all plain_byte plain_letters refl (tokens_of found at);
    }

pub instr_in_line : (found : GplInstr) (at : ℕ) → IsTrue (is_valid found) →
    list_all in_line (listed (instr_text found at)) ≡ true
unfolding instr_text
instr_in_line found at valid =
    subst (λ operands. list_all in_line (listed (with_operands (name_of (mnemonic_of found)) operands)) ≡ true) (sym (tokens_are found at))
    (listed_in_line (name_of (mnemonic_of found)) (shown (tokens_of found at)) (instr_fit found at valid))

-- a line whose statement nothing speaks against is accepted by the first checks
pub checked_as : (known : Names) (here : Location) (line name field : List ℕ) (parsed_statement : Statement) → Cut line name field →
    operation_statement (look_up known) (address_of here) name field ≡ Ok parsed_statement → is_full here parsed_statement ≡ false →
    is_bad None parsed_statement ≡ false → checked known here line ≡ Ok (record { label = None; statement = parsed_statement })
unfolding checked
checked_as known here line name field parsed_statement cut is full bad =
    rw (cut.fields_are, cut.name_is, cut.field_is, is, full, bad) refl

module _ {before : List Line} {earlier : List AssembledLine} {at : Location} {held : Image} (number : ℕ)
    (place_is : IsAt before earlier at held) where
  -- a line by its operation, its operands, what it says and what it places
  taken : (name : List ℕ) (operands : Option (List ℕ)) (parsed_statement : Statement) (bytes : List ℕ) (next : Location) →
      Fit name (field_of operands) → (operands ≡ None) ⊎ (0 < length (field_of operands)) →
      operation_statement (look_up predefined) (address_of at) name (field_of operands) ≡ Ok parsed_statement →
      outcome (look_up predefined) at parsed_statement ≡ Ok (Bytes bytes) → is_bad None parsed_statement ≡ false →
      moved (origin_of at parsed_statement) at (declared_size parsed_statement) ≡ next → at.number + declared_size parsed_statement ≤ at.grom + 0x2000 →
      overlaps held at.number bytes ≡ false →
      Taken before number (listed (with_operands name operands)) (is_end parsed_statement) next (placed held at.number bytes)
  taken name operands parsed_statement bytes next fit some is second good there within free =
      let cut = cut_listed name operands fit some in
      let full : is_full at parsed_statement ≡ false =
      (let test : nat_lt (at.grom + GROM_SIZE) (at.number + declared_size parsed_statement) ≡ false = grind (arith, nat_tests) in test) in
      let line : Line = line_of at number (record { label = None; statement = parsed_statement }) in
      record {
        line = line;
        earlier = record { at = at.number; outcome = Bytes bytes } ∷ earlier;
        check_is = rw (place_is.names_are, place_is.location_is, checked_as predefined at _ name _ parsed_statement cut is full good) refl;
        last_is = refl;
        place_is = record {
          names_are = place_is.names_are;
          location_is = location_after line before (origin_of at parsed_statement) refl refl
              ∙ (ap (λ here. moved (origin_of at parsed_statement) here (declared_size parsed_statement)) place_is.location_is ∙ there);
          assembled_are =
              rw (
                place_is.assembled_are,
                assemble_here earlier at (place before line) held parsed_statement bytes
                    (ap (λ here. after here 0) place_is.location_is ∙ here_again at) place_is.image_is second free,
              ) refl;
          image_is = ap (λ held. placed held at.number bytes) place_is.image_is;
          entry_is = place_is.entry_is;
        };
      }

  -- an instruction at its place
  pub instr_taken : (found : GplInstr) → InGromOf at → IsTrue (is_valid found) → InstrFits found →
      at.number + length (bytes_of found) ≤ at.grom + 0x2000 → overlaps held at.number (bytes_of found) ≡ false →
      Taken before number (listed (instr_text found at.number)) false (after at (length (bytes_of found)))
      (placed held at.number (bytes_of found))
  unfolding instr_text outcome
  instr_taken found place valid fits within free =
      let n = instr_names found valid in
      let size = size_back found at.number valid in
      subst (λ operands. Taken before number (listed (with_operands (name_of (mnemonic_of found)) operands)) false (after at (length (bytes_of found)))
      (placed held at.number (bytes_of found))) (sym (tokens_are found at.number))
      (taken (name_of (mnemonic_of found)) (shown (tokens_of found at.number)) (Instruction (left_of found at.number))
      (bytes_of found) _ (instr_fit found at.number valid) (shown_some (tokens_of found at.number))
      (rw (n.no_directive, n.reads, skeleton_back (look_up predefined) (address_of at) found at.number valid fits) refl)
      (rw (instruction_back (look_up predefined) at found valid fits place) refl) refl (ap (after at) size) (rw size within)
      free)

  -- a byte at its place
  pub byte_taken : (b : ℕ) → b < 256 → at.number + 1 ≤ at.grom + 0x2000 → overlaps held at.number (b ∷ []) ≡ false →
      Taken before number (listed (codes "BYTE " ++ hex_byte b)) false (after at 1) (placed held at.number (b ∷ []))
  unfolding outcome directive byte_digits
  byte_taken b lt within free =
      let few : nat_le b 0xFF ≡ true = grind (arith, nat_tests) in
      taken (codes "BYTE") (Some (hex_byte b)) (Byte (hex_byte b ∷ [])) (b ∷ []) _
      (number_fit _ _ (omega arith) (omega arith) refl (omega arith) (byte_passes plain_byte b refl refl)) (inr (omega arith))
      (rw (one_text (hex_byte b) (omega arith) (byte_passes whole b refl refl)) refl)
      (rw (byte_value (look_up predefined) (address_of at) b lt, few) refl) refl refl within free

  -- a line that sets a location by a number
  origin_taken : (name : List ℕ) (parsed_statement : Statement) (e : ℕ) (next : Location) → 0 < length name → length name ≤ 6 →
      list_all plain_byte name ≡ true →
      operation_statement (look_up predefined) (address_of at) name (hex_word e) ≡ Ok parsed_statement →
      outcome (look_up predefined) at parsed_statement ≡ Ok (Bytes []) → is_bad None parsed_statement ≡ false →
      moved (origin_of at parsed_statement) at (declared_size parsed_statement) ≡ next → at.number + declared_size parsed_statement ≤ at.grom + 0x2000 →
      Taken before number (listed (name ++ 0x20 ∷ hex_word e)) (is_end parsed_statement) next held
  unfolding word_digits
  origin_taken name parsed_statement e next some short plain is second good there within =
      taken name (Some (hex_word e)) parsed_statement [] next
      (number_fit _ _ some short plain (omega arith) (word_passes plain_byte e refl refl)) (inr (omega arith)) is second good
      there within refl

  -- the line that sets a GROM
  pub grom_taken : (e : ℕ) → e < 65536 → e % 0x2000 ≡ 0 → at.number ≤ at.grom + 0x2000 →
      Taken before number (listed (codes "GROM " ++ hex_word e)) false (record { grom = e; number = e }) held
  unfolding outcome directive word_digits
  grom_taken e lt even within =
      let aligned : (e % GROM_SIZE == 0) ≡ true = grind (arith, nat_tests) in
      origin_taken (codes "GROM") (Grom e) e _ (omega arith) (omega arith) refl
      (rw (one_text (hex_word e) (omega arith) (word_passes whole e refl refl), word_value (look_up predefined) (address_of at) e lt) refl)
      refl (rw aligned refl) (here_again (record { grom = e; number = e })) (omega arith)

  -- the line that sets a place in the GROM
  pub aorg_taken : (e : ℕ) → e < 0x2000 → at.number ≤ at.grom + 0x2000 →
      Taken before number (listed (codes "AORG " ++ hex_word e)) false (record { grom = at.grom; number = at.grom + e }) held
  unfolding outcome directive word_digits
  aorg_taken e lt within =
      let below : nat_lt e GROM_SIZE ≡ true = grind (arith, nat_tests) in
      origin_taken (codes "AORG") (Aorg e) e _ (omega arith) (omega arith) refl
      (rw (one_text (hex_word e) (omega arith) (word_passes whole e refl refl), word_value (look_up predefined) (address_of at) e (omega arith)) refl)
      refl (rw below refl) (here_again (record { grom = at.grom; number = at.grom + e })) (omega arith)

  -- the last line
  pub end_taken : at.number ≤ at.grom + 0x2000 → Taken before number (listed (codes "END")) true (after at 0) held
  unfolding outcome directive
  end_taken within =
      taken (codes "END") None (End None) [] _ (number_fit _ _ (omega arith) (omega arith) refl (omega arith) refl) (inl refl)
      refl refl refl refl (omega arith) refl

-- lines after others that are accepted to the last, with the image of all
pub record Ends (before : List Line) (number : ℕ) (texts : List (List ℕ)) (bytes : Image) : Type 0 where
  pub all : List Line
  pub found : List AssembledLine
  pub layout_is : layout_after check before (numbered number texts) ≡ Ok all
  pub names_are : names all ≡ predefined
  pub assembled_are : assembled_lines (assembled_line predefined) all ≡ Ok found
  pub image_is : image found ≡ bytes
  pub entry_is : entry found ≡ None

pub ends_last : (before : List Line) (number : ℕ) (text : List ℕ) (next : Location) (bytes : Image) →
    Taken before number text true next bytes → Ends before number (text ∷ []) bytes
ends_last before number text next bytes taken = record {
  all = taken.line ∷ before;
  found = taken.earlier;
  layout_is = rw (taken.check_is, taken.last_is) refl;
  names_are = taken.place_is.names_are;
  assembled_are = taken.place_is.assembled_are;
  image_is = taken.place_is.image_is;
  entry_is = taken.place_is.entry_is;
}

second : {A : Type 0} (b : Bool) (x y : A) → b ≡ false → (if b then x else y) ≡ y
second true x y e = absurd (cc)
second false x y e = refl

pub ends_more : (before : List Line) (number : ℕ) (text : List ℕ) (texts : List (List ℕ)) (next : Location)
    (bytes whole : Image)
    (taken : Taken before number text false next bytes) → Ends (taken.line ∷ before) (number + 1) texts whole →
    Ends before number (text ∷ texts) whole
ends_more before number text texts next bytes whole taken ends = record {
  all = ends.all;
  found = ends.found;
  layout_is =
      rw taken.check_is
      (second taken.line.last (Ok (taken.line ∷ before))
      (layout_after check (taken.line ∷ before) (numbered (number + 1) texts)) taken.last_is
      ∙ ends.layout_is);
  names_are = ends.names_are;
  assembled_are = ends.assembled_are;
  image_is = ends.image_is;
  entry_is = ends.entry_is;
}
