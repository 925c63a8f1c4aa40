-- Groups that were written are added again.
use Rattle.std.proofs.Common.{◌≡◌, ℕ, zero, suc, ◌+◌, ◌-◌, ◌%◌, ◌<◌, Bool, true, false, cond, List, [], ◌∷◌, ◌++◌, length, Option, Some, None, Result, Ok, refl}
use Rattle.std.proofs.Common.{sym, ap, ◌∙◌, append_assoc, append-nil, length-append, arith}
use Rattle.std.specs.Prelude.{nat_le}
use Rattle.std.proofs.lemmas.Bool.Decides.{nat_tests}
use Rattle.source_defs.specs.Names.{is_kept_name}
use Rattle.source_defs.specs.Digits.{word_digits}
use Rattle.object_defs.specs.declared.form.TextForm.TheVariants.{Plain}
use Rattle.object_defs.specs.declared.spot.Spot.{Spot}
use Rattle.object_defs.specs.declared.spot.Spot.TheVariants.{Absolute, Relocatable}
use Rattle.object_defs.specs.declared.spot.Piece.{Piece}
use Rattle.object_defs.specs.declared.causes.TagCause.{TagCause}
use Rattle.object_defs.specs.Modules.{Definition, Reference, number_of, moved, even, same_spot, IsAtEvenPlace}
use Rattle.object_defs.specs.Digits.{padded}
use Rattle.object_defs.specs.Tags.{tag_of}
use Rattle.object_defs.specs.Groups.{Group, Entry, Referred, Defined, Address, Word, Whole, found_with, found_at, group_size, ends_line}
use Rattle.object_laws.specs.Running.{OpenModule, more, Kept, with_current, kept_with, kept_groups, groups_after}
use Rattle.object_defs.specs.Writing.{word_text, address_text, definition_text, reference_text, entry_text, Placed, item_text}
use Rattle.object_defs.specs.Laws.{FitsSpot, FitsPiece, FitsDefinition, FitsReference}
use Rattle.object_defs.proofs.FieldsAgain.{number_again, symbol_again, digits_length, kept_length}

-- what the rest of a line leads to, after the characters before it
abbrev pub leads : Kept → List ℕ → List ℕ → Result Kept TagCause
leads kept before rest = kept_groups kept (groups_after Plain before 0 rest)

-- a text adds to a module what another has more than it, whatever line it is in
abbrev pub Adds : OpenModule → List ℕ → OpenModule → Type 0
Adds m text after = (kept : Kept) (before rest : List ℕ) → leads (with_current kept m) before (text ++ rest) ≡ leads (with_current kept after) (before ++ text) rest

-- what a group has after its tag is passed over
left_over : (before : List ℕ) (k : ℕ) (xs rest : List ℕ) → length xs ≡ k → groups_after Plain before k (xs ++ rest) ≡ groups_after Plain (before ++ xs) 0 rest
unfolding groups_after
left_over before zero [] rest e = ap (λ (b : List ℕ). groups_after Plain b 0 rest) (sym (append-nil before))
left_over before (suc k) (x ∷ xs) rest e = left_over (before ++ x ∷ []) k xs rest (omega arith) ∙ ap (λ (b : List ℕ). groups_after Plain b 0 rest) (append_assoc before (x ∷ []) xs)
left_over before _ _ rest e = absurd (omega arith)

-- a group that is whole and is added
pub group_adds : (kept after : Kept) (before : List ℕ) (character : ℕ) (fields rest : List ℕ) (group : Group)
    → found_at Plain before character (fields ++ rest) ≡ Whole character group → ends_line (Whole character group) ≡ false → length fields ≡ group_size Plain group
    → kept_with kept (Whole character group) ≡ Ok after → leads kept before (character ∷ (fields ++ rest)) ≡ leads after (before ++ character ∷ fields) rest
unfolding groups_after kept_groups
group_adds kept after before character fields rest group found goes size adds =
    let rest_is : groups_after Plain (before ++ character ∷ []) (group_size Plain group) (fields ++ rest) ≡ groups_after Plain (before ++ character ∷ fields) 0 rest =
    left_over (before ++ character ∷ []) (group_size Plain group) fields rest size ∙ ap (λ (b : List ℕ). groups_after Plain b 0 rest) (append_assoc before (character ∷ []) fields) in
    rw (found, goes, adds, rest_is) refl

-- ---- words at their places

abbrev pub with_piece : OpenModule → Piece → OpenModule
with_piece m piece = record { found = record m.found { pieces = m.found.pieces ++ piece ∷ [] }; load = moved piece.at 2 }

-- a word at the load address
word_adds : (m : OpenModule) (word : Spot) → FitsSpot word → length m.found.pieces < 32768 → Adds m (word_text word) (with_piece m (record { at = m.load; word = word }))
unfolding found_with more tag_of
word_adds m (Absolute n) fits few kept before rest =
    let room : nat_le 32768 (length m.found.pieces) ≡ false = grind (arith, nat_tests) in
    group_adds _ _ before 0x42 (word_digits n) rest (Word (Absolute n)) (rw (number_again n rest fits) refl) refl (digits_length n) (rw room refl)
word_adds m (Relocatable n) fits few kept before rest =
    let room : nat_le 32768 (length m.found.pieces) ≡ false = grind (arith, nat_tests) in
    group_adds _ _ before 0x43 (word_digits n) rest (Word (Relocatable n)) (rw (number_again n rest fits) refl) refl (digits_length n) (rw room refl)

abbrev with_load : OpenModule → Spot → OpenModule
with_load m at = record { found = m.found; load = at }

even_is : (at : Spot) → FitsSpot at → number_of at % 2 ≡ 0 → moved (even at) 0 ≡ at
even_is (Absolute n) fits evens = let e : (n - n % 2 + 0) % 65536 ≡ n = omega arith in ap Absolute e
even_is (Relocatable n) fits evens = let e : (n - n % 2 + 0) % 65536 ≡ n = omega arith in ap Relocatable e

address_adds : (m : OpenModule) (at : Spot) → FitsSpot at → number_of at % 2 ≡ 0 → Adds m (address_text at) (with_load m at)
unfolding found_with more tag_of
address_adds m (Absolute n) fits evens kept before rest =
    group_adds _ _ before 0x39 (word_digits n) rest (Address (Absolute n)) (rw (number_again n rest fits) refl) refl (digits_length n)
    (ap (λ (at : Spot). Ok (with_current kept (with_load m at))) (even_is (Absolute n) fits evens))
address_adds m (Relocatable n) fits evens kept before rest =
    group_adds _ _ before 0x41 (word_digits n) rest (Address (Relocatable n)) (rw (number_again n rest fits) refl) refl (digits_length n)
    (ap (λ (at : Spot). Ok (with_current kept (with_load m at))) (even_is (Relocatable n) fits evens))

pub adds_both : (m between after : OpenModule) (a b : List ℕ) → Adds m a between → Adds between b after → Adds m (a ++ b) after
adds_both m between after a b p q kept before rest =
    ap (leads (with_current kept m) before) (append_assoc a b rest)
    ∙ (p kept before (b ++ rest) ∙ (q kept (before ++ a) rest ∙ ap (λ (xs : List ℕ). leads (with_current kept after) xs rest) (append_assoc before a b)))

-- a word after its address
addressed_adds : (m : OpenModule) (piece : Piece) → FitsPiece piece → IsAtEvenPlace piece → length m.found.pieces < 32768 → Adds m (address_text piece.at ++ word_text piece.word) (with_piece m piece)
addressed_adds m piece fits evens few =
    adds_both m (with_load m piece.at) (with_piece m piece) (address_text piece.at) (word_text piece.word) (address_adds m piece.at fits.at evens) (word_adds (with_load m piece.at) piece.word fits.word few)

same_is : (a b : Spot) → same_spot a b ≡ true → a ≡ b
same_is (Absolute a) (Absolute b) h = let e : a ≡ b = grind (arith, nat_tests) in ap Absolute e
same_is (Relocatable a) (Relocatable b) h = let e : a ≡ b = grind (arith, nat_tests) in ap Relocatable e
same_is _ _ h = cc

-- a word, with its address where that is not the next
pub piece_adds : (next : Option Spot) (m : OpenModule) (piece : Piece) → ((s : Spot) → next ≡ Some s → m.load ≡ s) → FitsPiece piece → IsAtEvenPlace piece → length m.found.pieces < 32768
    → Adds m (item_text next (Placed piece)) (with_piece m piece)
piece_adds None m piece at fits evens few = addressed_adds m piece fits evens few
piece_adds (Some s) m piece at fits evens few = by (same_spot s piece.at) refl
  where
    by : (b : Bool) → same_spot s piece.at ≡ b → Adds m (cond b (word_text piece.word) (address_text piece.at ++ word_text piece.word)) (with_piece m piece)
    by true e =
        let here : m.load ≡ piece.at = at s refl ∙ same_is s piece.at e in
        λ kept before rest. word_adds m piece.word fits.word few kept before rest
        ∙ ap (λ (a : Spot). leads (with_current kept (with_piece m (record { at = a; word = piece.word }))) (before ++ word_text piece.word) rest) here
    by false e = addressed_adds m piece fits evens few

-- ---- names and the entry

abbrev pub with_def : OpenModule → Definition → OpenModule
with_def m definition = record m { found = record m.found { defs = m.found.defs ++ definition ∷ [] } }

abbrev pub with_ref : OpenModule → Reference → OpenModule
with_ref m reference = record m { found = record m.found { refs = m.found.refs ++ reference ∷ [] } }

abbrev pub with_entry_at : OpenModule → Spot → OpenModule
with_entry_at m entry = record m { found = record m.found { entry = Some entry } }

named_length : (n : ℕ) (name : List ℕ) → is_kept_name name ≡ true → length (word_digits n ++ padded 6 name) ≡ 10
named_length n name h = omega (arith, length-append (word_digits n) (padded 6 name), digits_length n, kept_length name h)

pub definition_adds : (m : OpenModule) (definition : Definition) → FitsDefinition definition → length m.found.defs < 256 → Adds m (definition_text definition) (with_def m definition)
unfolding found_with more tag_of
definition_adds m definition fits few kept before rest = by definition.value fits.value
  where
    room : nat_le 256 (length m.found.defs) ≡ false
    room = grind (arith, nat_tests)

    by : (value : Spot) → FitsSpot value
        → leads (with_current kept m) before (definition_text (record { name = definition.name; value = value }) ++ rest)
        ≡ leads (with_current kept (with_def m (record { name = definition.name; value = value }))) (before ++ definition_text (record { name = definition.name; value = value })) rest
    by (Absolute n) lt =
        let whole = append_assoc (word_digits n) (padded 6 definition.name) rest in
        group_adds _ _ before 0x36 (word_digits n ++ padded 6 definition.name) rest (Defined (record { name = definition.name; value = Absolute n }))
        (rw (whole, number_again n (padded 6 definition.name ++ rest) lt, symbol_again 0x36 n definition.name rest fits.name) refl) refl (named_length n definition.name fits.name) (rw room refl)
    by (Relocatable n) lt =
        let whole = append_assoc (word_digits n) (padded 6 definition.name) rest in
        group_adds _ _ before 0x35 (word_digits n ++ padded 6 definition.name) rest (Defined (record { name = definition.name; value = Relocatable n }))
        (rw (whole, number_again n (padded 6 definition.name ++ rest) lt, symbol_again 0x35 n definition.name rest fits.name) refl) refl (named_length n definition.name fits.name) (rw room refl)

pub reference_adds : (m : OpenModule) (reference : Reference) → FitsReference reference → length m.found.refs < 256 → Adds m (reference_text reference) (with_ref m reference)
unfolding found_with more tag_of
reference_adds m reference fits few kept before rest = by reference.last fits.last
  where
    room : nat_le 256 (length m.found.refs) ≡ false
    room = grind (arith, nat_tests)

    by : (last : Spot) → FitsSpot last
        → leads (with_current kept m) before (reference_text (record { name = reference.name; last = last }) ++ rest)
        ≡ leads (with_current kept (with_ref m (record { name = reference.name; last = last }))) (before ++ reference_text (record { name = reference.name; last = last })) rest
    by (Absolute n) lt =
        let whole = append_assoc (word_digits n) (padded 6 reference.name) rest in
        group_adds _ _ before 0x34 (word_digits n ++ padded 6 reference.name) rest (Referred (record { name = reference.name; last = Absolute n }))
        (rw (whole, number_again n (padded 6 reference.name ++ rest) lt, symbol_again 0x34 n reference.name rest fits.name) refl) refl (named_length n reference.name fits.name) (rw room refl)
    by (Relocatable n) lt =
        let whole = append_assoc (word_digits n) (padded 6 reference.name) rest in
        group_adds _ _ before 0x33 (word_digits n ++ padded 6 reference.name) rest (Referred (record { name = reference.name; last = Relocatable n }))
        (rw (whole, number_again n (padded 6 reference.name ++ rest) lt, symbol_again 0x33 n reference.name rest fits.name) refl) refl (named_length n reference.name fits.name) (rw room refl)

pub entry_adds : (m : OpenModule) (entry : Spot) → FitsSpot entry → m.found.entry ≡ None → Adds m (entry_text entry) (with_entry_at m entry)
unfolding found_with more tag_of
entry_adds m (Absolute n) fits none kept before rest =
    group_adds _ _ before 0x31 (word_digits n) rest (Entry (Absolute n)) (rw (number_again n rest fits) refl) refl (digits_length n) (rw none refl)
entry_adds m (Relocatable n) fits none kept before rest =
    group_adds _ _ before 0x32 (word_digits n) rest (Entry (Relocatable n)) (rw (number_again n rest fits) refl) refl (digits_length n) (rw none refl)
