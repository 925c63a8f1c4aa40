-- The written text of a module reads as that module alone.
use Rattle.std.proofs.Common.{◌≡◌, ℕ, ◌+◌, ◌-◌, ◌/◌, ◌%◌, ◌<◌, ◌≤◌, Bool, true, false, cond, eqb, List, [], ◌∷◌, ◌++◌, length, replicate, Option, Some, None}
use Rattle.std.proofs.Math.Bool.{and-false}
use Rattle.std.proofs.lemmas.Bool.{or_right}
use Rattle.std.proofs.Common.{Ok, refl, sym, ap, ◌∙◌, subst, append_assoc, append-nil, length-append, eq-eqb, arith}
use Rattle.std.specs.Prelude.{map, sum, nat_le}
use Rattle.std.specs.List.{AllByRecursion, concat}
use Rattle.std.proofs.lemmas.Bool.Decides.{nat_tests}
use Rattle.source_defs.specs.Characters.{is_blank, is_line_feed}
use Rattle.source_defs.specs.Lines.{lines}
use Rattle.source_defs.proofs.LineSteps.{lines_from_end}
use Rattle.object_defs.specs.declared.form.TextForm.TheVariants.{Plain}
use Rattle.object_defs.specs.declared.spot.Spot.{Spot}
use Rattle.object_defs.specs.declared.spot.Piece.{Piece}
use Rattle.object_defs.specs.declared.tag.Tag.TheVariants as tags
use Rattle.object_defs.specs.Modules.{Module, Definition, Reference, HasText, IsAtEvenPlace, moved, all_name_characters}
use Rattle.source_defs.specs.Digits.{word_digits}
use Rattle.object_defs.specs.Digits.{four_digits, padded, checksum}
use Rattle.object_defs.specs.Tags.{tag_of}
use Rattle.object_defs.specs.Writing.{group, header_text, definition_text, reference_text, Item, Group, Placed, items_of, entry_items, Line, empty_line}
use Rattle.object_defs.specs.Writing.{item_text, next_after, with_item, summed, numbered, line_text, last_line_text, number_after, lines_from, written}
use Rattle.object_defs.specs.Fields.{all_blank}
use Rattle.object_defs.specs.Groups.{Header, Sum, Whole, found_with, found_at}
use Rattle.object_defs.specs.Reading.{NumberedLine, numbered_line, has_line_feed, form_of}
use Rattle.object_laws.specs.Running.{OpenModule, opened, begun, more, Kept, nothing_kept, with_current, kept_groups, groups_after, kept_line, kept_lines}
use Rattle.object_defs.specs.Laws.{FitsSpot, FitsPiece, FitsDefinition, FitsReference, IsModule, WrittenModulesAreRead}
use Rattle.object_defs.proofs.FieldsAgain.{number_again, module_name_again, digits_length}
use Rattle.object_laws.proofs.AddedGroups.{leads, Adds, group_adds, with_piece, piece_adds, with_def, definition_adds, with_ref, reference_adds, with_entry_at}
use Rattle.object_laws.proofs.AddedGroups.{entry_adds}
use Rattle.object_defs.proofs.FirstLine.{left_lines, first_line}
use Rattle.object_defs.proofs.Characters.{after_each_other, decimal_number_prints, padded_prints, summed_prints, piece_prints, definition_prints}
use Rattle.object_defs.proofs.Characters.{reference_prints, entry_prints, header_prints, name_padded, name_length}
use Rattle.object_laws.proofs.ReaderRuns.{read_is}

-- ---- a line up to its line feed

abbrev first_digits : ℕ → List ℕ
first_digits number = (0x30 + number / 1000 % 10) ∷ (0x30 + number / 100 % 10) ∷ (0x30 + number / 10 % 10) ∷ []

abbrev last_digit : ℕ → ℕ
last_digit number = 0x30 + number % 10

abbrev body_of : ℕ → List ℕ → List ℕ
body_of number text = (padded 76 text ++ first_digits number) ++ last_digit number ∷ []

decimal_is : (number : ℕ) (rest : List ℕ) → four_digits number ++ rest ≡ first_digits number ++ (last_digit number ∷ rest)
unfolding four_digits
decimal_is number rest = refl

numbered_is : (number : ℕ) (text more : List ℕ) → numbered number text ++ more ≡ body_of number text ++ 10 ∷ more
numbered_is number text more =
    let left : numbered number text ++ more ≡ padded 76 text ++ (first_digits number ++ (last_digit number ∷ 10 ∷ more)) =
    append_assoc (padded 76 text) (four_digits number ++ 10 ∷ []) more
    ∙ ap (λ (xs : List ℕ). padded 76 text ++ xs) (append_assoc (four_digits number) (10 ∷ []) more ∙ decimal_is number (10 ∷ more)) in
    let right : body_of number text ++ 10 ∷ more ≡ padded 76 text ++ (first_digits number ++ (last_digit number ∷ 10 ∷ more)) =
    append_assoc (padded 76 text ++ first_digits number) (last_digit number ∷ []) (10 ∷ more)
    ∙ append_assoc (padded 76 text) (first_digits number) (last_digit number ∷ 10 ∷ more) in
    left ∙ sym right

body_prints : (number : ℕ) (text : List ℕ) → all_name_characters text ≡ true → all_name_characters (body_of number text) ≡ true
body_prints number text h =
    let digits : all_name_characters (first_digits number ++ last_digit number ∷ []) ≡ true = ap all_name_characters (sym (decimal_is number []) ∙ append-nil (four_digits number)) ∙ decimal_number_prints number in
    ap all_name_characters (append_assoc (padded 76 text) (first_digits number) (last_digit number ∷ []))
    ∙ after_each_other (padded 76 text) (first_digits number ++ last_digit number ∷ []) (padded_prints 76 text h) digits

-- the first line of what is left of a text
line_step : (text front t more : List ℕ) (number n : ℕ) → all_name_characters t ≡ true → text ≡ front ++ (numbered number t ++ more)
    → left_lines text n (length front) ≡ record { number = n; text = body_of number t } ∷ left_lines text (n + 1) (length (front ++ numbered number t))
line_step text front t more number n h is =
    let whole : text ≡ front ++ (body_of number t ++ 10 ∷ more) = is ∙ ap (λ (xs : List ℕ). front ++ xs) (numbered_is number t more) in
    let line : numbered number t ≡ body_of number t ++ 10 ∷ [] = sym (append-nil (numbered number t)) ∙ numbered_is number t [] in
    let step = first_line front (padded 76 t ++ first_digits number) more (last_digit number) n (body_prints number t h) in
    subst (λ (xs : List ℕ). left_lines text n (length front) ≡ record { number = n; text = body_of number t } ∷ left_lines text (n + 1) (length (front ++ xs))) (sym line)
    (subst (λ (xs : List ℕ). left_lines xs n (length front) ≡ record { number = n; text = body_of number t } ∷ left_lines xs (n + 1) (length (front ++ (body_of number t ++ 10 ∷ [])))) (sym whole) step)

after_line : (text front line more : List ℕ) → text ≡ front ++ (line ++ more) → text ≡ (front ++ line) ++ more
after_line text front line more is = is ∙ sym (append_assoc front line more)

-- ---- the end of a line of groups

abbrev line_end : List ℕ → List ℕ → List ℕ
line_end text pad = 0x37 ∷ (word_digits (checksum (text ++ 0x37 ∷ [])) ++ 0x46 ∷ pad)

checksum-lt : (bytes : List ℕ) → checksum bytes < 65536
unfolding checksum
checksum-lt bytes = omega arith

regroup : (a b c d e : List ℕ) → (((a ++ b) ++ c) ++ d) ++ e ≡ a ++ (b ++ (c ++ (d ++ e)))
regroup a b c d e = simp append_assoc

-- what comes after the groups of a line
body_ends : (number : ℕ) (text : List ℕ) → (pad : List ℕ) × (body_of number (summed text) ≡ text ++ line_end text pad)
body_ends number text =
    let blanks : List ℕ = replicate (76 - length (summed text)) 0x20 in
    let sum : List ℕ = group tags.Sum (checksum (text ++ 0x37 ∷ [])) in
    let pad : List ℕ = blanks ++ (first_digits number ++ last_digit number ∷ []) in
    (pad, regroup text (sum ++ 0x46 ∷ []) blanks (first_digits number) (last_digit number ∷ []) ∙ ap (λ (xs : List ℕ). text ++ xs) (append_assoc sum (0x46 ∷ []) pad))

line_ends : (before pad : List ℕ) (kept : Kept) (m : OpenModule) → leads (with_current kept m) before (0x46 ∷ pad) ≡ Ok (with_current kept m)
unfolding groups_after kept_groups found_with more tag_of
line_ends before pad kept m = refl

-- the checksum of the line agrees, and the line ends
sum_read : (text pad : List ℕ) (kept : Kept) (m : OpenModule) → leads (with_current kept m) text (line_end text pad) ≡ Ok (with_current kept m)
unfolding found_with more tag_of
sum_read text pad kept m =
    let c = checksum (text ++ 0x37 ∷ []) in
    let same : eqb c c ≡ true = eq-eqb c c refl in
    let found : found_at Plain text 0x37 (word_digits c ++ 0x46 ∷ pad) ≡ Whole 0x37 Sum = rw (number_again c (0x46 ∷ pad) (checksum-lt (text ++ 0x37 ∷ [])), same) refl in
    group_adds (with_current kept m) (with_current kept m) text 0x37 (word_digits c) (0x46 ∷ pad) Sum found refl (digits_length c) refl ∙ line_ends (text ++ 0x37 ∷ word_digits c) pad kept m

-- ---- a line of groups

abbrev start : List Module → Option OpenModule → ℕ → Kept
start modules current last = record { modules = modules; current = current; last = last }

-- the groups of a line so far lead to a module
record InLine (modules : List Module) (current : Option OpenModule) (line : Line) (m : OpenModule) : Type 0 where
  goes : (last : ℕ) (rest : List ℕ) → leads (start modules current last) [] (line.text ++ rest) ≡ leads (start modules (Some m) last) line.text rest
  prints : all_name_characters line.text ≡ true
  next : (s : Spot) → line.next ≡ Some s → m.load ≡ s

some_other : (text rest : List ℕ) → all_blank (text ++ 0x37 ∷ rest) ≡ false
some_other [] rest = refl
some_other (c ∷ text) rest = rw (some_other text rest) (and-false (is_blank c))

line_done : (kept : Kept) (line : Line) (m : OpenModule) (n number : ℕ) → InLine kept.modules kept.current line m
    → kept_line Plain kept (record { number = n; text = body_of number (summed line.text) }) ≡ Ok (start kept.modules (Some m) n)
unfolding kept_line
line_done kept line m n number in_line =
    let ends = body_ends number line.text in
    let other : all_blank (line.text ++ line_end line.text ends.0) ≡ false = some_other line.text (word_digits (checksum (line.text ++ 0x37 ∷ [])) ++ 0x46 ∷ ends.0) in
    let whole : leads (start kept.modules kept.current n) [] (line.text ++ line_end line.text ends.0) ≡ Ok (start kept.modules (Some m) n) =
    in_line.goes n (line_end line.text ends.0) ∙ sum_read line.text ends.0 (start kept.modules (Some m) n) m in
    rw (ends.1, other, whole) refl

-- the line that ends a module
colon_done : (modules : List Module) (m : OpenModule) (last n number : ℕ)
    → kept_line Plain (start modules (Some m) last) (record { number = n; text = body_of number (0x3A ∷ []) }) ≡ Ok (start (modules ++ m.found ∷ []) None n)
unfolding kept_line groups_after kept_groups found_with more tag_of
colon_done modules m last n number = refl

-- ---- items

-- a group adds to a module, and leaves its load address
record GroupTakes (m : OpenModule) (text : List ℕ) (after : OpenModule) : Type 0 where
  adds : Adds m text after
  load : after.load ≡ m.load
  prints : all_name_characters text ≡ true

record PieceTakes (m : OpenModule) (piece : Piece) (after : OpenModule) : Type 0 where
  is : after ≡ with_piece m piece
  fits : FitsPiece piece
  evens : IsAtEvenPlace piece
  few : length m.found.pieces < 32768

abbrev Takes : OpenModule → Item → OpenModule → Type 0
Takes m (Group text) after = GroupTakes m text after
Takes m (Placed piece) after = PieceTakes m piece after

-- the items lead from a module to another
abbrev Run : OpenModule → List Item → OpenModule → Type 0
Run m [] end = m ≡ end
Run m (item ∷ items) end = (after : OpenModule) × Takes m item after × Run after items end

goes_after : (modules : List Module) (current : Option OpenModule) (line : Line) (m after : OpenModule) (text : List ℕ) → InLine modules current line m → Adds m text after
    → (last : ℕ) (rest : List ℕ) → leads (start modules current last) [] ((line.text ++ text) ++ rest) ≡ leads (start modules (Some after) last) (line.text ++ text) rest
goes_after modules current line m after text in_line adds last rest =
    ap (leads (start modules current last) []) (append_assoc line.text text rest)
    ∙ (in_line.goes last (text ++ rest) ∙ adds (start modules (Some m) last) line.text rest)

in_line_with : (modules : List Module) (current : Option OpenModule) (line : Line) (m : OpenModule) (item : Item) (after : OpenModule)
    → InLine modules current line m → Takes m item after → InLine modules current (with_item line item) after
in_line_with modules current line m (Group text) after in_line takes = record {
  goes = goes_after modules current line m after text in_line takes.adds;
  prints = after_each_other line.text text in_line.prints takes.prints;
  next = λ s e. takes.load ∙ in_line.next s e;
}
in_line_with modules current line m (Placed piece) after in_line takes = record {
  goes = goes_after modules current line m after (item_text line.next (Placed piece)) in_line
      (subst (λ (b : OpenModule). Adds m (item_text line.next (Placed piece)) b) (sym takes.is) (piece_adds line.next m piece in_line.next takes.fits takes.evens takes.few));
  prints = after_each_other line.text (item_text line.next (Placed piece)) in_line.prints (piece_prints line.next piece);
  next = λ s e. ap (λ (b : OpenModule). b.load) takes.is ∙ some_is (moved piece.at 2) s e;
}
  where
    some_is : (a b : Spot) → Some a ≡ Some b → a ≡ b
    some_is a b e = cc

new_line : (modules : List Module) (m : OpenModule) → InLine modules (Some m) empty_line m
new_line modules m = record { goes = λ last rest. refl; prints = refl; next = λ s e. cc }

-- ---- the lines of a module

lines_end : (text : List ℕ) (n at : ℕ) → at ≡ length text → left_lines text n at ≡ []
lines_end text n at e = ap (map (numbered_line text)) (lines_from_end text n at e)

read_one : (kept after : Kept) (line : NumberedLine) (lines : List NumberedLine) → kept_line Plain kept line ≡ Ok after → kept_lines Plain kept (line ∷ lines) ≡ kept_lines Plain after lines
unfolding kept_lines
read_one kept after line lines e = rw e refl

read_none : (modules : List Module) (last : ℕ) → kept_lines Plain (start modules None last) [] ≡ Ok modules
unfolding kept_lines
read_none modules last = refl

-- the last line of groups, and the line that ends the module
read_end : (kept : Kept) (line : Line) (m : OpenModule) (number n : ℕ) (front text : List ℕ) → text ≡ front ++ (line_text number line.text ++ (last_line_text (number_after number) ++ []))
    → InLine kept.modules kept.current line m → kept_lines Plain kept (left_lines text n (length front)) ≡ Ok (kept.modules ++ m.found ∷ [])
read_end kept line m number n front text is in_line =
    let next = number_after number in
    let first = line_step text front (summed line.text) (last_line_text next ++ []) number n (summed_prints line.text in_line.prints) is in
    let rest_is : text ≡ (front ++ line_text number line.text) ++ (last_line_text next ++ []) = after_line text front (line_text number line.text) (last_line_text next ++ []) is in
    let second = line_step text (front ++ line_text number line.text) (0x3A ∷ []) [] next (n + 1) refl rest_is in
    let all : text ≡ (front ++ line_text number line.text) ++ last_line_text next = rest_is ∙ ap (λ (xs : List ℕ). (front ++ line_text number line.text) ++ xs) (append-nil (last_line_text next)) in
    let third = lines_end text (n + 1 + 1) (length ((front ++ line_text number line.text) ++ last_line_text next)) (ap length (sym all)) in
    let groups : Kept = start kept.modules (Some m) n in
    let ended : Kept = start (kept.modules ++ m.found ∷ []) None (n + 1) in
    ap (kept_lines Plain kept) first
    ∙ (read_one kept groups _ _ (line_done kept line m n number in_line)
    ∙ (ap (kept_lines Plain groups) second
    ∙ (read_one groups ended _ _ (colon_done kept.modules m n (n + 1) next)
    ∙ (ap (kept_lines Plain ended) third ∙ read_none (kept.modules ++ m.found ∷ []) (n + 1)))))

-- the text from a line that is begun on
abbrev written_from : ℕ → Line → List Item → List ℕ
written_from number line items = concat (lines_from number line items)

read_lines : (items : List Item) (kept : Kept) (line : Line) (m end : OpenModule) (number n : ℕ) (front text : List ℕ) → text ≡ front ++ written_from number line items
    → InLine kept.modules kept.current line m → Run m items end → kept_lines Plain kept (left_lines text n (length front)) ≡ Ok (kept.modules ++ end.found ∷ [])
unfolding lines_from
read_lines [] kept line m end number n front text is in_line run =
    read_end kept line m number n front text is in_line ∙ ap (λ (b : OpenModule). Ok (kept.modules ++ b.found ∷ [])) run
read_lines (item ∷ items) kept line m end number n front text is in_line run =
    by (nat_le (length line.text + length (item_text line.next item)) 70)
    (λ kept' line' m' number' n' front' is' in_line' run'. read_lines items kept' line' m' end number' n' front' text is' in_line' run') is
  where
    by : (b : Bool)
        → ((kept' : Kept) (line' : Line) (m' : OpenModule) (number' n' : ℕ) (front' : List ℕ) → text ≡ front' ++ written_from number' line' items
        → InLine kept'.modules kept'.current line' m' → Run m' items end → kept_lines Plain kept' (left_lines text n' (length front')) ≡ Ok (kept'.modules ++ end.found ∷ []))
        → text ≡ front ++ concat (cond b (lines_from number (with_item line item) items) (line_text number line.text ∷ lines_from (number_after number) (with_item empty_line item) items))
        → kept_lines Plain kept (left_lines text n (length front)) ≡ Ok (kept.modules ++ end.found ∷ [])
    by true again e = again kept (with_item line item) run.0 number n front e (in_line_with kept.modules kept.current line m item run.0 in_line run.1) run.2
    by false again e =
        let rest : List ℕ = written_from (number_after number) (with_item empty_line item) items in
        let groups : Kept = start kept.modules (Some m) n in
        ap (kept_lines Plain kept) (line_step text front (summed line.text) rest number n (summed_prints line.text in_line.prints) e)
        ∙ (read_one kept groups _ _ (line_done kept line m n number in_line)
        ∙ again groups (with_item empty_line item) run.0 (number_after number) (n + 1) (front ++ line_text number line.text) (after_line text front (line_text number line.text) rest e)
        (in_line_with kept.modules (Some m) empty_line m item run.0 (new_line kept.modules m) run.1) run.2)

-- ---- the items of a module

abbrev load_after : Spot → List Piece → Spot
load_after load [] = load
load_after load (piece ∷ pieces) = load_after (moved piece.at 2) pieces

abbrev with_pieces : OpenModule → List Piece → OpenModule
with_pieces m pieces = record { found = record m.found { pieces = m.found.pieces ++ pieces }; load = load_after m.load pieces }

abbrev with_defs : OpenModule → List Definition → OpenModule
with_defs m defs = record m { found = record m.found { defs = m.found.defs ++ defs } }

abbrev with_refs : OpenModule → List Reference → OpenModule
with_refs m refs = record m { found = record m.found { refs = m.found.refs ++ refs } }

abbrev with_entry_of : OpenModule → Option Spot → OpenModule
with_entry_of m entry = record m { found = record m.found { entry = entry } }

run_pieces : (pieces : List Piece) (rest : List Item) (m end : OpenModule) → AllByRecursion FitsPiece pieces → AllByRecursion IsAtEvenPlace pieces → length m.found.pieces + length pieces ≤ 32768
    → Run (with_pieces m pieces) rest end → Run m (map Placed pieces ++ rest) end
run_pieces [] rest m end fits evens few run = rw append-nil at run
run_pieces (piece ∷ pieces) rest m end fits evens few run = (
  with_piece m piece,
  record { is = refl; fits = fits.0; evens = evens.0; few = omega arith },
  run_pieces pieces rest (with_piece m piece) end fits.1 evens.1 (omega (arith, length-append m.found.pieces (piece ∷ [])))
      (rw (append_assoc m.found.pieces (piece ∷ []) pieces) run),
)

run_defs : (defs : List Definition) (rest : List Item) (m end : OpenModule) → AllByRecursion FitsDefinition defs → length m.found.defs + length defs ≤ 256
    → Run (with_defs m defs) rest end → Run m (map (λ definition. Group (definition_text definition)) defs ++ rest) end
run_defs [] rest m end fits few run = rw append-nil at run
run_defs (definition ∷ defs) rest m end fits few run = (
  with_def m definition,
  record { adds = definition_adds m definition fits.0 (omega arith); load = refl; prints = definition_prints definition fits.0.name },
  run_defs defs rest (with_def m definition) end fits.1 (omega (arith, length-append m.found.defs (definition ∷ [])))
      (rw (append_assoc m.found.defs (definition ∷ []) defs) run),
)

run_refs : (refs : List Reference) (rest : List Item) (m end : OpenModule) → AllByRecursion FitsReference refs → length m.found.refs + length refs ≤ 256
    → Run (with_refs m refs) rest end → Run m (map (λ reference. Group (reference_text reference)) refs ++ rest) end
run_refs [] rest m end fits few run = rw append-nil at run
run_refs (reference ∷ refs) rest m end fits few run = (
  with_ref m reference,
  record { adds = reference_adds m reference fits.0 (omega arith); load = refl; prints = reference_prints reference fits.0.name },
  run_refs refs rest (with_ref m reference) end fits.1 (omega (arith, length-append m.found.refs (reference ∷ [])))
      (rw (append_assoc m.found.refs (reference ∷ []) refs) run),
)

run_entry : (entry : Option Spot) (m : OpenModule) → Rattle.std.specs.Prelude.IfSome entry FitsSpot → m.found.entry ≡ None → Run m (entry_items entry) (with_entry_of m entry)
run_entry None m fits none = ap (with_entry_of m) none
run_entry (Some entry) m fits none = (with_entry_at m entry, record { adds = entry_adds m entry fits none; load = refl; prints = entry_prints entry }, refl)

-- ---- the law

-- the module that a header opens
abbrev header_of : Module → OpenModule
header_of m = opened m.size m.name

header_length : (m : Module) → IsModule m → length (header_text m.size m.name) ≡ 13
header_length m is =
    let named : padded 8 m.name ≡ m.name = name_padded m.name is.name in
    length-append (group tags.Header m.size) (padded 8 m.name) ∙ (rw named (omega (arith, digits_length m.size, name_length m.name is.name)))

header_goes : (m : Module) → IsModule m → (last : ℕ) (rest : List ℕ)
    → leads (start [] None last) [] (header_text m.size m.name ++ rest) ≡ leads (start [] (Some (header_of m)) last) (header_text m.size m.name) rest
unfolding found_with begun tag_of
header_goes m is last rest =
    let named : padded 8 m.name ≡ m.name = name_padded m.name is.name in
    let size : length (word_digits m.size ++ padded 8 m.name) ≡ 12 = length-append (word_digits m.size) (padded 8 m.name) ∙ (rw named (omega (arith, digits_length m.size, name_length m.name is.name))) in
    let whole = append_assoc (word_digits m.size) m.name rest in
    let found : found_at Plain [] 0x30 ((word_digits m.size ++ padded 8 m.name) ++ rest) ≡ Whole 0x30 (Header m.size m.name) =
    rw (named, whole, number_again m.size (m.name ++ rest) is.size, module_name_again 0x30 m.size m.name rest is.name) refl in
    group_adds (start [] None last) (start [] (Some (header_of m)) last) [] 0x30 (word_digits m.size ++ padded 8 m.name) rest (Header m.size m.name) found refl size refl

header_in_line : (m : Module) → IsModule m → InLine [] None (with_item empty_line (Group (header_text m.size m.name))) (header_of m)
header_in_line m is = record { goes = header_goes m is; prints = header_prints m.size m.name is.name; next = λ s e. cc }

-- the items after the header
abbrev items_after : Module → List Item
items_after m =
    map Placed m.pieces ++ (map (λ definition. Group (definition_text definition)) m.defs
    ++ (map (λ reference. Group (reference_text reference)) m.refs ++ entry_items m.entry))

-- what they lead to
abbrev whole_of : Module → OpenModule
whole_of m = with_entry_of (with_refs (with_defs (with_pieces (header_of m) m.pieces) m.defs) m.refs) m.entry

module _ (m : Module) (is : IsModule m) (has : HasText m) where
  abbrev after_pieces : OpenModule
  after_pieces = with_pieces (header_of m) m.pieces

  abbrev after_defs : OpenModule
  after_defs = with_defs after_pieces m.defs

  abbrev after_refs : OpenModule
  after_refs = with_refs after_defs m.refs

  runs : Run (header_of m) (items_after m) (whole_of m)
  runs =
      run_pieces m.pieces _ (header_of m) (whole_of m) is.pieces has.even_places (omega (arith, has.words))
      (run_defs m.defs _ after_pieces (whole_of m) is.defs (omega (arith, has.defs))
      (run_refs m.refs _ after_defs (whole_of m) is.refs (omega (arith, has.refs))
      (run_entry m.entry after_refs is.entry refl)))

  begins : written m ≡ written_from 1 (with_item empty_line (Group (header_text m.size m.name))) (items_after m)
  unfolding lines_from
  begins =
      let fits : nat_le (0 + length (header_text m.size m.name)) 70 ≡ true = let n = header_length m is in grind (arith, nat_tests) in
      rw fits refl

  read_whole : kept_lines Plain nothing_kept (left_lines (written m) 1 0) ≡ Ok (m ∷ [])
  read_whole =
      read_lines (items_after m) nothing_kept (with_item empty_line (Group (header_text m.size m.name))) (header_of m) (whole_of m) 1 1 [] (written m) begins (header_in_line m is) runs

-- ---- the text is plain

plain_from : (items : List Item) (number : ℕ) (text : List ℕ) (next : Option Spot) → form_of (written_from number (record { text = 0x30 ∷ text; next = next }) items) ≡ Plain
unfolding lines_from
plain_from [] number text next = refl
plain_from (item ∷ items) number text next =
    by (nat_le (length (0x30 ∷ text) + length (item_text next item)) 70) (plain_from items number (text ++ item_text next item) (next_after next item))
  where
    by : (b : Bool) → form_of (written_from number (with_item (record { text = 0x30 ∷ text; next = next }) item) items) ≡ Plain
        → form_of (concat (cond b (lines_from number (with_item (record { text = 0x30 ∷ text; next = next }) item) items) (line_text number (0x30 ∷ text) ∷ lines_from (number_after number) (with_item empty_line item) items))) ≡ Plain
    by true here = here
    by false here = refl

plain_written : (m : Module) → IsModule m → HasText m → form_of (written m) ≡ Plain
plain_written m is has = ap form_of (begins m is has) ∙ plain_from (items_after m) 1 (word_digits m.size ++ padded 8 m.name) None

-- ---- the text is no records

feed_at_right : (a b : List ℕ) → has_line_feed b ≡ true → has_line_feed (a ++ b) ≡ true
feed_at_right [] b h = h
feed_at_right (c ∷ a) b h = rw (feed_at_right a b h) (or_right (is_line_feed c) true refl)

feed_written : (items : List Item) (line : Line) (number : ℕ) → has_line_feed (written_from number line items) ≡ true
unfolding lines_from
feed_written [] line number =
    feed_at_right (line_text number line.text) (last_line_text (number_after number) ++ [])
    (ap has_line_feed (append-nil (last_line_text (number_after number)))
    ∙ feed_at_right (padded 76 (0x3A ∷ [])) (four_digits (number_after number) ++ 0x0A ∷ []) (feed_at_right (four_digits (number_after number)) (0x0A ∷ []) refl))
feed_written (item ∷ items) line number =
    by (nat_le (length line.text + length (item_text line.next item)) 70) (feed_written items (with_item line item) number) (feed_written items (with_item empty_line item) (number_after number))
  where
    by : (b : Bool) → has_line_feed (written_from number (with_item line item) items) ≡ true → has_line_feed (written_from (number_after number) (with_item empty_line item) items) ≡ true
        → has_line_feed (concat (cond b (lines_from number (with_item line item) items) (line_text number line.text ∷ lines_from (number_after number) (with_item empty_line item) items))) ≡ true
    by true here there = here
    by false here there = feed_at_right (line_text number line.text) (written_from (number_after number) (with_item empty_line item) items) there

pub written_modules_are_read : WrittenModulesAreRead
written_modules_are_read m is has =
    let feed : has_line_feed (written m) ≡ true = feed_written (items_of m) empty_line 1 in
    read_is (written m) ∙ rw (plain_written m is has, feed) (read_whole m is has)
