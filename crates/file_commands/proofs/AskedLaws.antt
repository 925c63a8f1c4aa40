-- What follows from the answers of a shelf that `link` asked.
use Rattle.std.proofs.Common.{◌≡◌, ℕ, ◌+◌, ◌-◌, Bool, true, false, List, [], ◌∷◌, length, Some, None, Ok, Err}
use Rattle.std.proofs.Common.{sym, ap, ◌∙◌}
use Rattle.std.specs.Prelude.{Option, map, nat_lt, if◌then◌else◌}
use Rattle.std.proofs.lemmas.List.{length-map}
use Rattle.source_defs.specs.Refusals.{◌>>=◌}
use Rattle.asm_defs.proofs.CheckLaws.{bound}
use Rattle.shelf_defs.specs.Files.{Contents}
use Rattle.bench_shelf.specs.States.{ShelfState}
use Rattle.bench_shelf.proofs.AskedLaws.{some_contents}
use Rattle.report_defs.specs.Report.{largest_input}
use Rattle.report_defs.specs.LinkedFiles.{TooLarge, taken_file, read_by}
use Rattle.file_commands.specs.Reading.{Reads}

abbrev Text : Type 0
Text = List ℕ × List ℕ

name_read : (name : List ℕ) (content : Option (List ℕ)) (text : Text) → taken_file name content ≡ Ok text → text.0 ≡ name
name_read name None text e = absurd cc
name_read name (Some bytes) text e = by (nat_lt largest_input (length bytes)) e
  where
    by : (large : Bool) → (if large then Err TooLarge else Ok (name, bytes)) ≡ Ok text → text.0 ≡ name
    by true e = absurd cc
    by false e = let same : (name, bytes) ≡ text = cc e in sym (ap (λ (text : Text). text.0) same)

pub names_read : (contents : Contents) (number : ℕ) (names : List (List ℕ)) (texts : List Text) → read_by contents number names ≡ Ok texts
    → map (λ text. text.0) texts ≡ names
names_read contents number [] texts e = let none : [] ≡ texts = cc e in ap (map (λ (text : Text). text.0)) (sym none)
names_read contents number (name ∷ names) texts e =
    let a = bound (taken_file name (contents number name)) (λ (first : Text). read_by contents (number + 1) names >>= λ others. Ok (first ∷ others)) texts e in
    let b = bound (read_by contents (number + 1) names) (λ (others : List Text). Ok (a.0 ∷ others)) texts a.2 in
    let is : a.0 ∷ b.0 ≡ texts = cc b.2 in
    let first : a.0.0 ≡ name = name_read name (contents number name) a.0 a.1 in
    ap (map (λ (text : Text). text.0)) (sym is)
    ∙ (ap (λ (n : List ℕ). n ∷ map (λ text. text.0) b.0) first ∙ ap (λ names. name ∷ names) (names_read contents (number + 1) names b.0 b.1))

-- there are as many files as names
pub as_many : {A : Type 0} (see : A → List Text) (value : A) (names : List (List ℕ)) (before after : ShelfState) → Reads see names (Ok value) before after
    → length (see value) ≡ length names
as_many see value names before after reads =
    let some = some_contents largest_input reads.questions in
    let named = names_read some.0 0 names (see value) (reads.gives some.0 some.1) in
    sym (length-map (see value) (λ (text : Text). text.0)) ∙ ap length named
