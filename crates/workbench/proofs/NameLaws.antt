-- The words of the program: which are names of files, and which say a command over an input.
use Rattle.std.proofs.Common.{◌≡◌, ◌≤◌, ℕ, suc, List, [], ◌∷◌, Vec, Global, map, length, false, Some, option_map}
use Rattle.std.proofs.Common.{refl, ap, arith}
use Rattle.std.specs.Prelude.{nat_le}
use Rattle.std.proofs.lemmas.Bool.Decides.{nat_tests}
use Rattle.report_defs.specs.declared.command.CommandName.{CommandName}
use Rattle.report_defs.specs.declared.command.CommandName.TheVariants.{Link, Watch}
use Rattle.report_defs.specs.CommandTables.{command_named}
use Rattle.report_defs.specs.Commands.{commands, command_of, command_on}
use Rattle.report_defs.specs.ProgramCommands.{are_file_names, over_input, program_command, program_command_on}

abbrev pub texts : List (Vec ℕ Global) → List (List ℕ)
texts words = map (λ (word : Vec ℕ Global). word.items) words

texts_length : (words : List (Vec ℕ Global)) → length (texts words) ≡ length words
texts_length [] = refl
texts_length (word ∷ words) = ap suc (texts_length words)

pub many_names : (first : List ℕ) (words : List (Vec ℕ Global)) → 16 ≤ length words → are_file_names (first ∷ texts words) ≡ false
many_names first words many =
    let size = texts_length words in
    let past : nat_le (suc (length (texts words))) 16 ≡ false = grind (arith, nat_tests) in
    rw past refl

over_input_on : (name : CommandName) (words : List (List ℕ)) → (name ≡ Link → ⊥) → (name ≡ Watch → ⊥)
    → option_map over_input (command_on words name) ≡ program_command_on words name
over_input_on Link words not_link not_watch = absurd (not_link refl)
over_input_on Watch words not_link not_watch = absurd (not_watch refl)
over_input_on _ [] not_link not_watch = refl
over_input_on _ (word ∷ words) not_link not_watch = refl

-- words of which the first names neither `link` nor `watch` say a command over an input, or none
pub over_input_alone : (all : List (List ℕ)) (word : List ℕ) (words : List (List ℕ)) (name : CommandName)
    → all ≡ word ∷ words → command_named commands word ≡ Some name → (name ≡ Link → ⊥) → (name ≡ Watch → ⊥)
    → option_map over_input (command_of all) ≡ program_command all
over_input_alone all word words name are is not_link not_watch =
    rw (are, is) (over_input_on name words not_link not_watch)
