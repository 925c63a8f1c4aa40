-- What is true of the places that operands have.
use Rattle.std.proofs.Common.{ℕ, ◌&&◌, ◌+◌, ◌==◌, ◌≡◌, ◌≤◌, arith, Bool, Err, false, if◌then◌else◌, None, not, Ok, Option, refl, Result, Some, subst, true}
use Rattle.std.proofs.lemmas.Bool.{leb-true}
use Rattle.sim_rows.specs.Prelude.{◌>>=◌, Cell, Cpu, GplOperand, GplState, indexed, is_visible, number_of_space, Place, place_of, plus, pointed, ranged}
use Rattle.sim_rows.specs.Prelude.{Reason, Space, Vdp}
use Rattle.sim_view.specs.gpl_step_defs.Place.{word_at}
use Rattle.sim_view.proofs.Common.{pick}

-- A place is visible where it lies in the cells, and there is none for one reason alone.
abbrev pub FoundVisible : ℕ → Result Place Reason → Type 0
FoundVisible bytes (Ok place) = number_of_space place.space ≡ 0 → place.address + bytes ≤ 0xC2
FoundVisible bytes (Err reason) = reason ≡ Cell

ranged_found_visible : (bytes : ℕ) (space : Space) (address : ℕ) → FoundVisible bytes (ranged bytes space address)
ranged_found_visible bytes Cpu address =
    pick (is_visible bytes address) (λ e. rw e (λ z. leb-true (address + bytes) 0xC2 e)) (λ e. rw e refl)
ranged_found_visible bytes Vdp address = λ z. absurd (omega arith)

abbrev Alone : Result ℕ Reason → Type 0
Alone (Ok n) = Unit {0}
Alone (Err reason) = reason ≡ Cell

alone_if : (b : Bool) (n : ℕ) → Alone (if b then Ok n else Err Cell)
alone_if true n = tt
alone_if false n = refl

pointed_alone : (s : GplState) (indirect : Bool) (address : ℕ) → Alone (pointed s indirect address)
pointed_alone s false address = tt
pointed_alone s true address = alone_if (is_visible 2 address && not (address == 0x7C)) (word_at s address)

indexed_alone : (s : GplState) (index : Option ℕ) (address : ℕ) → Alone (indexed s index address)
indexed_alone s None address = tt
indexed_alone s (Some offset) address = alone_if (is_visible 2 offset) (plus address (word_at s offset))

then_found_visible : (bytes : ℕ) (r : Result ℕ Reason) (f : ℕ → Result Place Reason) → Alone r → ((n : ℕ) → FoundVisible bytes (f n)) → FoundVisible bytes (r >>= f)
then_found_visible bytes (Ok n) f a g = g n
then_found_visible bytes (Err reason) f a g = a

pub place_found_visible : (s : GplState) (bytes : ℕ) (operand : GplOperand) → FoundVisible bytes (place_of s bytes operand)
place_found_visible s bytes operand =
    then_found_visible bytes (pointed s operand.indirect operand.address) _ (pointed_alone s operand.indirect operand.address)
    (λ base. then_found_visible bytes (indexed s operand.index base) _ (indexed_alone s operand.index base) (λ address. ranged_found_visible bytes operand.space address))

pub visible_when_found : (bytes : ℕ) (r : Result Place Reason) (place : Place) → FoundVisible bytes r → r ≡ Ok place → number_of_space place.space ≡ 0 →
    place.address + bytes ≤ 0xC2
visible_when_found bytes r place h e = let P : Result Place Reason → Type 0 = FoundVisible bytes in subst P e h
