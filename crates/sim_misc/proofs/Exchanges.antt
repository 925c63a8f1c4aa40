-- EX from its row to the end of the step.
use Rattle.std.proofs.Common.{ℕ, ◌%◌, ◌/◌, ◌<◌, ◌==◌, ◌∙◌, ◌≡◌, ap, arith, Bool, Err, false, if◌then◌else◌, not, Ok, Option, refl, Result, Some, subst, sym}
use Rattle.std.proofs.Common.{true}
use Rattle.std.proofs.lemmas.Bool.{agree_below_at}
use Rattle.sim_rows.proofs.Common.{◌>>=◌, AtRow, after_first, both, Byte, bytes_by, changed_again, ChangedFrom, Changes, code_byte, code_fits, ReachesWithin, comes}
use Rattle.sim_rows.proofs.Common.{comes_on, comes_then, destination_bytes, EX, EXB, exchanged, Exits, gone_on, GplOperation, GplState, GSTEP, has_source}
use Rattle.sim_rows.proofs.Common.{idle_again, in_register, is_immediate, is_view, IsMachine, IsVisible, LoadsFrom, LoadsFromSource, MachineState}
use Rattle.sim_rows.proofs.Common.{bound_of_store, of_register, operand_at, operands_of, operation_at, operation_in, Place, place_of, PortsAreIdle}
use Rattle.sim_rows.proofs.Common.{reads_destination, Reason, return_of, row_changed, row_result, row_width, second_by, SeesFinished, SeesResult, size_of}
use Rattle.sim_rows.proofs.Common.{Source, source_at, source_of, IsAt, STO, STORE, store_then, stored_idle, StoresResult, StoresValue, Storing, Two}
use Rattle.sim_rows.proofs.Common.{two_above, unchanged, value_at, View, view, Width, width_again, width_in, with_value, Word, word_of}
use Rattle.sim_misc.specs.Pieces as pieces

-- ---- the source of EX has a place

abbrev is_exchange : Option GplOperation → Bool
is_exchange (Some (Two EX)) = true
is_exchange _ = false

-- EX has no code byte of an immediate source.
abbrev in_memory : ℕ → Bool
in_memory code = if is_exchange (operation_at code) then not (code / 2 % 2 == 1) else true

if_true : (b c : Bool) → b ≡ true → (if b then c else true) ≡ true → c ≡ true
if_true true c e f = f
if_true false c e f = absurd (cc)

not_true : (b : Bool) → not b ≡ true → b ≡ false
not_true true e = absurd (cc)
not_true false e = refl

no_immediate : (s : GplState) → code_byte s < 256 → operation_in s ≡ Some (Two EX) → is_immediate s ≡ false
no_immediate s h e =
    not_true (is_immediate s) (if_true (is_exchange (operation_at (code_byte s))) (not (is_immediate s)) (ap is_exchange e)
    (agree_below_at in_memory (λ _. true) 256 (code_byte s) refl h))

source_in : Source → Result Source Reason → Source
source_in other (Ok source) = source
source_in other (Err reason) = other

placed_by : (s : GplState) (w : Width) (r : Result Place Reason) (source : Source) → (r >>= λ p. Ok (record { number = value_at s w p; place = Some p })) ≡ Ok
    source → (p : Place) × (source.place ≡ Some p)
unfolding source_in
placed_by s w (Ok place) source e = (place, sym (ap (λ (o : Source). o.place) (ap (source_in source) e)))
placed_by s w (Err reason) source e = absurd (cc)

-- the source's place
pub source_place : (s : GplState) (place : Place) (source : Source) → code_byte s < 256 → operation_in s ≡ Some (Two EX) → operands_of s ≡ Ok (place, source)
    → (p : Place) × (source.place ≡ Some p)
source_place s place source h e is =
    let two : has_source s ≡ true = two_above (code_byte s) h EX e in
    let second : second_by true s ≡ Ok source = sym (ap (λ (b : Bool). second_by b s) two) ∙ (both s place source is).1 in
    let read : source_of (gone_on s) (row_width s) (source_at false (word_of s) s.image (after_first s)).0 ≡ Ok source =
    sym (ap (λ (b : Bool). source_of (gone_on s) (row_width s) (source_at b (word_of s) s.image (after_first s)).0) (no_immediate s h e)) ∙ second in
    placed_by (gone_on s) (row_width s) (place_of (gone_on s) (size_of (row_width s)) (operand_at s.image (after_first s)).0) source read

-- ---- the pieces

number_back : (w : Width) (number : ℕ) → of_register w (in_register w number) ≡ number
number_back Byte number = omega arith
number_back Word number = refl

loaded_is : (s : GplState) (place : Place) (word : ℕ) → operation_in s ≡ Some (Two EX) →
    word ≡ in_register (width_in (destination_bytes s)) (value_at s (width_in (destination_bytes s)) place) →
    word ≡ in_register (row_width s) (value_at s (row_width s) place)
loaded_is s place word known e =
    let bytes : destination_bytes s ≡ size_of (row_width s) = ap (λ o. bytes_by o (row_width s)) known in
    let width : width_in (destination_bytes s) ≡ row_width s = ap width_in bytes ∙ width_again (row_width s) in
    e ∙ ap (λ (w : Width). in_register w (value_at s w place)) width

visible_by : (space address bytes space2 address2 bytes2 : ℕ) → space2 ≡ space → address2 ≡ address → bytes2 ≡ bytes → IsVisible space address bytes →
    IsVisible space2 address2 bytes2
visible_by space address bytes space2 address2 bytes2 e f g h =
    let P : ℕ → Type 0 = λ n. IsVisible n address2 bytes2 in
    let Q : ℕ → Type 0 = λ n. IsVisible space n bytes2 in
    let R : ℕ → Type 0 = λ n. IsVisible space address n in
    subst P (sym e) (subst Q (sym f) (subst R (sym g) h))

module _ {x y : MachineState} {t u : ℕ} (e1 : Exits x y t u (pieces.keep_destination (view x))) where
  pub idle_asked : PortsAreIdle x.cpu.memory → PortsAreIdle y.cpu.memory
  idle_asked i = idle_again x.cpu.memory y.cpu.memory (ap (λ (a : View). a.vdp) e1.shows) (ap (λ (a : View). a.grom) e1.shows) i

  pub near : (view x).r.r8 < 2 → (view y).r.r8 < 2
  near h = let e = ap (λ (a : View). a.r.r8) e1.shows in omega arith

pub at_stored : (x y z : MachineState) (t u v : ℕ) → Exits x y t u (pieces.keep_destination (view x)) → (view x).r.r8 < 2 →
    ((view y).r.r8 < 2 → StoresValue y z u v) → IsAt z EXB
at_stored x y z t u v e1 space stored = subst (λ (n : ℕ). IsAt z n) (ap return_of e1.shows) (stored (near e1 space)).is_at

module _ {x y z p : MachineState} {t u v w : ℕ} (e1 : Exits x y t u (pieces.keep_destination (view x))) (space : (view x).r.r8 < 2) (may : (view y).r.r8 < 2 →
    StoresValue y z u v) (e2 : Exits z p v w (pieces.turn_to_source (view z))) where
  stored : StoresValue y z u v
  stored = may (near e1 space)

  pub idle_turned : PortsAreIdle x.cpu.memory → PortsAreIdle p.cpu.memory
  idle_turned i =
      idle_again z.cpu.memory p.cpu.memory (ap (λ (a : View). a.vdp) e2.shows) (ap (λ (a : View). a.grom) e2.shows)
      (stored_idle y z u v (idle_asked e1 i) stored)

  -- the registers that hold the source's place
  source_space_is : (view p).r.r8 ≡ (view x).r.r5
  source_space_is = ap (λ (a : View). a.r.r8) e2.shows ∙ ap (λ (a : View). a.r.r5) stored.holds.is ∙ ap (λ (a : View). a.r.r5) e1.shows

  source_address_is : (view p).r.r7 ≡ (view x).r.r2
  source_address_is = ap (λ (a : View). a.r.r7) e2.shows ∙ ap (λ (a : View). a.r.r2) stored.holds.is ∙ ap (λ (a : View). a.r.r2) e1.shows

  bytes_is : (view p).r.r3 ≡ (view x).r.r3
  bytes_is = ap (λ (a : View). a.r.r3) e2.shows ∙ ap (λ (a : View). a.r.r3) stored.holds.is ∙ ap (λ (a : View). a.r.r3) e1.shows

  pub near_source : (view x).r.r5 < 2 → (view p).r.r8 < 2
  near_source h = let e = source_space_is in omega arith

  pub visible_source : IsVisible (view x).r.r5 (view x).r.r2 (view x).r.r3 → IsVisible (view p).r.r8 (view p).r.r7 (view p).r.r3
  visible_source h = visible_by (view x).r.r5 (view x).r.r2 (view x).r.r3 (view p).r.r8 (view p).r.r7 (view p).r.r3 source_space_is source_address_is bytes_is h

  module _ (s : GplState) (place : Place) (source : Source) (known : operation_in s ≡ Some (Two EX)) (a : AtRow s place source (view x))
      (is : operands_of s ≡ Ok (place, source)) (h : IsMachine x) where
    abbrev width : Width
    width = row_width s

    -- nothing is stored, and the value of the source
    abbrev before : Changes
    before = unchanged (gone_on s)

    abbrev between : Changes
    between = with_value width place source.number before

    storing_first : Storing before width place source.number (view y)
    storing_first = subst (λ (b : View). Storing before width place source.number b) (sym e1.shows) (record {
      changed = changed_again before (view x) (pieces.keep_destination (view x)).left (row_changed s place source (view x) a) refl refl refl refl;
      bytes_are = a.holds.bytes_are;
      to_place = record { address = a.to_place.address; space = a.to_place.space };
      value = ap (of_register width) a.value ∙ number_back width source.number;
    })

    first : ReachesWithin 18 x z t v EXB (ChangedFrom between (view y))
    first =
        let c1 : ReachesWithin 3 x y t u STORE (λ b. b ≡ (pieces.keep_destination (view x)).left) =
        comes e1 (record { within = omega arith; to_is = refl; holds = refl }) in
        let c2 : ReachesWithin bound_of_store y z u v EXB (ChangedFrom between (view y)) =
        subst (λ (n : ℕ). ReachesWithin bound_of_store y z u v n (ChangedFrom between (view y))) (ap return_of e1.shows)
        (store_then before width place source.number y z u v storing_first stored) in
        comes_on 3 15 c1 c2 refl

    old_is : (view z).r.r12 ≡ in_register width (value_at s width place)
    old_is = first.holds.keeps.r12 ∙ ap (λ (b : View). b.r.r12) e1.shows ∙ loaded_is s place (view x).r.r9 known (a.destination (ap reads_destination known))

    storing_second : (at : Place) → source.place ≡ Some at → Storing between width at (value_at s width place) (view p)
    storing_second at place_is =
        let from : LoadsFrom at (view x) = subst (λ (o : Option Place). LoadsFromSource o (view x)) place_is a.from_source in
        subst (λ (b : View). Storing between width at (value_at s width place) b) (sym e2.shows) (record {
          changed = changed_again between (view z) (pieces.turn_to_source (view z)).left first.holds.changed refl refl refl refl;
          bytes_are = first.holds.keeps.r3 ∙ ap (λ (b : View). b.r.r3) e1.shows ∙ a.holds.bytes_are;
          to_place = record {
            address = first.holds.keeps.r2 ∙ ap (λ (b : View). b.r.r2) e1.shows ∙ from.address;
            space = first.holds.keeps.r5 ∙ ap (λ (b : View). b.r.r5) e1.shows ∙ from.space;
          };
          value = ap (of_register width) old_is ∙ number_back width (value_at s width place);
        })

    pub exchanges : (q : MachineState) (k : ℕ) → StoresResult p q w k → ReachesWithin 67 x q t k GSTEP (SeesResult (row_result (Two EX) s place source))
    exchanges q k f =
        let code = code_fits s _ (view x) (is_view x h) a.holds.sees in
        let at = source_place s place source code known is in
        let c3 : ReachesWithin 22 x p t w STO (λ b. b ≡ (pieces.turn_to_source (view z)).left) = comes_then 18 4 first e2
        (record { within = omega arith; to_is = refl; holds = refl }) refl in
        let d = comes_on 22 45 c3 (f between width at.0 (value_at s width place) (storing_second at.0 at.1)) refl in
        let same : exchanged width place (value_at s width place) source source.place before ≡ with_value width at.0 (value_at s width place) between =
        ap (λ (o : Option Place). exchanged width place (value_at s width place) source o before) at.1 in
        subst (λ (c : Changes). ReachesWithin 67 x q t k GSTEP (SeesFinished c)) (sym same) d
