-- What is found is in range for all bytes that are copied.
use Rattle.std.proofs.Common.{ℕ, ◌+◌, ◌<◌, ◌∙◌, ◌≡◌, ◌≤◌, arith, Err, nat_le, Ok, refl, Result, Some, subst, sym}
use Rattle.std.proofs.lemmas.Bool.{leb-true}
use Rattle.sim_rows.proofs.Common.{◌>>=◌, Changes, From, FromGrom, FromMemory, GplState, indexed, visible_when_found, MoveSource, MoveTarget, number_of_space}
use Rattle.sim_rows.proofs.Common.{origin_of}
use Rattle.sim_rows.proofs.Common.{place_found_visible, place_of, Reason, space_small, target_of, To, ToMemory, ToRegisters, View}
use Rattle.sim_rows.proofs.Common.{pick}
use Rattle.sim_move.specs.Copying.{HoldsSource, HoldsTarget}
use Rattle.sim_rows.specs.gpl_defs.declared.instruction.MoveTarget.TheVariants as target
use Rattle.sim_rows.specs.gpl_defs.declared.instruction.MoveSource.TheVariants as source

abbrev pub TargetInRange : ℕ → To → Type 0
TargetInRange bytes (ToMemory place) = number_of_space place.space ≡ 0 → place.address + bytes ≤ 0xC2
TargetInRange bytes (ToRegisters number) = number + bytes ≤ 8

abbrev pub SourceInRange : ℕ → From → Type 0
SourceInRange bytes (FromMemory place) = number_of_space place.space ≡ 0 → place.address + bytes ≤ 0xC2
SourceInRange bytes (FromGrom address) = Unit {0}

-- what an answer gives is so
abbrev pub Gives : {X : Type 0} → (X → Type 0) → Result X Reason → Type 0
Gives Good (Ok x) = Good x
Gives Good (Err reason) = Unit {0}

pub gives_at : {X : Type 0} (Good : X → Type 0) (r : Result X Reason) (x : X) → Gives Good r → r ≡ Ok x → Good x
gives_at Good r x h e = subst (Gives Good) e h

pub then_gives : {X Y : Type 0} (Good : Y → Type 0) (r : Result X Reason) (f : X → Result Y Reason) →
    ((x : X) → r ≡ Ok x → Gives Good (f x)) → Gives Good (r >>= f)
then_gives Good (Ok x) f h = h x refl
then_gives Good (Err reason) f h = tt

target_gives : (s : GplState) (bytes : ℕ) (t : MoveTarget) → Gives (TargetInRange bytes) (target_of s bytes t)
target_gives s bytes (target.At operand) =
    then_gives (TargetInRange bytes) (place_of s bytes operand) _ (λ place e. visible_when_found bytes (place_of s bytes operand) place
    (place_found_visible s bytes operand) e)
target_gives s bytes (target.Register number) =
    pick (nat_le (number + bytes) 8) (λ e. rw e (leb-true (number + bytes) 8 e)) (λ e. rw e tt)

source_gives : (s : GplState) (bytes : ℕ) (t : MoveSource) → Gives (SourceInRange bytes) (origin_of s bytes t)
source_gives s bytes (source.At operand) =
    then_gives (SourceInRange bytes) (place_of s bytes operand) _ (λ place e. visible_when_found bytes (place_of s bytes operand) place
    (place_found_visible s bytes operand) e)
source_gives s bytes (source.Grom address) = tt
source_gives s bytes (source.GromIndexed address index) = then_gives (SourceInRange bytes) (indexed s (Some index) address) _ (λ a e. tt)

pub target_in_range : (s : GplState) (bytes : ℕ) (t : MoveTarget) (to : To) → target_of s bytes t ≡ Ok to → TargetInRange bytes to
target_in_range s bytes t to e = gives_at (TargetInRange bytes) (target_of s bytes t) to (target_gives s bytes t) e

pub source_in_range : (s : GplState) (bytes : ℕ) (t : MoveSource) (from : From) → origin_of s bytes t ≡ Ok from → SourceInRange bytes from
source_in_range s bytes t from e = gives_at (SourceInRange bytes) (origin_of s bytes t) from (source_gives s bytes t) e

-- ---- what the copy asks of the registers

pub source_visible : (bytes : ℕ) (c : Changes) (from : From) (w : View) → HoldsSource c from w → w.r.r12 ≡ bytes → SourceInRange bytes from → w.r.r5 ≡ 0 →
    w.r.r2 + w.r.r12 ≤ 0xC2
source_visible bytes c (FromMemory place) w h n range z =
    let le = range (sym h.loads_from.space ∙ z) in let a = h.loads_from.address in omega arith
source_visible bytes c (FromGrom address) w h n range z = let two = h.space in absurd (omega arith)

pub target_visible : (bytes : ℕ) (to : To) (w : View) → HoldsTarget to w → w.r.r12 ≡ bytes → TargetInRange bytes to → w.r.r8 ≡ 0 → w.r.r7 + w.r.r12 ≤ 0xC2
target_visible bytes (ToMemory place) w h n range z = let le = range (sym h.space ∙ z) in let a = h.address in omega arith
target_visible bytes (ToRegisters number) w h n range z = let two = h.space in absurd (omega arith)

pub registers_there : (bytes : ℕ) (to : To) (w : View) → HoldsTarget to w → w.r.r12 ≡ bytes → TargetInRange bytes to → 1 < w.r.r8 → w.r.r7 + w.r.r12 ≤ 8
registers_there bytes (ToMemory place) w h n range more = let small = space_small place.space w.r.r8 h.space in absurd (omega arith)
registers_there bytes (ToRegisters number) w h n range more = let a = h.number_is in let le : number + bytes ≤ 8 = range in omega arith
