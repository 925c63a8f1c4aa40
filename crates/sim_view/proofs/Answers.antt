-- What answers give.
use Rattle.std.proofs.Common.{◌≡◌, refl}
use Rattle.tms_defs.specs.Accesses.{Answer, Gives, AtPort, NoInstruction, ◌>>=◌}

pub given : {X : Type 0} (a b : X) → Gives a ≡ Gives b → a ≡ b
given a b e = cc

pub given_by : {X Y : Type 0} (o : Answer X) (f : X → Answer Y) (z : Y) → o >>= f ≡ Gives z → (x : X) × (o ≡ Gives x) × (f x ≡ Gives z)
given_by (Gives x) f z e = (x, refl, e)
given_by (AtPort p) f z e = absurd (cc)
given_by NoInstruction f z e = absurd (cc)

pub then-then : {X Y Z : Type 0} (o : Answer X) (f : X → Answer Y) (g : Y → Answer Z) → (o >>= f) >>= g ≡ o >>= λ x. f x >>= g
then-then (Gives x) f g = refl
then-then (AtPort a) f g = refl
then-then NoInstruction f g = refl

pub then-ext : {X Y : Type 0} (o : Answer X) (f g : X → Answer Y) → ((x : X) → f x ≡ g x) → o >>= f ≡ o >>= g
then-ext (Gives x) f g h = h x
then-ext (AtPort a) f g h = refl
then-ext NoInstruction f g h = refl
