-- Calls of `take`, one after the other.
use Rattle.std.proofs.Common.{◌≡◌, ℕ, ◌+◌, ◌≤◌, max, List, [], ◌++◌, length, take, Option, Some, None, sym}
use Rattle.std.proofs.Common.{refl, ap, ◌∙◌, append_assoc, append-nil, length-append, length-take, arith}
use Rattle.std.specs.Option.{option_map}
use Rattle.base_defs.specs.Counts.{saturating_sum, Rose}
use Rattle.bench_io.specs.Stream.{SourceState, Gave, GaveMore, GaveNoMore, empty_calls}
use Rattle.bench_io.specs.ReadAll.{Consumed}

-- no bytes are given by no calls
pub gave_none : (left : Option (List ℕ)) → Gave left left []
gave_none None = refl
gave_none (Some rest) = refl

pub gave_more : (a b c : Option (List ℕ)) (x y : List ℕ) → Gave a b x → Gave b c y → Gave a c (x ++ y)
gave_more a b None x y h k = h ∙ ap (option_map (λ rest. x ++ rest)) k
gave_more a b (Some rest) x y h k = h ∙ (ap (option_map (λ r. x ++ r)) k ∙ ap Some (sym (append_assoc x y rest)))

-- one call that gave the front of a buffer
pub consumed_once : (a b : SourceState) (count : ℕ) (buffer : List ℕ)
    → count ≤ length buffer
    → Gave a.left b.left (take count buffer)
    → b.calls ≡ saturating_sum a.calls 1
    → b.taken ≡ saturating_sum a.taken count
    → b.empty ≡ saturating_sum a.empty (empty_calls count)
    → a.faults ≤ b.faults
    → GaveMore count a b
    → Consumed a b (take count buffer) (empty_calls count)
consumed_once a b count buffer within gave calls taken empty faults more =
    let size : length (take count buffer) ≡ count = simp length-take (omega arith) in
    record {
      gave = gave;
      number = rw size taken;
      made = (1, omega (arith, size), calls);
      none = empty;
      faults = faults;
      given = rw size more.given;
      later = omega (arith, more.largest);
      largest = omega (arith, more.largest);
    }

-- one call that failed
pub failed_once : (a b : SourceState)
    → b.left ≡ a.left
    → b.calls ≡ saturating_sum a.calls 1
    → b.taken ≡ a.taken
    → b.empty ≡ saturating_sum a.empty 1
    → a.faults ≤ b.faults
    → GaveNoMore a b
    → Consumed a b [] 1
failed_once a b left calls taken empty faults more = record {
  gave = rw left (gave_none a.left);
  number = omega (arith, taken);
  made = (1, omega arith, calls);
  none = empty;
  faults = faults;
  given = omega (arith, more.given);
  later = omega (arith, more.largest);
  largest = omega (arith, more.largest);
}

-- calls after calls
pub consumed_then : (a b c : SourceState) (x y : List ℕ) (m n : ℕ) → Consumed a b x m → Consumed b c y n → Consumed a c (x ++ y) (m + n)
consumed_then a b c x y m n first then = record {
  gave = gave_more a.left b.left c.left x y first.gave then.gave;
  number = omega (arith, length-append x y, first.number, then.number);
  made = (
    first.made.0 + then.made.0,
    omega (arith, length-append x y, first.made.1, then.made.1),
    omega (arith, first.made.2, then.made.2),
  );
  none = omega (arith, first.none, then.none);
  faults = omega (arith, first.faults, then.faults);
  given = omega (arith, length-append x y, first.given, then.given);
  later = omega (arith, first.later, then.later);
  largest = omega (arith, first.later, first.largest, then.given, then.later, then.largest);
}

-- a last call that gave bytes, or found the end
pub largest_last : (a b c : SourceState) (x : List ℕ) (m n : ℕ) → Consumed a b x m → GaveMore n b c
    → c.largest ≡ max a.largest c.given
largest_last a b c x m n first last = omega (arith, first.later, first.largest, last.given, last.largest)

-- a last call, which gave no byte
pub consumed_last : (a b c : SourceState) (x y : List ℕ) (n : ℕ) → y ≡ [] → n ≡ 1 → Consumed a b x 0 → Consumed b c y n → Consumed a c x 1
consumed_last a b c x y n nothing one before last = rw (nothing, append-nil x, one) at (consumed_then a b c x y 0 n before last)

-- one more call, which gave some bytes
pub consumed_more : (a b c : SourceState) (x y : List ℕ) (n : ℕ) → n ≡ 0 → Consumed a b x 0 → Consumed b c y n → Consumed a c (x ++ y) 0
consumed_more a b c x y n some before more = rw some at (consumed_then a b c x y 0 n before more)

-- so few calls were made
pub few_calls : (a b : SourceState) (x : List ℕ) (n limit : ℕ)
    → Consumed a b x n
    → length x + n ≤ limit + 1
    → (count : ℕ) × (count ≤ limit + 1) × (b.calls ≡ saturating_sum a.calls count)
few_calls a b x n limit consumed few = (consumed.made.0, omega (arith, consumed.made.1), consumed.made.2)

-- what rose in the last call rose since the first
pub rose_since : (a b c : ℕ) → a ≤ b → Rose b c → Rose a c
rose_since a b c le rose top = omega (arith, rose top)
