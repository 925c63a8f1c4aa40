-- Writes to a sink, one after the other.
use Rattle.std.proofs.Common.{◌≡◌, ℕ, ◌≤◌, List, [], ◌∷◌, ◌++◌, take, Option, Some, None, Result, Ok, Err, refl, sym, ap, ◌∙◌, append_assoc}
use Rattle.std.proofs.Common.{append-nil, length-append, arith}
use Rattle.std.specs.Prelude.{OnOk, OnErr}
use Rattle.std.specs.Option.{option_map}
use Rattle.std.specs.List.{concat}
use Rattle.std.proofs.lemmas.List.Folds.{concat-append}
use Rattle.base_defs.specs.Counts.{saturating_sum, Rose}
use Rattle.bench_io.specs.Stream.{SinkState, Grew, GrewByPrefix}
use Rattle.bench_io.specs.Written.{Wrote, Missed, Written}

grew_none : (a : Option (List ℕ)) → Grew a a []
grew_none None = refl
grew_none (Some held) = ap Some (sym (append-nil held))

grew_more : (a b c : Option (List ℕ)) (x y : List ℕ) → Grew a b x → Grew b c y → Grew a c (x ++ y)
grew_more None b c x y h k = k ∙ ap (option_map (λ held. held ++ y)) h
grew_more (Some held) b c x y h k = k ∙ (ap (option_map (λ held. held ++ y)) h ∙ ap Some (append_assoc held x y))

-- no piece is written by no call
pub wrote_none : (a : SinkState) → Wrote a a []
wrote_none a = record { held = grew_none a.held; puts = omega arith; faults = omega arith }

-- more pieces are written after others
pub wrote_more : (a b c : SinkState) (xs ys : List (List ℕ)) → Wrote a b xs → Wrote b c ys → Wrote a c (xs ++ ys)
wrote_more a b c xs ys p q = record {
  held = rw concat-append (grew_more a.held b.held c.held (concat xs) (concat ys) p.held q.held);
  puts = omega (arith, length-append xs ys, p.puts, q.puts);
  faults = omega (arith, p.faults, q.faults);
}

-- a call fails after others that did not
pub missed_more : (a b c : SinkState) (xs ys : List (List ℕ)) → Wrote a b xs → Missed b c ys → Missed a c (xs ++ ys)
missed_more a b c xs ys p q = record {
  done = xs ++ q.done;
  piece = q.piece;
  left = q.left;
  are = ap (λ pieces. xs ++ pieces) q.are ∙ sym (append_assoc xs q.done (q.piece ∷ q.left));
  held = (
    q.held.0,
    rw (concat-append, append_assoc)
        (grew_more a.held b.held c.held (concat xs) (concat q.done ++ take q.held.0 q.piece) p.held q.held.1),
  );
  puts = omega (arith, length-append xs q.done, p.puts, q.puts);
  rose = λ top. omega (arith, p.faults, q.rose top);
}

-- a call failed, and more was to be written
pub missed_early : (a b : SinkState) (xs ys : List (List ℕ)) → Missed a b xs → Missed a b (xs ++ ys)
missed_early a b xs ys p = record {
  done = p.done;
  piece = p.piece;
  left = p.left ++ ys;
  are = ap (λ pieces. pieces ++ ys) p.are ∙ append_assoc p.done (p.piece ∷ p.left) ys;
  held = p.held;
  puts = p.puts;
  rose = p.rose;
}

-- one piece
pub wrote_one : (a b : SinkState) (x : List ℕ) → Grew a.held b.held x → b.puts ≡ saturating_sum a.puts 1 → a.faults ≤ b.faults → Wrote a b (x ∷ [])
wrote_one a b x held puts faults = record { held = rw append-nil held; puts = puts; faults = faults }

pub missed_one : (a b : SinkState) (x : List ℕ) → GrewByPrefix a.held b.held x → b.puts ≡ saturating_sum a.puts 1 → Rose a.faults b.faults → Missed a b (x ∷ [])
missed_one a b x held puts rose = record { done = []; piece = x; left = []; are = refl; held = held; puts = puts; rose = rose }

-- what comes of pieces that are written after others
pub written_more : {T E : Type 0} (r : Result T E) (a b c : SinkState) (xs ys : List (List ℕ)) → Wrote a b xs → Written r b c ys → Written r a c (xs ++ ys)
written_more (Ok done) a b c xs ys p q = wrote_more a b c xs ys p q
written_more (Err error) a b c xs ys p q = missed_more a b c xs ys p q

-- what comes of one piece
pub written_one : {T E : Type 0} (r : Result T E) (a b : SinkState) (x : List ℕ) → OnOk r (Grew a.held b.held x)
    → OnErr r (GrewByPrefix a.held b.held x) → b.puts ≡ saturating_sum a.puts 1 → a.faults ≤ b.faults → OnErr r (Rose a.faults b.faults)
    → Written r a b (x ∷ [])
written_one (Ok done) a b x grew failed puts faults rose = wrote_one a b x grew puts faults
written_one (Err error) a b x grew failed puts faults rose = missed_one a b x failed puts rose

-- what comes of pieces that are written after one
pub written_after : {T E : Type 0} (r : Result T E) (a b c : SinkState) (x : List ℕ) (ys : List (List ℕ)) → Wrote a b (x ∷ []) → Written r b c ys
    → Written r a c (x ∷ ys)
written_after r a b c x ys p q = written_more r a b c (x ∷ []) ys p q

-- the first of several pieces was missed
pub missed_at : (a b : SinkState) (x : List ℕ) (ys : List (List ℕ)) → Missed a b (x ∷ []) → Missed a b (x ∷ ys)
missed_at a b x ys p = missed_early a b (x ∷ []) ys p
