-- What MOVE finds, in the parts in which the machine finds it.
use Rattle.std.proofs.Common.{ℕ, ◌≡◌, Err, Ok, refl, Result}
use Rattle.sim_rows.proofs.Common.{◌>>=◌, From, GplState, length_of, MoveKind, MoveSource, MoveTarget, Moving, origin_of, Reason, target_of, To}
use Rattle.sim_rows.proofs.Common.{within_limit}
use Rattle.sim_rows.proofs.Steps.{bind_same}
use Rattle.sim_move.specs.Moves.{found_in, length_read, source_read, target_read}

-- the length if it is within its limit, and the target if it is there
abbrev pub target_in : GplState → ℕ → MoveTarget → Result (ℕ × To) Reason
target_in s count target = do
  bytes ← within_limit count
  to ← target_of s bytes target
  Ok (bytes, to)

-- and then the source
abbrev pub with_from : ℕ × To → From → Moving
with_from found from = record { bytes = found.0; to = found.1; from = from }

abbrev pub with_source : GplState → MoveSource → ℕ × To → Result Moving Reason
with_source s source found = origin_of s found.0 source >>= λ from. Ok (with_from found from)

abbrev pub found_after_length : MoveKind → GplState → ℕ → Result Moving Reason
found_after_length kind s count = target_in s count (target_read kind s).0 >>= with_source s (source_read kind s).0

abbrev pub whole : MoveKind → GplState → Result Moving Reason
whole kind s = length_of s (length_read s).0 >>= found_after_length kind s

pub found_is : (kind : MoveKind) (s : GplState) → whole kind s ≡ found_in kind s
found_is kind s = bind_same (length_of s (length_read s).0) (length_of s (length_read s).0) _ _ refl (λ count. by (within_limit count))
  where
    to_source : (bytes : ℕ) (r : Result To Reason) → ((r >>= λ to. Ok (bytes, to)) >>= with_source s (source_read kind s).0) ≡
        (r >>= λ to. with_source s (source_read kind s).0 (bytes, to))
    to_source bytes (Ok to) = refl
    to_source bytes (Err reason) = refl

    by : (r : Result ℕ Reason) →
        ((r >>= λ bytes. (target_of s bytes (target_read kind s).0 >>= λ to. Ok (bytes, to))) >>= with_source s (source_read kind s).0) ≡
        (r >>= λ bytes. (target_of s bytes (target_read kind s).0 >>= λ to. with_source s (source_read kind s).0 (bytes, to)))
    by (Ok bytes) = to_source bytes (target_of s bytes (target_read kind s).0)
    by (Err reason) = refl
