-- The step of MOVE is its copy, or the stop by the first check that fails.
use Rattle.std.proofs.Common.{ℕ, ◌*◌, ◌+◌, ◌∙◌, ◌≡◌, ap, Err, Ok, refl, Result, Some}
use Rattle.sim_rows.proofs.Common.{◌>>=◌, bound, bound_made, bytes_or_none, Changes, copied, finished, From, FromMemory, GplState}
use Rattle.sim_rows.proofs.Common.{length_of, Move, move_found, MoveKind, MoveLength, MoveSource, MoveTarget, Moving, operation_in, origin_of, Place}
use Rattle.sim_rows.proofs.Common.{place_of, place_same, Reason, step, step_move, target_of, ToMemory, value_at}
use Rattle.sim_rows.proofs.Common.{value_same, within_limit, Word}
use Rattle.sim_rows.specs.gpl_defs.declared.instruction.MoveLength.TheVariants as counted
use Rattle.sim_rows.specs.gpl_defs.declared.instruction.MoveTarget.TheVariants as target
use Rattle.sim_rows.specs.gpl_defs.declared.instruction.MoveSource.TheVariants as source
use Rattle.sim_rows.proofs.Steps.{bind_same}
use Rattle.sim_move.specs.Moves.{begun, found_in, length_read, source_read, target_read}
use Rattle.sim_move.proofs.Found.{with_from}
use Rattle.sim_move.proofs.Ranges.{gives_at, then_gives}
use Rattle.sim_move.proofs.Numbers.{within_is}

-- ---- another pc makes no difference

abbrev at_pc : GplState → ℕ → GplState
at_pc s n = record s { pc = n }

length_same : (s : GplState) (n : ℕ) (l : MoveLength) → length_of (at_pc s n) l ≡ length_of s l
length_same s n (counted.At operand) =
    bind_same (place_of (at_pc s n) 2 operand) (place_of s 2 operand) (λ p. Ok (value_at (at_pc s n) Word p)) (λ p. Ok (value_at s Word p))
    (place_same (at_pc s n) s 2 operand refl)
    (λ p. ap Ok (value_same (at_pc s n) s Word p refl refl))
length_same s n (counted.Immediate count) = refl

target_same : (s : GplState) (n bytes : ℕ) (t : MoveTarget) → target_of (at_pc s n) bytes t ≡ target_of s bytes t
target_same s n bytes (target.At operand) = ap (λ (r : Result Place Reason). r >>= λ p. Ok (ToMemory p)) (place_same (at_pc s n) s bytes operand refl)
target_same s n bytes (target.Register number) = refl

origin_same : (s : GplState) (n bytes : ℕ) (t : MoveSource) → origin_of (at_pc s n) bytes t ≡ origin_of s bytes t
origin_same s n bytes (source.At operand) = ap (λ (r : Result Place Reason). r >>= λ p. Ok (FromMemory p)) (place_same (at_pc s n) s bytes operand refl)
origin_same s n bytes _ = refl

found_same : (s : GplState) (n : ℕ) (l : MoveLength) (t : MoveTarget) (o : MoveSource) → move_found l t o (at_pc s n) ≡ move_found l t o s
found_same s n l t o =
    bind_same (length_of (at_pc s n) l) (length_of s l) _ _ (length_same s n l)
    (λ count. bind_same (within_limit count) (within_limit count) _ _ refl
    (λ bytes. bind_same (target_of (at_pc s n) bytes t) (target_of s bytes t) _ _ (target_same s n bytes t)
    (λ to. ap (λ (r : Result From Reason). r >>= λ from. Ok (with_from (bytes, to) from)) (origin_same s n bytes o))))

-- ---- what is found, and then the copy

module _ (s : GplState) (kind : MoveKind) where
  abbrev pub made : Moving → Changes
  made f = copied f.bytes f.from f.to (begun kind s)

  abbrev by_copy : Result Moving Reason → Result GplState Reason
  by_copy r = (r >>= λ f. Ok (made f)) >>= λ (c : Changes). Ok (finished c)

  step_by : operation_in s ≡ Some (Move kind) → step s ≡ by_copy (found_in kind s)
  step_by known = step_move s kind known ∙ ap by_copy (found_same s (source_read kind s).1 (length_read s).0 (target_read kind s).0 (source_read kind s).0)

  pub step_copies : operation_in s ≡ Some (Move kind) → (f : Moving) → found_in kind s ≡ Ok f → step s ≡ Ok (finished (made f))
  step_copies known f is = step_by known ∙ ap by_copy is

  pub step_stops : operation_in s ≡ Some (Move kind) → (reason : Reason) → found_in kind s ≡ Err reason → step s ≡ Err reason
  step_stops known reason is = step_by known ∙ ap by_copy is

  -- ---- what was found

  pub record Parts (f : Moving) : Type 0 where
    pub length : length_of s (length_read s).0 ≡ Ok f.bytes
    pub target : target_of s f.bytes (target_read kind s).0 ≡ Ok f.to
    pub source : origin_of s f.bytes (source_read kind s).0 ≡ Ok f.from

  pub parts : (f : Moving) → found_in kind s ≡ Ok f → Parts f
  parts f e =
      gives_at Parts (found_in kind s) f
      (then_gives Parts (length_of s (length_read s).0) _ (λ count length.
      then_gives Parts (within_limit count) _ (λ bytes limit.
      then_gives Parts (target_of s bytes (target_read kind s).0) _ (λ to target.
      then_gives Parts (origin_of s bytes (source_read kind s).0) _ (λ from source.
      record { length = length ∙ ap Ok (within_is count bytes limit).0; target = target; source = source }))))) e

  pub bound_is : operation_in s ≡ Some (Move kind) → (f : Moving) → found_in kind s ≡ Ok f → bound s ≡ 440 + 64 * f.bytes
  bound_is known f e =
      bound_made s (finished (made f)) (Some (Move kind)) known (step_copies known f e) ∙ ap (λ (r : Result ℕ Reason). 440 + 64 * bytes_or_none r)
      (parts f e).length
