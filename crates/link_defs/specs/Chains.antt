-- The chains of external references.
--
-- Editor/Assembler manual, "Tagged object code": a REF group gives the place of the last use of its name; the word at
-- each use is the place of the use before it, and the word at the first use is 0.
use Rattle.std.specs.Prelude.{ℕ, zero, suc, ◌==◌, is_some, if◌then◌else◌, List, [], ◌∷◌, ◌++◌, Option, Some, None}
use Rattle.std.specs.Prelude.{Result, Ok, Err}
use Rattle.std.specs.Ordering.{nat_cmp}
use Rattle.std.specs.FinMap.{find}
use Rattle.source_defs.specs.Refusals.{◌>>=◌}
use Rattle.link_defs.specs.Causes.{LinkCause, ChainOutside, ChainCycle}

-- the places of chains, each with the name that is used there
abbrev pub Uses : Type 0
Uses = List (ℕ × List ℕ)

-- the word that is loaded at a place, if one is
abbrev pub loaded_at : ℕ → Option ℕ → Result ℕ LinkCause
loaded_at place None = Err (ChainOutside place)
loaded_at place (Some word) = Ok word

-- The place of the use before a use: the word that is loaded there.
-- Profile: a place that holds no loaded word is refused, and so is one that is in a chain already.
abbrev pub use_before : List (ℕ × ℕ) → Uses → ℕ → Result ℕ LinkCause
use_before words uses place = do
  word ← loaded_at place (find nat_cmp place words)
  if is_some (find nat_cmp place uses) then Err (ChainCycle place) else Ok word

-- as many places as there are
abbrev pub most_places : ℕ
most_places = 65536

-- The uses with the uses of one more name, from a place on, up to 0. Since no place is in two chains or twice in
-- one, they are no more than there are places.
unfoldable pub uses_from : ℕ → List (ℕ × ℕ) → List ℕ → Uses → ℕ → Result Uses LinkCause
uses_from zero words name uses place = Ok uses
uses_from (suc places) words name uses place =
    if place == 0 then Ok uses
    else use_before words uses place >>= λ next. uses_from places words name (uses ++ (place, name) ∷ []) next

-- the uses of names, each by the place of its last use
abbrev pub uses_of : List (ℕ × ℕ) → Uses → List (List ℕ × ℕ) → Result Uses LinkCause
uses_of words uses [] = Ok uses
uses_of words uses (ref ∷ refs) = uses_from most_places words ref.0 uses ref.1 >>= λ uses. uses_of words uses refs
