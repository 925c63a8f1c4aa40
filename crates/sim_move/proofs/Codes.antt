-- Facts about the code bytes of MOVE, by trying all 256.
use Rattle.std.proofs.Common.{ℕ, ◌%◌, ◌&&◌, ◌/◌, ◌<◌, ◌==◌, ◌∙◌, ◌≡◌, ap, Bool, false, if◌then◌else◌, nat_lt, not, Option, refl, Some, sym, true}
use Rattle.std.proofs.lemmas.Bool.{agree_below_at, and_parts}
use Rattle.sim_rows.proofs.Common.{GplOperation, GromIndexedToMemory, GromToMemory, GromToRegisters, MemoryToMemory, Move, MoveKind, operation_at}

abbrev pub to_memory : MoveKind → Bool
to_memory GromToRegisters = false
to_memory _ = true

abbrev pub is_low : MoveKind → Bool
is_low GromToMemory = true
is_low GromIndexedToMemory = true
is_low _ = false

abbrev pub has_index : MoveKind → Bool
has_index GromIndexedToMemory = true
has_index _ = false

abbrev pub from_grom : MoveKind → Bool
from_grom MemoryToMemory = false
from_grom _ = true

abbrev same : Bool → Bool → Bool
same a b = if a then b else not b

same_is : (a b : Bool) → same a b ≡ true → a ≡ b
same_is true b e = sym e
same_is false true e = absurd (cc)
same_is false false e = refl

abbrev agrees : ℕ → MoveKind → Bool
agrees code kind =
    same (nat_lt code 0x38) (to_memory kind) && (same (nat_lt code 0x34) (is_low kind) && same (code / 2 % 2 == 1) (has_index kind))

abbrev agrees_by : ℕ → Option GplOperation → Bool
agrees_by code (Some (Move kind)) = agrees code kind
agrees_by code _ = true

pub record Encodes (code : ℕ) (kind : MoveKind) : Type 0 where
  pub memory : nat_lt code 0x38 ≡ to_memory kind
  pub low : nat_lt code 0x34 ≡ is_low kind
  pub index : (code / 2 % 2 == 1) ≡ has_index kind

pub encodes : (code : ℕ) (kind : MoveKind) → code < 256 → operation_at code ≡ Some (Move kind) → Encodes code kind
encodes code kind h e =
    let all : agrees_by code (operation_at code) ≡ true = agree_below_at (λ n. agrees_by n (operation_at n)) (λ _. true) 256 code refl h in
    let is : agrees code kind ≡ true = sym (ap (agrees_by code) e) ∙ all in
    let p = and_parts _ _ is in
    let q = and_parts _ _ p.1 in
    record { memory = same_is _ _ p.0; low = same_is _ _ q.0; index = same_is _ _ q.1 }
