-- What the processor asks of its memory, whatever that is made of.
use Rattle.std.specs.Prelude.{ℕ, Result, Ok, Err}
use Rattle.tms_defs.specs.declared.port_stop.PortStop.{PortStop}

-- The outcome of an access, an operand or an instruction: a value, a word access that met the port at an address,
-- or a word that is no instruction of the processor here.
pub data Answer (X : Type 0) : Type 0 where
  Gives : X → Answer X
  AtPort : ℕ → Answer X
  NoInstruction : Answer X

-- What is done with a value; the other answers end what follows.
infixl 10 ◌>>=◌
abbrev pub ◌>>=◌ : {X Y : Type 0} → Answer X → (X → Answer Y) → Answer Y
◌>>=◌ (Gives x) next = next x
◌>>=◌ (AtPort address) next = AtPort address
◌>>=◌ NoInstruction next = NoInstruction

-- The four accesses to a memory: a word is read or written at its even address; a byte that is read may change a port.
-- TMS9900 data manual, "Registers and memory".
pub record Accesses (M : Type 0) : Type 0 where
  pub word : M → ℕ → Answer ℕ
  pub with_word : M → ℕ → ℕ → Answer M
  pub byte : M → ℕ → Answer (ℕ × M)
  pub with_byte : M → ℕ → ℕ → Answer M

-- The answer of a word that the code reads.
abbrev pub answer_of : {X : Type 0} → Result X PortStop → Answer X
answer_of (Ok x) = Gives x
answer_of (Err stop) = AtPort stop.0

-- The answer of a word that the code writes, with what the write left.
abbrev pub written_by : {X Y : Type 0} → Result X PortStop → Y → Answer Y
written_by (Ok x) left = Gives left
written_by (Err stop) left = AtPort stop.0
