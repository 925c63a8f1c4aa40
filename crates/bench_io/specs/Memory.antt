-- What clauses see of a source and of a sink in memory.
use Rattle.std.specs.Prelude.{ℕ, List}

-- a source: the bytes left, the numbers of calls made, of bytes given and of calls that gave none, the numbers from 0
-- of the calls that fail, and how many have failed
pub record Supply : Type 0 where
  pub left : List ℕ
  pub calls : ℕ
  pub taken : ℕ
  pub empty : ℕ
  pub fails : List ℕ
  pub faults : ℕ

-- a sink: the bytes that it holds, how many there is room for in all, the number of calls made, the numbers from 0 of
-- the calls that fail, and how many have failed
pub record Store : Type 0 where
  pub held : List ℕ
  pub room : ℕ
  pub calls : ℕ
  pub fails : List ℕ
  pub faults : ℕ
