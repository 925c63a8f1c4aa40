-- Why modules are not linked.
use Rattle.std.specs.Prelude.{ℕ, List}

-- The first cause, with the name or the address that it speaks of. A name is its characters.
pub data LinkCause : Type 0 where
  -- a name that a DEF defines already
  DuplicateDef : (name : List ℕ) → LinkCause
  -- a word at an odd address, or at one where no word may be loaded; the address is computed without wrap
  OutOfMemoryRange : (address : ℕ) → LinkCause
  -- a word at an address that has one
  Overlap : (address : ℕ) → LinkCause
  -- a place of a chain that holds no loaded word
  ChainOutside : (address : ℕ) → LinkCause
  -- a place that is in its chain or an earlier one already
  ChainCycle : (address : ℕ) → LinkCause
  -- a REF name that no module defines
  Unresolved : (name : List ℕ) → LinkCause
  -- no module says where the program is entered
  NoEntry : LinkCause
