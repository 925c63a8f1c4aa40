pub use Rattle.sim_view.proofs as sim_view
pub use Rattle.sim_operands.proofs as sim_operands
pub mod Facts
pub mod Paths
pub mod Again
pub mod StepStart
pub mod Codes
pub mod Steps
pub mod Ends
pub mod Places
pub mod OnlyExit
pub mod Entries
pub mod FirstOperand
pub mod Operands
pub mod Sources
pub mod Matched
pub mod Destinations
pub mod StoredResults
pub mod RowViews
pub mod Routines
pub mod WholeRows
pub mod RowStart
pub mod Family
pub mod Common
