-- The names that the proofs of a piece cite, passed on from one place. Declares nothing.
pub use Rattle.gpl_defs.proofs.OperandLaws.{index_at, with_index}
pub use Rattle.base_defs.proofs.AddressLaws.{next-previous, previous-next}
pub use Rattle.interp_defs.proofs.Machines.{no_turns, one_more_turn, runs_steps, TurnsMade}
pub use Rattle.sim_view.proofs.Answers.{given}
pub use Rattle.sim_view.proofs.Bridge.{holds_register, is_view, IsView, Leads, piece, reg_word}
pub use Rattle.sim_view.proofs.Compose.{comes, comes_as, comes_on, comes_then, Goes, goes_in, runs_then}
pub use Rattle.sim_view.proofs.Lists.{high-join, join-bytes}
pub use Rattle.sim_view.proofs.Parts.{leads, Part, part_then, Rest}
pub use Rattle.sim_view.proofs.Places.{off, on, pick}
pub use Rattle.sim_view.proofs.Seen.{Cell, Code, spot}
pub use Rattle.sim_view.specs.Prelude.{◌>>=◌, ADDR, APTR, ASPACE, Byte, ReachesWithin, Exit, Exits, FETCH, GplOperand, GromState, GSTOP, high, HoldsBytes, INDEX}
pub use Rattle.sim_view.specs.Prelude.{indexed, is_grom_idle, is_visible, IsFetched, join, last_out, LDATA, LOAD, low, MachineState, Memory}
pub use Rattle.sim_view.specs.Prelude.{next_in_grom, next_in_vdp, NoOperation, pair_kind, PairKind, Place, place_of, plus, pointed, PortsAreIdle}
pub use Rattle.sim_view.specs.Prelude.{previous_in_grom, ranged, ReadSetup, Reason, RegisterWrite, SDATA, SEEK, shifted, signed, size_of, SLA, SREG}
pub use Rattle.sim_view.specs.Prelude.{SRL, IsAt, STORE, STREAM, sum_of, unchanged, value_at, VdpState, View, view, with_register, with_value}
pub use Rattle.sim_view.specs.Prelude.{Word, word_in, WORKSPACE, WriteSetup}
unfoldable pub use Rattle.sim_view.specs.Prelude.{operand_at, view_of}
