-- The names that the proofs of a family cite, passed on from one place. Declares nothing.
pub use Rattle.sim_view.proofs.Common.{comes, comes_as, comes_on, comes_then, given, Goes, goes_in, high-join, is_view, IsView, join-bytes, Leads, leads, off}
pub use Rattle.sim_view.proofs.Common.{no_turns, on, one_more_turn, Part, part_then, pick, piece, previous-next, reg_word, Rest, runs_steps, TurnsMade}
pub use Rattle.sim_view.proofs.Routines.{just}
pub use Rattle.sim_view.specs.Bounds.{bound_of_address, bound_of_alu_row, bound_of_byte, bound_of_case_row}
pub use Rattle.sim_view.specs.Bounds.{bound_of_exchange_row, bound_of_load, bound_of_product_row}
pub use Rattle.sim_view.specs.Bounds.{bound_of_quotient_row, bound_of_shift_row, bound_of_store, bound_to_copy}
pub use Rattle.sim_operands.proofs.AddressPieces.{Answers, index_read, IndexRead, range_read, RangeRead}
pub use Rattle.sim_operands.proofs.Facts.{at_most, byte_is, down, no_other, not_limit, spot_cell}
pub use Rattle.sim_operands.proofs.Paths.{rest_is}
pub use Rattle.sim_operands.proofs.Ready.{idle_grom, idle_video, ready, set_is}
pub use Rattle.sim_rows.proofs.Again.{begins, fetched_again, first_way, idle_again, ports_are_idle, second_way}
pub use Rattle.sim_rows.proofs.StepStart.{back_is, from, known, located_at, lost, where_found}
pub use Rattle.sim_rows.proofs.Codes.{if_true, one_below, two_above}
pub use Rattle.sim_rows.proofs.Ends.{fetched_of, idle_of, leaves, matches, reaches, same_state, state_at, stops, turned_by, turned_from}
pub use Rattle.sim_rows.proofs.Facts.{not_above}
pub use Rattle.sim_rows.proofs.FirstOperand.{operand_stop, rejected_stops, finds_of, from_placed, holds_addressed, holds_again, holds_loaded, located, place_is, sees_again}
pub use Rattle.sim_rows.proofs.FirstOperand.{space_small}
pub use Rattle.sim_rows.proofs.Operands.{value_same, visible_of}
pub use Rattle.sim_rows.proofs.Places.{FoundVisible, visible_when_found, place_found_visible}
pub use Rattle.sim_rows.proofs.OnlyExit.{is_exit, never_exits}
pub use Rattle.sim_rows.proofs.WholeRows.{both, destination_visible, row_changed, TurnsBy}
pub use Rattle.sim_rows.proofs.Sources.{code_fits}
pub use Rattle.sim_rows.proofs.Steps.{bound_made, bound_stop, place_same, step_branch, step_byte, step_jump, step_move, step_none, step_plain}
pub use Rattle.sim_rows.proofs.StoredResults.{changed_again, ChangedFrom, store_then, stored_idle, storing_again, value_keeps, width_again}
pub use Rattle.sim_rows.proofs.RowStart.{is_at_address}
pub use Rattle.sim_rows.specs.Prelude.{◌>>=◌, absolute_flags, absolute_of, ABSV, ADDR, Addressed, ADDV, ALL, ANDV, Answer, Asking, ASPACE, AtDispatch}
pub use Rattle.sim_rows.specs.Prelude.{AtRow, B, BACK, OperandStop, further, after_code, after_first, bit_of, bound, bound_at, bound_by, BRANCH, Branch, branched}
pub use Rattle.sim_rows.specs.Prelude.{BTARG, Byte, byte_at, byte_from, byte_in, bytes_by, bytes_or_none, CALL, CALLN, CALLS, CARRY, CASE, CASEN, CASET, CASEV}
pub use Rattle.sim_rows.specs.Prelude.{Cell, cells_at, CEQ, CEQV, CFALSE, CGE, CGEV, CGT, CGTV, CH, ShowsChanges, Changes, CHARACTER, CHE, CHEV, CHV, CLOG, CLOGV}
pub use Rattle.sim_rows.specs.Prelude.{CLRV, code_byte, ReachesWithin, complement_of, condition, conjunction_of, copied, COPY, COPYN, COPYS, COUNT, count_in, count_of}
pub use Rattle.sim_rows.specs.Prelude.{Cpu, CTRUE, CZ, CZV, DECTV, destination_bytes, difference_flags, difference_of, Dispatched, DIV, DIVBY, DIVE, divided}
pub use Rattle.sim_rows.specs.Prelude.{division_of, DIVL, DIVQ, DIVS, DIVV, DIVW, double_at, double_word, drawn, ShowsEnd, EndsAs, EndsRow, even, EX, EXB}
pub use Rattle.sim_rows.specs.Prelude.{exchanged, exclusive_or_of, executed, EXIT, Exit, exit, Exits, EXV, FETCH, FETCHA, FETCHB, FETCHD, FETCHK, FETCHN}
pub use Rattle.sim_rows.specs.Prelude.{FETCHP, FETCHR, FETCHS, FETCHV, FILL, Finds, FindsOperand, finished, first_of, Flags, From, FromGrom, FromMemory, GBOOT}
pub use Rattle.sim_rows.specs.Prelude.{GEXIT, Gives, GOALL, GOB, GOBACK, GOCALL, GOCARY, GOEXIT, GOGT, GOH, GOMOVE, gone_on, GoOp, GOOVF, GORAND, GORTN, GOTO}
pub use Rattle.sim_rows.specs.Prelude.{GplOperand, GplOperation, GplRead, GplRun, GplState, grom_at, GromIndexedToMemory, GromState, GromToMemory}
pub use Rattle.sim_rows.specs.Prelude.{GromToRegisters, grown_by, GSTEP, GSTOP, GT, H, has_quotient, has_source, high, Holds, HoldsEntry, in_grom_of}
pub use Rattle.sim_rows.specs.Prelude.{in_register, INCTV, INDEX, index_by, indexed, INVV, is_turn_end, is_grom_idle, is_immediate, is_row, is_set, is_taken}
pub use Rattle.sim_rows.specs.Prelude.{is_vdp_idle, is_visible, IsFetched, IsMachine, IsMatching, IsMemory, IsNewVdp, IsStatus, IsTurn, IsVisible, join, Jump}
pub use Rattle.sim_rows.specs.Prelude.{last_out, Length, length_at, length_of, LOAD, Loaded, loaded_of, LoadsFrom, LoadsFromSource, LoadsStream, LoadsValue}
pub use Rattle.sim_rows.specs.Prelude.{low, MachineState, marked_by, Matches, Memory, MemoryToMemory, modulus, bound_to_dispatch, Move, move_found, MOVEA, MOVEB, MOVED}
pub use Rattle.sim_rows.specs.Prelude.{MOVEK, MoveKind, MOVEL, MoveLength, MOVEN, MOVER, MOVES, MoveSource, MoveTarget, MOVEW, MOVEX, Moving, MUL, MULB, MULV}
pub use Rattle.sim_rows.specs.Prelude.{negation_flags, negation_of, NEGV, new_grom, next_at, next_from, next_in_grom, next_in_vdp, next_of, next_seed, next_to}
pub use Rattle.sim_rows.specs.Prelude.{number_of, number_of_space, of_register, on_stack, One, one_more, OneName, ones_cleared, ones_set, Opcode}
pub use Rattle.sim_rows.specs.Prelude.{operands_of, operation_at, operation_entry, operation_in, operation_in_view, origin_of, ORV, OVER, OVF, pair_kind}
pub use Rattle.sim_rows.specs.Prelude.{past, Place, place_in, place_of, Placed, Plain, PlainOp, plus, PortsAreIdle, product_of, PUSH, PUSHV}
pub use Rattle.sim_rows.specs.Prelude.{RAND, RANDL, RANDOM, ranged, read_by, reads_destination, Reason, Register, repeated}
pub use Rattle.sim_rows.specs.Prelude.{repeated_sign, RESUME, return_of, row_entry, row_result, row_width, RTN, RTNC, run, Runs, RunsRow, second_by, SEED, SEEK}
pub use Rattle.sim_rows.specs.Prelude.{ShowsState, SeesFinished, SeesResult, with_grom_address, with_video_address, shifted, shifted_left, shifted_right, ShiftOp, SHOW, shown_by}
pub use Rattle.sim_rows.specs.Prelude.{signed, size_of, SLA, SLLB, SLLV, Source, source_at, source_of, Space, space_of, SRA, SRAB, SRAV, SRC, SRCB, SRCV, SRL}
pub use Rattle.sim_rows.specs.Prelude.{SRLB, SRLV, ST, Stack, IsAt, STATB, state_at_dispatch, state_of, STATUS, Status, status_byte, status_of, status_word}
pub use Rattle.sim_rows.specs.Prelude.{step, Stepped, steps, STO, Stopped, StoppedBy, STORE, Stored, StoresRegister, StoresResult, StoresTo, StoresValue}
pub use Rattle.sim_rows.specs.Prelude.{Storing, STREAM, streamed, STV, SUBV, sum_flags, sum_of, swapped, TAKE, target_of, To, ToMemory, ToRegisters, Turn}
pub use Rattle.sim_rows.specs.Prelude.{from_dispatch, Turned, TurnedBy, Two, two, TwoName, unchanged, unit, UNKN, value_at, Vdp, vdp_address_written}
pub use Rattle.sim_rows.specs.Prelude.{vdp_data_written, VdpState, View, view, WHERE, Width, width_in, with_byte, with_byte_from, with_byte_in, with_byte_to}
pub use Rattle.sim_rows.specs.Prelude.{with_cell, with_condition, with_double, with_immediate, with_overflow, with_pc, with_quotient, with_register}
pub use Rattle.sim_rows.specs.Prelude.{with_status, turns_made, with_tested, with_value, with_word, with_word_in, within_limit, Word, word_at, word_in, word_of}
pub use Rattle.sim_rows.specs.Prelude.{whole_turn, word_or_byte, WORKSPACE, WriteSetup, XORV}
unfoldable pub use Rattle.sim_rows.specs.Prelude.{after, operand_at, view_of, zeros}
