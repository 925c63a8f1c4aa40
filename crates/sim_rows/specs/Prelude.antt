-- The names that the clauses and definitions of a family cite, passed on from one place. Declares nothing.
pub use Rattle.sim_view.specs.Prelude.{◌>>=◌, ABS, absolute_flags, absolute_of, ABSV, ADD, ADDR, address_at}
pub use Rattle.sim_view.specs.Prelude.{address_register, ADDV, ALL, AND, ANDV, Answer, APTR, ASPACE, B}
pub use Rattle.sim_view.specs.Prelude.{BACK, further, bit_of, Boots, bound, bound_at, bound_by, Branch, BRANCH}
pub use Rattle.sim_view.specs.Prelude.{branched, BTARG, Byte, byte_at, byte_from, byte_in, ByteOp, bytes_or_none}
pub use Rattle.sim_view.specs.Prelude.{CALL, CALLN, CALLS, CARRY, CARRY_BIT, CASE, CASEN, CASET, CASEV, Cell}
pub use Rattle.sim_view.specs.Prelude.{cells_at, CEQ, CEQV, CFALSE, CGE, CGEV, CGT, CGTV, CH, Changes, CHARACTER, CHE}
pub use Rattle.sim_view.specs.Prelude.{CHEV, CHV, CLOG, CLOGV, CLR, CLRV, code_register, COLUMN, ReachesWithin}
pub use Rattle.sim_view.specs.Prelude.{complement_of}
pub use Rattle.sim_view.specs.Prelude.{condition, CONDITION_BIT, conjunction_of, copied, COPY, COPYN, COPYS, COUNT}
pub use Rattle.sim_view.specs.Prelude.{count_in, count_of, Cpu, CTRUE, CZ, CZV, DEC, DECT, DECTV, destination_size}
pub use Rattle.sim_view.specs.Prelude.{difference_flags, difference_of, DIV, DIVBY, DIVE, divided, division_of, DIVL}
pub use Rattle.sim_view.specs.Prelude.{DIVQ, DIVS, DIVV, DIVW, double_at, double_word, drawn, EndsAs, even, EX, EXB}
pub use Rattle.sim_view.specs.Prelude.{exchanged, exclusive_or_of, executed, EXIT, Exit, Exits, EXV, FETCH, FETCHA}
pub use Rattle.sim_view.specs.Prelude.{FETCHB, FETCHD, FETCHK, FETCHN, FETCHP, FETCHR, FETCHS, FETCHV, FILL, finished}
pub use Rattle.sim_view.specs.Prelude.{Flags, From, from_at, from_dispatch, FromGrom, FromMemory, GBOOT, GEXIT, Gives}
pub use Rattle.sim_view.specs.Prelude.{GO, GOALL}
pub use Rattle.sim_view.specs.Prelude.{GOB, GOBACK, GOCALL, GOCARY, GOEXIT, GOGT, GOH, GOMOVE, GoOp, GOOVF, GORAND}
pub use Rattle.sim_view.specs.Prelude.{GORTN, GOTO, GplInstr, GplOperand, GplOperation, GplRead, GplRun, GplSource}
pub use Rattle.sim_view.specs.Prelude.{GplState, GREATER_BIT, grom_address_read, grom_address_written, grom_data_read}
pub use Rattle.sim_view.specs.Prelude.{GromIndexedToMemory, GromState, GromToMemory, GromToRegisters, grown_by, GSTEP}
pub use Rattle.sim_view.specs.Prelude.{GSTOP, GT, H, has_quotient, high, HIGHER_BIT, HoldsBytes, HoldsEntry}
pub use Rattle.sim_view.specs.Prelude.{HoldsRegister, in_grom_of, INC, INCT, INCTV, INDEX, index_by}
pub use Rattle.sim_view.specs.Prelude.{indexed, INTERP, INV, INVV, is_turn_end, is_grom_idle, is_set, is_taken}
pub use Rattle.sim_view.specs.Prelude.{is_vdp_idle, is_visible, IsBoot, IsFetched, IsHalted, IsMachine, IsMatching}
pub use Rattle.sim_view.specs.Prelude.{IsMemory, IsNewVdp, IsStatus, IsTurn, join, Jump, jump, last_out, LDATA}
pub use Rattle.sim_view.specs.Prelude.{Length, length_at, length_of, listed, LOAD, low, MachineState, Matches, Memory}
pub use Rattle.sim_view.specs.Prelude.{MemoryToMemory, modulus, bound_to_dispatch, Move, move_found, MOVEA, MOVEB}
pub use Rattle.sim_view.specs.Prelude.{moved, MOVED, MOVEK, MoveKind, MOVEL, MoveLength, MOVEN, MOVER, MOVES}
pub use Rattle.sim_view.specs.Prelude.{MoveSource, MoveTarget, MOVEW, MOVEX, Moving, MUL, MULB, MULV, NEG}
pub use Rattle.sim_view.specs.Prelude.{negation_flags, negation_of}
pub use Rattle.sim_view.specs.Prelude.{NEGV, new_grom, next_from, next_in_grom, next_in_vdp, next_seed, next_to}
pub use Rattle.sim_view.specs.Prelude.{NoOperation, number_of, on_stack, one, One, one_more, OneName, ones_cleared}
pub use Rattle.sim_view.specs.Prelude.{ones_set, Opcode, operation_at, operation_entry, OPTAB}
pub use Rattle.sim_view.specs.Prelude.{OPVAL, OR, origin, origin_of, ORV, OVER, OVERFLOW_BIT, OVF, pair_kind}
pub use Rattle.sim_view.specs.Prelude.{PairKind, Place, place_of, plain, Plain, PlainOp, plus, pointed, PortsAreIdle}
pub use Rattle.sim_view.specs.Prelude.{previous_in_grom, product_of, PUSH, PUSHV, RAND, RANDL, RANDOM, ranged}
pub use Rattle.sim_view.specs.Prelude.{Reaches, read_by, ReadSetup, Reason, Register, RegisterWrite, repeated}
pub use Rattle.sim_view.specs.Prelude.{repeated_sign, RESUME, RETURN_STACK, ROW, row_entry, RTN, RTNC, run}
pub use Rattle.sim_view.specs.Prelude.{Runs, RunsSteps, SDATA, SEED, SEEK, shifted, shifted_left, shifted_right}
pub use Rattle.sim_view.specs.Prelude.{ShiftOp, SHOW, shown, shown_by, signed, size_of, SLA, SLL, SLLB, SLLV, Source}
pub use Rattle.sim_view.specs.Prelude.{source_at, source_of, Space, space_of, SRA, SRAB, SRAV, SRC, SRCB}
pub use Rattle.sim_view.specs.Prelude.{SRCV, SREG, SRL, SRLB, SRLV, ST, Stack, IsAt, IsStoppedBy, start, STATB, STATUS}
pub use Rattle.sim_view.specs.Prelude.{Status, status_byte, status_of, status_word, step, Stepped, steps, STO}
pub use Rattle.sim_view.specs.Prelude.{Stopped, STORE, STREAM, STV, SUB, SUBV, sum_flags, sum_of, swapped, TABLE}
pub use Rattle.sim_view.specs.Prelude.{TAKE, target_at, target_of, To, ToMemory, ToRegisters, Turn, Turned, TurnedBy}
pub use Rattle.sim_view.specs.Prelude.{whole_turn}
pub use Rattle.sim_view.specs.Prelude.{two, Two, TwoName, unchanged, UNKN, value_at, VALUE_STACK, Vdp}
pub use Rattle.sim_view.specs.Prelude.{vdp_address_written, vdp_data_read, vdp_data_written, VdpState, view, View}
pub use Rattle.sim_view.specs.Prelude.{VISIBLE_CELLS, WHERE, WIDE, Width, with_byte, with_byte_from, with_byte_in}
pub use Rattle.sim_view.specs.Prelude.{with_byte_to, with_cell, with_condition, with_double, with_immediate}
pub use Rattle.sim_view.specs.Prelude.{with_overflow, with_pc, with_quotient, with_register, with_status}
pub use Rattle.sim_view.specs.Prelude.{turns_made, with_tested, with_value, with_word, with_word_in, within_limit}
pub use Rattle.sim_view.specs.Prelude.{Word, word_at, word_in, word_or_byte, WORKSPACE, WriteSetup, XOR, XORV}
unfoldable pub use Rattle.sim_view.specs.Prelude.{after, operand_at, reading, view_of, zeros}
pub use Rattle.sim_operands.specs.Pieces.{exit, past, return_of, with_grom_address, with_video_address}
pub use Rattle.sim_operands.specs.Subroutines.{Addressed, OperandStop, Finds, FindsOperand, grom_at, Loaded}
pub use Rattle.sim_operands.specs.Subroutines.{LoadsStream}
pub use Rattle.sim_operands.specs.Subroutines.{LoadsValue, marked_by, next_at, place_in, Placed, state_of, Stored}
pub use Rattle.sim_operands.specs.Subroutines.{StoresRegister, StoresValue, streamed}
pub use Rattle.sim_operands.specs.Values.{in_register, IsVisible, number_of_space, of_register, width_in}
pub use Rattle.sim_rows.specs.Results.{ShowsChanges, EndsRow, HasStarted, result_of, row_result, RunsRow, SeesFinished}
pub use Rattle.sim_rows.specs.Results.{SeesResult, StartsRow, StoresResult, Storing}
pub use Rattle.sim_rows.specs.Rows.{Asking, AtEntry, AtRow, return_of_destination, after_first, bytes_by}
pub use Rattle.sim_rows.specs.Rows.{destination_bytes, first_of, gone_on, has_source, Holds, is_immediate, is_row}
pub use Rattle.sim_rows.specs.Rows.{KeepsDestination, Kept, loaded_of, LoadsBy, LoadsDestination, LoadsFrom}
pub use Rattle.sim_rows.specs.Rows.{LoadsFromSource, LoadsOperands, LoadsSource, next_of, operands_of}
pub use Rattle.sim_rows.specs.Rows.{reads_destination, row_width, second_by, second_of, source_read, Sourced}
pub use Rattle.sim_rows.specs.Rows.{StoresTo, unit, word_of}
pub use Rattle.sim_rows.specs.States.{AtDispatch, after_code, code_byte, Dispatched, ShowsEnd, operation_in}
pub use Rattle.sim_rows.specs.States.{operation_in_view, ShowsState, state_at_dispatch, StoppedBy}
