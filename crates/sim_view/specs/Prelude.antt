-- The names that the clauses and definitions of a piece cite, passed on from one place. Declares nothing.
pub use Rattle.tms_defs.specs.Accesses.{Answer, Gives}
pub use Rattle.tms_defs.specs.Bytes.{HoldsBytes, with_word_in, word_in}
pub use Rattle.tms_defs.specs.Flags.{absolute_flags, absolute_of, Byte, difference_flags, difference_of, modulus}
pub use Rattle.tms_defs.specs.Flags.{negation_flags, negation_of, signed, size_of, sum_flags, sum_of, Width, Word}
pub use Rattle.console_defs.specs.Grom.{grom_address_read, grom_address_written, grom_data_read, GromState}
pub use Rattle.base_defs.specs.Addresses.{in_grom_of, next_in_grom, previous_in_grom}
pub use Rattle.console_defs.specs.Grom.{is_grom_idle, new_grom}
pub use Rattle.tms_defs.specs.Logic.{complement_of, conjunction_of, exclusive_or_of, ones_cleared, ones_set, swapped}
pub use Rattle.console_defs.specs.Machine.{IsMachine, MachineState, steps}
pub use Rattle.console_defs.specs.Memory.{IsMemory, Memory}
pub use Rattle.tms_defs.specs.MultiplyDivide.{division_of, double_word, product_of}
pub use Rattle.tms_defs.specs.Shifts.{last_out, shifted, count_in}
pub use Rattle.tms_defs.specs.Status.{bit_of, is_set, IsStatus, status_word}
pub use Rattle.console_defs.specs.Vdp.{is_vdp_idle, IsNewVdp, next_in_vdp, NoOperation, pair_kind, PairKind}
pub use Rattle.console_defs.specs.Vdp.{ReadSetup, RegisterWrite, vdp_address_written, vdp_data_read, vdp_data_written}
pub use Rattle.console_defs.specs.Vdp.{VdpState, WriteSetup}
pub use Rattle.tms_defs.specs.Words.{even, high, join, low, plus}
pub use Rattle.tms_defs.specs.declared.flags.Flags.{Flags}
pub use Rattle.tms_defs.specs.declared.instruction.ShiftOp.{ShiftOp}
pub use Rattle.tms_defs.specs.declared.instruction.ShiftOp.TheVariants.{SLA, SRA, SRC, SRL}
pub use Rattle.tms_defs.specs.declared.status.Status.{Status}
pub use Rattle.source_defs.specs.Refusals.{◌>>=◌}
pub use Rattle.gpl_defs.specs.Codes.{operation_at}
pub use Rattle.gpl_defs.specs.Reading.{address_at, from_at, index_by, length_at, read_by}
pub use Rattle.gpl_defs.specs.Reading.{source_at, space_of, target_at, word_at}
unfoldable pub use Rattle.gpl_defs.specs.Reading.{operand_at, reading}
pub use Rattle.gpl_defs.specs.declared.instruction.ByteOp.{ByteOp}
pub use Rattle.gpl_defs.specs.declared.instruction.ByteOp.TheVariants.{ALL, BACK, RAND}
pub use Rattle.gpl_defs.specs.declared.instruction.GoOp.{GoOp}
pub use Rattle.gpl_defs.specs.declared.instruction.GoOp.TheVariants.{B, CALL}
pub use Rattle.gpl_defs.specs.declared.instruction.GplInstr.{GplInstr}
pub use Rattle.gpl_defs.specs.declared.instruction.GplOperand.{GplOperand}
pub use Rattle.gpl_defs.specs.declared.instruction.GplOperation.{GplOperation}
pub use Rattle.gpl_defs.specs.declared.instruction.GplOperation.TheVariants.{Branch, Jump, Move, One, Plain, Two}
pub use Rattle.gpl_defs.specs.declared.instruction.GplRead.{GplRead}
pub use Rattle.gpl_defs.specs.declared.instruction.GplSource.{GplSource}
pub use Rattle.gpl_defs.specs.declared.instruction.MoveKind.{MoveKind}
pub use Rattle.gpl_defs.specs.declared.instruction.MoveKind.TheVariants.{GromIndexedToMemory, GromToMemory}
pub use Rattle.gpl_defs.specs.declared.instruction.MoveKind.TheVariants.{GromToRegisters, MemoryToMemory}
pub use Rattle.gpl_defs.specs.declared.instruction.MoveLength.{MoveLength}
pub use Rattle.gpl_defs.specs.declared.instruction.MoveSource.{MoveSource}
pub use Rattle.gpl_defs.specs.declared.instruction.MoveTarget.{MoveTarget}
pub use Rattle.gpl_defs.specs.declared.instruction.OneName.{OneName}
pub use Rattle.gpl_defs.specs.declared.instruction.OneName.TheVariants.{ABS, CASE, CLR, CZ, DEC, DECT, INC, INCT, INV}
pub use Rattle.gpl_defs.specs.declared.instruction.OneName.TheVariants.{NEG, PUSH}
pub use Rattle.gpl_defs.specs.declared.instruction.PlainOp.{PlainOp}
pub use Rattle.gpl_defs.specs.declared.instruction.PlainOp.TheVariants.{CARRY, EXIT, GT, H, OVF, RTN, RTNC}
pub use Rattle.gpl_defs.specs.declared.instruction.Space.{Space}
pub use Rattle.gpl_defs.specs.declared.instruction.Space.TheVariants.{Cpu, Vdp}
pub use Rattle.gpl_defs.specs.declared.instruction.TwoName.{TwoName}
pub use Rattle.gpl_defs.specs.declared.instruction.TwoName.TheVariants.{ADD, AND, CEQ, CGE, CGT, CH, CHE, CLOG, DIV, EX}
pub use Rattle.gpl_defs.specs.declared.instruction.TwoName.TheVariants.{MUL, OR, SLL, ST, SUB, XOR}
pub use Rattle.gpl_step_defs.specs.Arithmetic.{count_of, divided, exchanged, has_quotient, repeated, repeated_sign}
pub use Rattle.gpl_step_defs.specs.Arithmetic.{shifted_left, shifted_right, Source, two, with_quotient}
pub use Rattle.gpl_step_defs.specs.Changes.{Changes, condition, finished, shown, status_byte, status_of, unchanged}
pub use Rattle.gpl_step_defs.specs.Changes.{with_byte, with_byte_in, with_cell, with_condition, with_double}
pub use Rattle.gpl_step_defs.specs.Changes.{with_overflow, with_pc, with_register, with_status, with_value}
pub use Rattle.gpl_step_defs.specs.Copy.{byte_from, copied, From, FromGrom, FromMemory, length_of, move_found, moved}
pub use Rattle.gpl_step_defs.specs.Copy.{Moving, next_from, next_to, origin_of, target_of, To, ToMemory, ToRegisters}
pub use Rattle.gpl_step_defs.specs.Copy.{with_byte_to, within_limit}
pub use Rattle.gpl_step_defs.specs.Flow.{branched, cells_at, drawn, grown_by, is_taken, next_seed, on_stack}
pub use Rattle.gpl_step_defs.specs.Flow.{with_byte_from, with_word}
pub use Rattle.gpl_step_defs.specs.Place.{further, byte_at, byte_in, double_at, indexed, is_visible, Place, place_of}
pub use Rattle.gpl_step_defs.specs.Place.{pointed, ranged, value_at}
pub use Rattle.gpl_step_defs.specs.Reasons.{number_of}
pub use Rattle.gpl_step_defs.specs.Run.{bound, bound_at, bound_by, bytes_or_none, GplRun, one_more, run, turns_made}
pub use Rattle.gpl_step_defs.specs.State.{GplState, start}
unfoldable pub use Rattle.gpl_step_defs.specs.State.{zeros}
pub use Rattle.gpl_step_defs.specs.Step.{destination_size, executed, jump, one, plain, source_of, step, with_immediate}
pub use Rattle.gpl_step_defs.specs.Step.{with_tested, word_or_byte}
unfoldable pub use Rattle.gpl_step_defs.specs.Step.{after}
pub use Rattle.gpl_step_defs.specs.declared.cells.TheConstants.{CHARACTER, COLUMN, RANDOM, RETURN_STACK, SEED, STATUS}
pub use Rattle.gpl_step_defs.specs.declared.cells.TheConstants.{VALUE_STACK, VISIBLE_CELLS}
pub use Rattle.gpl_step_defs.specs.declared.reason.Reason.{Reason}
pub use Rattle.gpl_step_defs.specs.declared.reason.Reason.TheVariants.{Cell, Length, Opcode, Register, Stack}
pub use Rattle.gpl_step_defs.specs.declared.status_bits.TheConstants.{CARRY_BIT, CONDITION_BIT, GREATER_BIT, HIGHER_BIT}
pub use Rattle.gpl_step_defs.specs.declared.status_bits.TheConstants.{OVERFLOW_BIT}
pub use Rattle.native_interp.specs.Entries.{operation_entry, row_entry}
pub use Rattle.native_interp.specs.Words.{origin}
pub use Rattle.native_interp.specs.declared.addresses.TheConstants.{ABSV, ADDR, ADDV, ANDV, APTR, ASPACE, BRANCH, BTARG}
pub use Rattle.native_interp.specs.declared.addresses.TheConstants.{CALLN, CALLS, CASEN, CASET, CASEV}
pub use Rattle.native_interp.specs.declared.addresses.TheConstants.{CEQV, CFALSE, CGEV, CGTV, CHEV, CHV, CLOGV, CLRV}
pub use Rattle.native_interp.specs.declared.addresses.TheConstants.{COPY, COPYN, COPYS, COUNT, CTRUE, CZV, DECTV}
pub use Rattle.native_interp.specs.declared.addresses.TheConstants.{DIVBY, DIVE, DIVL, DIVQ, DIVS, DIVV, DIVW, EXB}
pub use Rattle.native_interp.specs.declared.addresses.TheConstants.{EXV, FETCH, FETCHA, FETCHB, FETCHD, FETCHK}
pub use Rattle.native_interp.specs.declared.addresses.TheConstants.{FETCHN, FETCHP, FETCHR, FETCHS, FETCHV, FILL}
pub use Rattle.native_interp.specs.declared.addresses.TheConstants.{GBOOT, GEXIT, GO, GOALL, GOB, GOBACK, GOCALL}
pub use Rattle.native_interp.specs.declared.addresses.TheConstants.{GOCARY, GOEXIT, GOGT, GOH, GOMOVE, GOOVF, GORAND}
pub use Rattle.native_interp.specs.declared.addresses.TheConstants.{GORTN, GOTO, GSTEP, GSTOP, INCTV, INDEX, INVV}
pub use Rattle.native_interp.specs.declared.addresses.TheConstants.{LDATA, LOAD, MOVEA, MOVEB, MOVED, MOVEK, MOVEL}
pub use Rattle.native_interp.specs.declared.addresses.TheConstants.{MOVEN, MOVER, MOVES, MOVEW, MOVEX, MULB, MULV}
pub use Rattle.native_interp.specs.declared.addresses.TheConstants.{NEGV, OPTAB, OPVAL, ORV, OVER, PUSHV, RANDL}
pub use Rattle.native_interp.specs.declared.addresses.TheConstants.{RESUME, ROW, SDATA, SEEK, SHOW, SLLB, SLLV}
pub use Rattle.native_interp.specs.declared.addresses.TheConstants.{SRAB, SRAV, SRCB, SRCV, SREG, SRLB, SRLV, STATB}
pub use Rattle.native_interp.specs.declared.addresses.TheConstants.{STO, STORE, STREAM, STV, SUBV, TABLE, TAKE}
pub use Rattle.native_interp.specs.declared.addresses.TheConstants.{UNKN, WHERE, WIDE, WORKSPACE, XORV}
pub use Rattle.native_interp.specs.declared.words.TheConstants.{INTERP}
pub use Rattle.interp_defs.specs.Boot.{HoldsEntry, IsBoot}
pub use Rattle.interp_defs.specs.Interpreter.{address_register, code_register, HoldsRegister, bound_to_dispatch}
pub use Rattle.interp_defs.specs.Match.{IsFetched, IsHalted, IsMatching, Matches, PortsAreIdle, shown_by, IsStoppedBy}
pub use Rattle.interp_defs.specs.Programs.{EndsAs, RunsSteps}
pub use Rattle.interp_defs.specs.Runs.{is_turn_end, Runs}
pub use Rattle.interp_defs.specs.Turned.{from_dispatch, Reaches, Turned, TurnedBy, whole_turn}
pub use Rattle.interp_defs.specs.Turns.{Boots, IsTurn}
pub use Rattle.interp_defs.specs.declared.turn.Turn.{Turn}
pub use Rattle.interp_defs.specs.declared.turn.Turn.TheVariants.{Stepped, Stopped}
pub use Rattle.sim_view.specs.Exits.{ReachesWithin, Exit, Exits}
pub use Rattle.sim_view.specs.View.{listed, IsAt, view, View}
unfoldable pub use Rattle.sim_view.specs.View.{view_of}
