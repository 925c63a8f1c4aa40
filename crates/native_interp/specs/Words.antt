-- Written by tools/interpreter from crates/native_interp/src/source.
-- The words of the interpreter from >2000 up, part by part in the order of its source.
use Rattle.std.specs.Prelude.{ℕ, ◌-◌, ◌/◌, List, [], ◌∷◌, ◌++◌, flat_map, slice_index}
use Rattle.native_interp.specs.declared.addresses.TheConstants.{
  ORIGIN,
  TABLE,
  OPTAB,
  GBOOT,
  STK,
  UNKN,
  BAD,
  GSTOP,
  GEXIT,
  WHERE,
  SEEK,
  FETCH,
  ADDR,
  APTR,
  INDEX,
  ASPACE,
  LOAD,
  LDATA,
  STREAM,
  STORE,
  SDATA,
  SREG,
  ROW,
  GO,
  STROW,
  OPSTWO,
  OPVAL,
  GOEXIT,
  INCTV,
  ADDV,
  DECTV,
  SUBV,
  ABSV,
  NEGV,
  STATB,
  SHOW,
  SHOWN,
  GOB,
  GOTO,
  GSTEP,
  STV,
  STO,
  ANDV,
  ORV,
  XORV,
  INVV,
  CLRV,
  EXV,
  EXB,
  COUNT,
  SRAV,
  SRAB,
  SLLV,
  SLLB,
  SRLV,
  SRLB,
  SRCV,
  SRCB,
  WIDE,
  MULV,
  MULB,
  DIVV,
  DIVBY,
  DIVW,
  DIVL,
  DIVQ,
  DIVS,
  DIVE,
  OVER,
  CHV,
  CHEV,
  CGTV,
  CGEV,
  CEQV,
  CLOGV,
  CZV,
  GOH,
  GOGT,
  GOCARY,
  GOOVF,
  CTRUE,
  BRANCH,
  CFALSE,
  BTARG,
  TAKE,
  CASEV,
  CASEN,
  CASET,
  PUSHV,
  FULL,
  GOCALL,
  CALLN,
  CALLS,
  GORTN,
  FETCHV,
  FETCHN,
  FETCHP,
  FETCHA,
  FETCHR,
  FETCHK,
  FETCHB,
  FETCHS,
  FETCHD,
  GORAND,
  RANDL,
  LONG,
  GOMOVE,
  MOVEN,
  MOVEL,
  MOVED,
  MOVEB,
  COPYCC,
  SETR,
  COPYVC,
  COPYGC,
  SETW,
  COPYCV,
  COPYGV,
  COPY,
  COPYS,
  COPYN,
  COPYE,
  RESUME,
  MOVER,
  MOVES,
  MOVEA,
  MOVEX,
  MOVEW,
  MOVEK,
  NOREG,
  SETVV,
  COPYVV,
  GOALL,
  FILL,
  GOBACK,
}
use Rattle.native_interp.specs.TableWords as table
use Rattle.native_interp.specs.RoutineWords as routine
use Rattle.native_interp.specs.OperationWords as operation
use Rattle.native_interp.specs.FlowWords as flow
use Rattle.native_interp.specs.CopyWords as copy

-- the address of the first word
abbrev pub origin : ℕ
origin = ORIGIN

-- the entry points and the two tables
abbrev pub tables : List (ℕ × List ℕ)
tables =
    (ORIGIN, table.entries) ∷ (TABLE, table.code_table) ∷ (OPTAB, table.operation_table) ∷ []

-- boot, the stops, the routines, the operands of a row, and EXIT
abbrev pub routine_parts : List (ℕ × List ℕ)
routine_parts =
    (GBOOT, routine.boot) ∷ (STK, routine.stack_stop) ∷ (UNKN, routine.code_stop) ∷ (BAD, routine.cell_stop) ∷
    (GSTOP, routine.stop) ∷ (GEXIT, routine.leave) ∷ (WHERE, routine.where_next) ∷ (SEEK, routine.seek) ∷
    (FETCH, routine.fetch) ∷ (ADDR, routine.address) ∷ (APTR, routine.pointer) ∷ (INDEX, routine.index) ∷
    (ASPACE, routine.range) ∷ (LOAD, routine.load) ∷ (LDATA, routine.load_video) ∷ (STREAM, routine.stream) ∷
    (STORE, routine.store) ∷ (SDATA, routine.store_video) ∷ (SREG, routine.store_register) ∷ (ROW, routine.row) ∷
    (GO, routine.go_row) ∷ (STROW, routine.st_row) ∷ (OPSTWO, routine.source) ∷ (OPVAL, routine.source_value) ∷
    (GOEXIT, routine.exit) ∷ []

-- the operations on one and two operands, with the end of a row and the step, and the tests of the status
abbrev pub operation_parts : List (ℕ × List ℕ)
operation_parts =
    (INCTV, operation.inct) ∷ (ADDV, operation.add) ∷ (DECTV, operation.dect) ∷ (SUBV, operation.sub) ∷
    (ABSV, operation.abs) ∷ (NEGV, operation.neg) ∷ (STATB, operation.set_status) ∷ (SHOW, operation.show) ∷
    (SHOWN, operation.show_character) ∷ (GOB, operation.branch) ∷ (GOTO, operation.go_to) ∷
    (GSTEP, operation.step) ∷ (STV, operation.st) ∷ (STO, operation.store_result) ∷ (ANDV, operation.and_ones) ∷
    (ORV, operation.or_ones) ∷ (XORV, operation.exclusive_or) ∷ (INVV, operation.inv) ∷ (CLRV, operation.clr) ∷
    (EXV, operation.ex) ∷ (EXB, operation.ex_source) ∷ (COUNT, operation.count) ∷ (SRAV, operation.sra) ∷
    (SRAB, operation.sra_value) ∷ (SLLV, operation.sll) ∷ (SLLB, operation.sll_value) ∷ (SRLV, operation.srl) ∷
    (SRLB, operation.srl_value) ∷ (SRCV, operation.src) ∷ (SRCB, operation.src_value) ∷ (WIDE, operation.wide) ∷
    (MULV, operation.mul) ∷ (MULB, operation.mul_low) ∷ (DIVV, operation.div) ∷ (DIVBY, operation.div_byte) ∷
    (DIVW, operation.div_word) ∷ (DIVL, operation.div_loaded) ∷ (DIVQ, operation.div_remainder) ∷
    (DIVS, operation.div_store) ∷ (DIVE, operation.div_end) ∷ (OVER, operation.over) ∷ (CHV, operation.ch) ∷
    (CHEV, operation.che) ∷ (CGTV, operation.cgt) ∷ (CGEV, operation.cge) ∷ (CEQV, operation.ceq) ∷
    (CLOGV, operation.clog) ∷ (CZV, operation.cz) ∷ (GOH, operation.test_h) ∷ (GOGT, operation.test_gt) ∷
    (GOCARY, operation.test_carry) ∷ (GOOVF, operation.test_ovf) ∷ (CTRUE, operation.condition_true) ∷ []

-- branches, stacks and RAND
abbrev pub flow_parts : List (ℕ × List ℕ)
flow_parts =
    (BRANCH, flow.test_branch) ∷ (CFALSE, flow.condition_false) ∷ (BTARG, flow.target) ∷ (TAKE, flow.take_branch) ∷
    (CASEV, flow.case_row) ∷ (CASEN, flow.case_next) ∷ (CASET, flow.case_target) ∷ (PUSHV, flow.push) ∷
    (FULL, flow.stack_full) ∷ (GOCALL, flow.call) ∷ (CALLN, flow.call_next) ∷ (CALLS, flow.call_store) ∷
    (GORTN, flow.rtn) ∷ (FETCHV, flow.fetch_row) ∷ (FETCHN, flow.fetch_next) ∷ (FETCHP, flow.fetch_pointer) ∷
    (FETCHA, flow.fetch_address) ∷ (FETCHR, flow.fetch_read) ∷ (FETCHK, flow.fetch_keep) ∷
    (FETCHB, flow.fetch_after) ∷ (FETCHS, flow.fetch_stack) ∷ (FETCHD, flow.fetch_store) ∷ (GORAND, flow.rand) ∷
    (RANDL, flow.rand_limit) ∷ []

-- MOVE, ALL and BACK
abbrev pub copy_parts : List (ℕ × List ℕ)
copy_parts =
    (LONG, copy.length_stop) ∷ (GOMOVE, copy.move) ∷ (MOVEN, copy.move_length) ∷ (MOVEL, copy.move_target) ∷
    (MOVED, copy.move_source) ∷ (MOVEB, copy.move_begin) ∷ (COPYCC, copy.copy_cells) ∷ (SETR, copy.set_source) ∷
    (COPYVC, copy.copy_video) ∷ (COPYGC, copy.copy_grom) ∷ (SETW, copy.set_target) ∷
    (COPYCV, copy.copy_cells_to_video) ∷ (COPYGV, copy.copy_grom_to_video) ∷ (COPY, copy.copy) ∷
    (COPYS, copy.copy_store) ∷ (COPYN, copy.copy_next) ∷ (COPYE, copy.copy_end) ∷ (RESUME, copy.resume) ∷
    (MOVER, copy.move_registers) ∷ (MOVES, copy.move_grom) ∷ (MOVEA, copy.move_index) ∷ (MOVEX, copy.move_where) ∷
    (MOVEW, copy.move_seek) ∷ (MOVEK, copy.move_stream) ∷ (NOREG, copy.register_stop) ∷ (SETVV, copy.set_both) ∷
    (COPYVV, copy.copy_in_video) ∷ (GOALL, copy.all) ∷ (FILL, copy.all_fill) ∷ (GOBACK, copy.back) ∷ []

-- every part with its address
abbrev pub routines : List (ℕ × List ℕ)
routines = tables ++ (routine_parts ++ (operation_parts ++ (flow_parts ++ copy_parts)))

-- all words, one part after the other
abbrev pub words : List ℕ
words = flat_map (λ routine. routine.1) routines

-- the word at an address, whose lowest bit is dropped
abbrev pub word_at : ℕ → ℕ
word_at address = slice_index words ((address - origin) / 2)
