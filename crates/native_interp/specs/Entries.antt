-- Where the interpreter's parts stand, and where its two tables lead.
use Rattle.std.specs.Prelude.{
  ◌≡◌,
  ℕ,
  ◌+◌,
  ◌*◌,
  ◌/◌,
  ◌<◌,
  Bool,
  IsTrue,
  true,
  not,
  nat_eq,
  ◌&&◌,
  List,
  [],
  ◌∷◌,
  length,
  take,
  Option,
  Some,
  None,
}
use Rattle.gpl_defs.specs.declared.instruction.PlainOp.TheVariants.{RTN, RTNC, H, GT, EXIT, CARRY, OVF}
use Rattle.gpl_defs.specs.declared.instruction.ByteOp.TheVariants.{RAND, BACK, ALL}
use Rattle.gpl_defs.specs.declared.instruction.GoOp.TheVariants.{B, CALL}
use Rattle.gpl_defs.specs.declared.instruction.OneName.TheVariants.{
  ABS,
  NEG,
  INV,
  CLR,
  CASE,
  CZ,
  INC,
  DEC,
  INCT,
  DECT,
  FETCH,
  PUSH,
}
use Rattle.gpl_defs.specs.declared.instruction.TwoName.TheVariants.{
  ADD,
  SUB,
  MUL,
  DIV,
  AND,
  OR,
  XOR,
  ST,
  EX,
  CH,
  CHE,
  CGT,
  CGE,
  CEQ,
  CLOG,
  SRA,
  SLL,
  SRL,
  SRC,
}
use Rattle.gpl_defs.specs.declared.instruction.GplOperation.{GplOperation}
use Rattle.gpl_defs.specs.declared.instruction.GplOperation.TheVariants.{Plain, Byte, Jump, Branch, One, Two, Move}
use Rattle.gpl_defs.specs.Codes.{operation_at}
use Rattle.std.specs.Option.{is_some}
use Rattle.native_interp.specs.declared.addresses.TheConstants.{
  GBOOT,
  GSTEP,
  GSTOP,
  GEXIT,
  TABLE,
  OPTAB,
  UNKN,
  ROW,
  STROW,
  STV,
  GOB,
  GOEXIT,
  INCTV,
  ADDV,
  DECTV,
  SUBV,
  ABSV,
  NEGV,
  ANDV,
  ORV,
  XORV,
  INVV,
  CLRV,
  EXV,
  SRAV,
  SLLV,
  SRLV,
  SRCV,
  WIDE,
  MULV,
  DIVV,
  CHV,
  CHEV,
  CGTV,
  CGEV,
  CEQV,
  CLOGV,
  CZV,
  GOH,
  GOGT,
  GOCARY,
  GOOVF,
  BRANCH,
  CASEV,
  PUSHV,
  GOCALL,
  GORTN,
  FETCHV,
  GORAND,
  GOMOVE,
  GOALL,
  GOBACK,
}
use Rattle.native_interp.specs.Words.{origin, routines, words, word_at}

-- The first four words are the entry points.
abbrev pub EntriesComeFirst : Type 0
EntriesComeFirst = take 4 words ≡ GBOOT ∷ GSTEP ∷ GSTOP ∷ GEXIT ∷ []

-- Each part begins where the one before it ends.
abbrev pub follow : ℕ → List (ℕ × List ℕ) → Bool
follow address [] = true
follow address (routine ∷ rest) = nat_eq address routine.0 && follow (address + 2 * length routine.1) rest

abbrev pub RoutinesAreInPlace : Type 0
RoutinesAreInPlace = IsTrue (follow origin routines)

-- Where the instruction of an operation begins: its own place, or the place of the operands of all rows, where MUL and
-- DIV have a wider destination, and ST reads nothing there. A code byte that is no instruction's stops.
abbrev pub operation_entry : Option GplOperation → ℕ
operation_entry (Some (Plain RTN)) = GORTN
operation_entry (Some (Plain RTNC)) = GORTN
operation_entry (Some (Plain H)) = GOH
operation_entry (Some (Plain GT)) = GOGT
operation_entry (Some (Plain EXIT)) = GOEXIT
operation_entry (Some (Plain CARRY)) = GOCARY
operation_entry (Some (Plain OVF)) = GOOVF
operation_entry (Some (Byte RAND)) = GORAND
operation_entry (Some (Byte BACK)) = GOBACK
operation_entry (Some (Byte ALL)) = GOALL
operation_entry (Some (Jump B)) = GOB
operation_entry (Some (Jump CALL)) = GOCALL
operation_entry (Some (Branch on)) = BRANCH
operation_entry (Some (One op)) = ROW
operation_entry (Some (Two MUL)) = WIDE
operation_entry (Some (Two DIV)) = WIDE
operation_entry (Some (Two ST)) = STROW
operation_entry (Some (Two op)) = ROW
operation_entry (Some (Move kind)) = GOMOVE
operation_entry None = UNKN

-- Where the row of an operation begins, once its operands are there. INC and DEC are the sum and the difference with 1.
abbrev pub row_entry : Option GplOperation → ℕ
row_entry (Some (One ABS)) = ABSV
row_entry (Some (One NEG)) = NEGV
row_entry (Some (One INV)) = INVV
row_entry (Some (One CLR)) = CLRV
row_entry (Some (One CASE)) = CASEV
row_entry (Some (One CZ)) = CZV
row_entry (Some (One INC)) = ADDV
row_entry (Some (One DEC)) = SUBV
row_entry (Some (One INCT)) = INCTV
row_entry (Some (One DECT)) = DECTV
row_entry (Some (One FETCH)) = FETCHV
row_entry (Some (One PUSH)) = PUSHV
row_entry (Some (Two ADD)) = ADDV
row_entry (Some (Two SUB)) = SUBV
row_entry (Some (Two MUL)) = MULV
row_entry (Some (Two DIV)) = DIVV
row_entry (Some (Two AND)) = ANDV
row_entry (Some (Two OR)) = ORV
row_entry (Some (Two XOR)) = XORV
row_entry (Some (Two ST)) = STV
row_entry (Some (Two EX)) = EXV
row_entry (Some (Two CH)) = CHV
row_entry (Some (Two CHE)) = CHEV
row_entry (Some (Two CGT)) = CGTV
row_entry (Some (Two CGE)) = CGEV
row_entry (Some (Two CEQ)) = CEQV
row_entry (Some (Two CLOG)) = CLOGV
row_entry (Some (Two SRA)) = SRAV
row_entry (Some (Two SLL)) = SLLV
row_entry (Some (Two SRL)) = SRLV
row_entry (Some (Two SRC)) = SRCV
row_entry _ = UNKN

-- The first table has a word for each code byte. Those that are no instruction's lead to the stop, and they alone.
pub record CodesAreDispatched : Type 0 where
  pub entries : (code : ℕ) → code < 256 → word_at (TABLE + 2 * code) ≡ operation_entry (operation_at code)
  pub stops : (code : ℕ) → code < 256
      → nat_eq (operation_entry (operation_at code)) UNKN ≡ not (is_some (operation_at code))

-- The second has one for two code bytes, from >80 to >EB. It is read at either: a word's address loses its lowest bit.
-- So an odd code that is no operation's, such as the one after FETCH, has the word of the code before it.
abbrev pub RowsAreDispatched : Type 0
RowsAreDispatched =
    (code : ℕ) → code < 0x6C → word_at (OPTAB + code) ≡ row_entry (operation_at (0x80 + code / 2 * 2))
