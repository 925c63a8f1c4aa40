-- The table of codes: each operation with its code bytes and its name.
use Rattle.std.specs.Prelude.{ℕ, ◌+◌, ◌&&◌, Bool, true, false, nat_le, nat_lt, List, [], ◌∷◌, ◌++◌, map}
use Rattle.std.specs.Prelude.{codes, find, Option}
use Rattle.gpl_defs.specs.declared.instruction.PlainOp.{PlainOp}
use Rattle.gpl_defs.specs.declared.instruction.PlainOp.TheVariants.{RTN, RTNC, H, GT, EXIT, CARRY, OVF}
use Rattle.gpl_defs.specs.declared.instruction.ByteOp.{ByteOp}
use Rattle.gpl_defs.specs.declared.instruction.ByteOp.TheVariants.{RAND, BACK, ALL}
use Rattle.gpl_defs.specs.declared.instruction.GoOp.{GoOp}
use Rattle.gpl_defs.specs.declared.instruction.GoOp.TheVariants.{B, CALL}
use Rattle.gpl_defs.specs.declared.instruction.OneName.{OneName}
use Rattle.gpl_defs.specs.declared.instruction.OneName.TheVariants.{
  ABS,
  NEG,
  INV,
  CLR,
  CASE,
  CZ,
  INC,
  DEC,
  INCT,
  DECT,
  FETCH,
  PUSH,
}
use Rattle.gpl_defs.specs.declared.instruction.TwoName.{TwoName}
use Rattle.gpl_defs.specs.declared.instruction.TwoName.TheVariants.{
  ADD,
  SUB,
  MUL,
  DIV,
  AND,
  OR,
  XOR,
  ST,
  EX,
  CH,
  CHE,
  CGT,
  CGE,
  CEQ,
  CLOG,
  SRA,
  SLL,
  SRL,
  SRC,
}
use Rattle.gpl_defs.specs.declared.instruction.MoveKind.{MoveKind}
use Rattle.gpl_defs.specs.declared.instruction.MoveKind.TheVariants.{
  GromToMemory,
  GromIndexedToMemory,
  MemoryToMemory,
  GromToRegisters,
}
use Rattle.gpl_defs.specs.declared.instruction.GplOperation.{GplOperation}
use Rattle.gpl_defs.specs.declared.instruction.GplOperation.TheVariants.{Plain, Byte, Jump, Branch, One, Two, Move}

-- A row of the table: the first of the operation's code bytes, how many follow one another from there on, and its name.
pub record Row : Type 0 where
  pub code : ℕ
  pub count : ℕ
  pub name : List ℕ

abbrev pub row : ℕ → ℕ → List ℕ → Row
row code count name = record { code = code; count = count; name = name }

-- No operand: one code byte. GPL Programmer's Guide, the statements without operand.
abbrev pub plain_row : PlainOp → Row
plain_row RTN = row 0x00 1 (codes "RTN")
plain_row RTNC = row 0x01 1 (codes "RTNC")
plain_row H = row 0x09 1 (codes "H")
plain_row GT = row 0x0A 1 (codes "GT")
plain_row EXIT = row 0x0B 1 (codes "EXIT")
plain_row CARRY = row 0x0C 1 (codes "CARRY")
plain_row OVF = row 0x0D 1 (codes "OVF")

-- One byte as operand: one code byte. GPL Programmer's Guide, RAND, BACK and ALL.
abbrev pub byte_row : ByteOp → Row
byte_row RAND = row 0x02 1 (codes "RAND")
byte_row BACK = row 0x04 1 (codes "BACK")
byte_row ALL = row 0x07 1 (codes "ALL")

-- An address in two bytes as operand: one code byte. GPL Programmer's Guide, B and CALL.
abbrev pub go_row : GoOp → Row
go_row B = row 0x05 1 (codes "B")
go_row CALL = row 0x06 1 (codes "CALL")

-- Thirteen bits of a target in the same GROM, the high five of them in the code byte. GPL Programmer's Guide, BR and
-- BS.
abbrev pub branch_row : Bool → Row
branch_row false = row 0x40 32 (codes "BR")
branch_row true = row 0x60 32 (codes "BS")

-- One operand: the code byte after the first is the form of words. GPL Programmer's Guide, the statements with one
-- operand. Profile: FETCH and PUSH have the form of bytes alone.
abbrev pub one_row : OneName → Row
one_row ABS = row 0x80 2 (codes "ABS")
one_row NEG = row 0x82 2 (codes "NEG")
one_row INV = row 0x84 2 (codes "INV")
one_row CLR = row 0x86 2 (codes "CLR")
one_row FETCH = row 0x88 1 (codes "FETCH")
one_row CASE = row 0x8A 2 (codes "CASE")
one_row PUSH = row 0x8C 1 (codes "PUSH")
one_row CZ = row 0x8E 2 (codes "CZ")
one_row INC = row 0x90 2 (codes "INC")
one_row DEC = row 0x92 2 (codes "DEC")
one_row INCT = row 0x94 2 (codes "INCT")
one_row DECT = row 0x96 2 (codes "DECT")

-- Two operands: 1 more is the form of words, and 2 more an immediate source. GPL Programmer's Guide, the statements
-- with two operands.
-- Profile: EX has no immediate source.
abbrev pub two_row : TwoName → Row
two_row ADD = row 0xA0 4 (codes "ADD")
two_row SUB = row 0xA4 4 (codes "SUB")
two_row MUL = row 0xA8 4 (codes "MUL")
two_row DIV = row 0xAC 4 (codes "DIV")
two_row AND = row 0xB0 4 (codes "AND")
two_row OR = row 0xB4 4 (codes "OR")
two_row XOR = row 0xB8 4 (codes "XOR")
two_row ST = row 0xBC 4 (codes "ST")
two_row EX = row 0xC0 2 (codes "EX")
two_row CH = row 0xC4 4 (codes "CH")
two_row CHE = row 0xC8 4 (codes "CHE")
two_row CGT = row 0xCC 4 (codes "CGT")
two_row CGE = row 0xD0 4 (codes "CGE")
two_row CEQ = row 0xD4 4 (codes "CEQ")
two_row CLOG = row 0xD8 4 (codes "CLOG")
two_row SRA = row 0xDC 4 (codes "SRA")
two_row SLL = row 0xE0 4 (codes "SLL")
two_row SRL = row 0xE4 4 (codes "SRL")
two_row SRC = row 0xE8 4 (codes "SRC")

-- Profile: MOVE has four forms by its target and source; 1 more is an immediate length.
abbrev pub move_row : MoveKind → Row
move_row GromToMemory = row 0x30 2 (codes "MOVE")
move_row GromIndexedToMemory = row 0x32 2 (codes "MOVE")
move_row MemoryToMemory = row 0x34 2 (codes "MOVE")
move_row GromToRegisters = row 0x38 2 (codes "MOVE")

abbrev pub row_of : GplOperation → Row
row_of (Plain op) = plain_row op
row_of (Byte op) = byte_row op
row_of (Jump op) = go_row op
row_of (Branch on) = branch_row on
row_of (One op) = one_row op
row_of (Two op) = two_row op
row_of (Move kind) = move_row kind

abbrev pub plain_operations : List PlainOp
plain_operations = RTN ∷ RTNC ∷ H ∷ GT ∷ EXIT ∷ CARRY ∷ OVF ∷ []

abbrev pub byte_operations : List ByteOp
byte_operations = RAND ∷ BACK ∷ ALL ∷ []

abbrev pub go_operations : List GoOp
go_operations = B ∷ CALL ∷ []

abbrev pub one_operations : List OneName
one_operations = ABS ∷ NEG ∷ INV ∷ CLR ∷ FETCH ∷ CASE ∷ PUSH ∷ CZ ∷ INC ∷ DEC ∷ INCT ∷ DECT ∷ []

abbrev pub two_operations : List TwoName
two_operations =
    ADD ∷ SUB ∷ MUL ∷ DIV ∷ AND ∷ OR ∷ XOR ∷ ST ∷ EX ∷ CH ∷ CHE ∷ CGT ∷ CGE ∷ CEQ ∷ CLOG ∷ SRA ∷ SLL ∷ SRL ∷ SRC ∷ []

abbrev pub move_kinds : List MoveKind
move_kinds = GromToMemory ∷ GromIndexedToMemory ∷ MemoryToMemory ∷ GromToRegisters ∷ []

-- The rows of the table, by the form of their operands.
abbrev pub operations : List GplOperation
operations =
    map Plain plain_operations
    ++ (map Byte byte_operations
    ++ (map Jump go_operations
    ++ (map Branch (false ∷ true ∷ [])
    ++ (map One one_operations ++ (map Two two_operations ++ map Move move_kinds)))))

-- A code byte belongs to an operation where it is one of its row.
abbrev pub has_code : GplOperation → ℕ → Bool
has_code operation byte =
    nat_le (row_of operation).code byte && nat_lt byte ((row_of operation).code + (row_of operation).count)

-- The operation of a code byte. A byte that belongs to none is refused.
abbrev pub operation_at : ℕ → Option GplOperation
operation_at byte = find (λ operation. has_code operation byte) operations
