-- Written by tools/interpreter from crates/native_interp/src/source.
-- The words of branches, stacks and RAND.
use Rattle.std.specs.Prelude.{ℕ, List, [], ◌∷◌}

-- >264C: BRANCH, whether BR and BS are taken
--     BRANCH MOVB @PAD+>7C,@R4LB
--            XOR R0,R4
--            SRL R4,6
--            JNC BTARG
--            MOVB @GRMRD,R4
abbrev pub test_branch : List ℕ
test_branch =
    0xD820 ∷ 0x837C ∷ 0x83E9 ∷ 0x2900 ∷ 0x0964 ∷ 0x1708 ∷ 0xD120 ∷ 0x9800 ∷ []

-- >265C: CFALSE, the condition does not hold
--     CFALSE LI R4,>2000
--            SZCB R4,@PAD+>7C
--            B @GSTEP
abbrev pub condition_false : List ℕ
condition_false =
    0x0204 ∷ 0x2000 ∷ 0x5804 ∷ 0x837C ∷ 0x0460 ∷ 0x24C2 ∷ []

-- >2668: BTARG, the target of BR and BS
--     BTARG  MOV R0,R6
--            SLA R6,11
--            SRL R6,3
--            MOVB @GRMRD,@R6LB
--            MOV R1,R4
--            SRL R4,13
--            SLA R4,13
--            A R4,R6
abbrev pub target : List ℕ
target =
    0xC180 ∷ 0x0AB6 ∷ 0x0936 ∷ 0xD820 ∷ 0x9800 ∷ 0x83ED ∷ 0xC101 ∷ 0x09D4 ∷
    0x0AD4 ∷ 0xA184 ∷ []

-- >267C: TAKE, a branch that is taken
--     TAKE   LI R4,>2000
--            SZCB R4,@PAD+>7C
--            B @GOTO
abbrev pub take_branch : List ℕ
take_branch =
    0x0204 ∷ 0x2000 ∷ 0x5804 ∷ 0x837C ∷ 0x0460 ∷ 0x24B8 ∷ []

-- >2688: CASEV
--     CASEV  CI R3,1
--            JNE CASEW
--            SRL R9,8
--     CASEW  BL @WHERE
abbrev pub case_row : List ℕ
case_row =
    0x0283 ∷ 0x0001 ∷ 0x1601 ∷ 0x0989 ∷ 0x06A0 ∷ 0x22A0 ∷ []

-- >2694: CASEN, the place in the table of CASE
--     CASEN  A R9,R9
--            A R6,R9
--            BL @SEEK
abbrev pub case_next : List ℕ
case_next =
    0xA249 ∷ 0xA246 ∷ 0x06A0 ∷ 0x22B8 ∷ []

-- >269C: CASET, the end of CASE
--     CASET  MOV R9,R6
--            JMP TAKE
abbrev pub case_target : List ℕ
case_target =
    0xC189 ∷ 0x10EE ∷ []

-- >26A0: PUSHV
--     PUSHV  CLR R12
--            MOVB @DSTACK,R12
--            AI R12,>0100
--            MOV R12,R7
--            SRL R7,8
--            CI R7,>C1
--            JH FULL
--            MOVB R12,@DSTACK
--            CLR R8
--            B @STO
abbrev pub push : List ℕ
push =
    0x04CC ∷ 0xD320 ∷ 0x8372 ∷ 0x022C ∷ 0x0100 ∷ 0xC1CC ∷ 0x0987 ∷ 0x0287 ∷
    0x00C1 ∷ 0x1B05 ∷ 0xD80C ∷ 0x8372 ∷ 0x04C8 ∷ 0x0460 ∷ 0x24F6 ∷ []

-- >26BE: FULL, a stack whose top is not visible
--     FULL   B @STK
abbrev pub stack_full : List ℕ
stack_full =
    0x0460 ∷ 0x228C ∷ []

-- >26C2: GOCALL
--     GOCALL MOVB @GRMRD,R14
--            MOVB @GRMRD,@R14LB
--     CALLT  MOVB @RSTACK,R7
--            AI R7,>0200
--            SRL R7,8
--            CI R7,>C0
--            JH FULL
abbrev pub call : List ℕ
call =
    0xD3A0 ∷ 0x9800 ∷ 0xD820 ∷ 0x9800 ∷ 0x83FD ∷ 0xD1E0 ∷ 0x8373 ∷ 0x0227 ∷
    0x0200 ∷ 0x0987 ∷ 0x0287 ∷ 0x00C0 ∷ 0x1BF1 ∷ []

-- >26DC: CALLN, the address that CALL stacks
--     CALLN  MOVB @GRMRA,R9
--            MOVB @GRMRA,@R9LB
--            MOV R9,R4
--            SLA R4,3
--            JNE CBACK
--            AI R9,>2000
--     CBACK  DEC R9
abbrev pub call_next : List ℕ
call_next =
    0xD260 ∷ 0x9802 ∷ 0xD820 ∷ 0x9802 ∷ 0x83F3 ∷ 0xC109 ∷ 0x0A34 ∷ 0x1602 ∷
    0x0229 ∷ 0x2000 ∷ 0x0609 ∷ []

-- >26F2: CALLS, the stores of CALL
--     CALLS  MOVB @R7LB,@RSTACK
--            MOVB R14,@GRMWA
--            MOVB @R14LB,@GRMWA
--            MOVB R9,@PAD(R7)
--            MOVB @R9LB,@PAD+1(R7)
--            CLR R13
--            CI R7,>7D
--            JH CALLE
--            CI R7,>7C
--            JL CALLE
--            SETO R13
--     CALLE  B @SHOW
abbrev pub call_store : List ℕ
call_store =
    0xD820 ∷ 0x83EF ∷ 0x8373 ∷ 0xD80E ∷ 0x9C02 ∷ 0xD820 ∷ 0x83FD ∷ 0x9C02 ∷
    0xD9C9 ∷ 0x8300 ∷ 0xD9E0 ∷ 0x83F3 ∷ 0x8301 ∷ 0x04CD ∷ 0x0287 ∷ 0x007D ∷
    0x1B04 ∷ 0x0287 ∷ 0x007C ∷ 0x1A01 ∷ 0x070D ∷ 0x0460 ∷ 0x2486 ∷ []

-- >2720: GORTN, RTN and RTNC
--     GORTN  MOVB @RSTACK,R2
--            SRL R2,8
--            CI R2,>C0
--            JH FULL
--     RTNW   MOVB @PAD(R2),R6
--            MOVB @PAD+1(R2),@R6LB
--            DECT R2
--            MOVB @R2LB,@RSTACK
--            MOV R0,R0
--            JEQ TAKE
--            B @GOTO
abbrev pub rtn : List ℕ
rtn =
    0xD0A0 ∷ 0x8373 ∷ 0x0982 ∷ 0x0282 ∷ 0x00C0 ∷ 0x1BC9 ∷ 0xD1A2 ∷ 0x8300 ∷
    0xD822 ∷ 0x8301 ∷ 0x83ED ∷ 0x0642 ∷ 0xD820 ∷ 0x83E5 ∷ 0x8373 ∷ 0xC000 ∷
    0x139D ∷ 0x0460 ∷ 0x24B8 ∷ []

-- >2746: FETCHV
--     FETCHV MOVB @RSTACK,R2
--            SRL R2,8
--            CI R2,>C0
--            JH FULL
--            MOV R7,R10
--            MOV R8,R15
--            BL @WHERE
abbrev pub fetch_row : List ℕ
fetch_row =
    0xD0A0 ∷ 0x8373 ∷ 0x0982 ∷ 0x0282 ∷ 0x00C0 ∷ 0x1BB6 ∷ 0xC287 ∷ 0xC3C8 ∷
    0x06A0 ∷ 0x22A0 ∷ []

-- >275A: FETCHN, the address where FETCH goes on
--     FETCHN MOV R6,R14
--            BL @SEEK
abbrev pub fetch_next : List ℕ
fetch_next =
    0xC386 ∷ 0x06A0 ∷ 0x22B8 ∷ []

-- >2760: FETCHP, the stacked address of FETCH
--     FETCHP MOV R2,R7
--            LI R3,2
--            CLR R5
--            BL @LOAD
abbrev pub fetch_pointer : List ℕ
fetch_pointer =
    0xC1C2 ∷ 0x0203 ∷ 0x0002 ∷ 0x04C5 ∷ 0x06A0 ∷ 0x2348 ∷ []

-- >276C: FETCHA, GROM at that address
--     FETCHA BL @SEEK
abbrev pub fetch_address : List ℕ
fetch_address =
    0x06A0 ∷ 0x22B8 ∷ []

-- >2770: FETCHR, the byte there
--     FETCHR BL @FETCH
abbrev pub fetch_read : List ℕ
fetch_read =
    0x06A0 ∷ 0x22C4 ∷ []

-- >2774: FETCHK, the byte is kept
--     FETCHK MOV R6,R12
--            BL @WHERE
abbrev pub fetch_keep : List ℕ
fetch_keep =
    0xC306 ∷ 0x06A0 ∷ 0x22A0 ∷ []

-- >277A: FETCHB, the address after the byte
--     FETCHB MOV R6,R9
--            BL @SEEK
abbrev pub fetch_after : List ℕ
fetch_after =
    0xC246 ∷ 0x06A0 ∷ 0x22B8 ∷ []

-- >2780: FETCHS, that address is stacked
--     FETCHS CLR R8
--            BL @STORE
abbrev pub fetch_stack : List ℕ
fetch_stack =
    0x04C8 ∷ 0x06A0 ∷ 0x239E ∷ []

-- >2786: FETCHD, the byte is stored
--     FETCHD MOV R10,R7
--            MOV R15,R8
--            MOV R12,R9
--            LI R3,1
--            LI R11,RESUME
--            B @STORE
abbrev pub fetch_store : List ℕ
fetch_store =
    0xC1CA ∷ 0xC20F ∷ 0xC24C ∷ 0x0203 ∷ 0x0001 ∷ 0x020B ∷ 0x28BA ∷ 0x0460 ∷
    0x239E ∷ []

-- >2798: GORAND
--     GORAND MOVB @PAD+>C1,R6
--            SWPB R6
--            MOVB @PAD+>C0,R6
--     RANDM  LI R9,>6FE5
--            MPY R6,R9
--            AI R10,>7AB9
--            MOVB R10,@PAD+>C0
--            SWPB R10
--            MOVB R10,@PAD+>C1
abbrev pub rand : List ℕ
rand =
    0xD1A0 ∷ 0x83C1 ∷ 0x06C6 ∷ 0xD1A0 ∷ 0x83C0 ∷ 0x0209 ∷ 0x6FE5 ∷ 0x3A46 ∷
    0x022A ∷ 0x7AB9 ∷ 0xD80A ∷ 0x83C0 ∷ 0x06CA ∷ 0xD80A ∷ 0x83C1 ∷ []

-- >27B6: RANDL, the limit of RAND
--     RANDL  MOVB @GRMRD,R6
--            SRL R6,8
--            INC R6
--            CLR R9
--            DIV R6,R9
--            SWPB R10
--            MOVB R10,@PAD+>78
--            B @GSTEP
abbrev pub rand_limit : List ℕ
rand_limit =
    0xD1A0 ∷ 0x9800 ∷ 0x0986 ∷ 0x0586 ∷ 0x04C9 ∷ 0x3E46 ∷ 0x06CA ∷ 0xD80A ∷
    0x8378 ∷ 0x0460 ∷ 0x24C2 ∷ []
