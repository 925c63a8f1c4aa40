-- Written by tools/interpreter from crates/native_interp/src/source.
-- The words of boot, the stops, the routines, the operands of a row, and EXIT.
use Rattle.std.specs.Prelude.{ℕ, List, [], ◌∷◌}

-- >2274: GBOOT
--     GBOOT  LI R4,>9F7E
--            MOVB R4,@DSTACK
--            SWPB R4
--            MOVB R4,@RSTACK
--            MOV R0,R6
--            LI R11,GSTEP
--            B @SEEK
abbrev pub boot : List ℕ
boot =
    0x0204 ∷ 0x9F7E ∷ 0xD804 ∷ 0x8372 ∷ 0x06C4 ∷ 0xD804 ∷ 0x8373 ∷ 0xC180 ∷
    0x020B ∷ 0x24C2 ∷ 0x0460 ∷ 0x22B8 ∷ []

-- >228C: STK
--     STK    LI R0,3
--            JMP GSTOP
abbrev pub stack_stop : List ℕ
stack_stop =
    0x0200 ∷ 0x0003 ∷ 0x1005 ∷ []

-- >2292: UNKN
--     UNKN   LI R0,1
--            JMP GSTOP
abbrev pub code_stop : List ℕ
code_stop =
    0x0200 ∷ 0x0001 ∷ 0x1002 ∷ []

-- >2298: BAD
--     BAD    LI R0,2
abbrev pub cell_stop : List ℕ
cell_stop =
    0x0200 ∷ 0x0002 ∷ []

-- >229C: GSTOP
--     GSTOP  JMP GSTOP
abbrev pub stop : List ℕ
stop =
    0x10FF ∷ []

-- >229E: GEXIT
--     GEXIT  JMP GEXIT
abbrev pub leave : List ℕ
leave =
    0x10FF ∷ []

-- >22A0: WHERE
--     WHERE  MOVB @GRMRA,R6
--            MOVB @GRMRA,@R6LB
--            MOV R6,R4
--            SLA R4,3
--            JNE WBACK
--            AI R6,>2000
--     WBACK  DEC R6
--            B *R11
abbrev pub where_next : List ℕ
where_next =
    0xD1A0 ∷ 0x9802 ∷ 0xD820 ∷ 0x9802 ∷ 0x83ED ∷ 0xC106 ∷ 0x0A34 ∷ 0x1602 ∷
    0x0226 ∷ 0x2000 ∷ 0x0606 ∷ 0x045B ∷ []

-- >22B8: SEEK
--     SEEK   MOVB R6,@GRMWA
--            MOVB @R6LB,@GRMWA
--            B *R11
abbrev pub seek : List ℕ
seek =
    0xD806 ∷ 0x9C02 ∷ 0xD820 ∷ 0x83ED ∷ 0x9C02 ∷ 0x045B ∷ []

-- >22C4: FETCH
--     FETCH  CLR R6
--            MOVB @GRMRD,R6
--            B *R11
abbrev pub fetch : List ℕ
fetch =
    0x04C6 ∷ 0xD1A0 ∷ 0x9800 ∷ 0x045B ∷ []

-- >22CC: ADDR
--     ADDR   MOVB @GRMRD,R2
--            JLT ALONG
--            SRL R2,8
--            CLR R5
--     ASHORT CI R3,4
--            JH ACELLS
--            B *R11
--     ALONG  SRL R2,8
--            MOV R2,R5
--            SLA R2,12
--            SRL R2,4
--            CI R2,>0F00
--            JNE ALOW
--     AHIGH  MOVB @GRMRD,R2
--     ALOW   MOVB @GRMRD,@R2LB
abbrev pub address : List ℕ
address =
    0xD0A0 ∷ 0x9800 ∷ 0x1106 ∷ 0x0982 ∷ 0x04C5 ∷ 0x0283 ∷ 0x0004 ∷ 0x1B2D ∷
    0x045B ∷ 0x0982 ∷ 0xC142 ∷ 0x0AC2 ∷ 0x0942 ∷ 0x0282 ∷ 0x0F00 ∷ 0x1602 ∷
    0xD0A0 ∷ 0x9800 ∷ 0xD820 ∷ 0x9800 ∷ 0x83E5 ∷ []

-- >22F6: APTR, the pointer of an operand
--     APTR   SRL R5,5
--            JNC INDEX
--            CI R2,>C0
--            JH BAD
--            CI R2,>7C
--            JEQ BAD
--            MOVB @PAD(R2),R4
--            MOVB @PAD+1(R2),@R4LB
--            MOV R4,R2
abbrev pub pointer : List ℕ
pointer =
    0x0955 ∷ 0x170C ∷ 0x0282 ∷ 0x00C0 ∷ 0x1BCC ∷ 0x0282 ∷ 0x007C ∷ 0x13C9 ∷
    0xD122 ∷ 0x8300 ∷ 0xD822 ∷ 0x8301 ∷ 0x83E9 ∷ 0xC084 ∷ []

-- >2312: INDEX, the index of an operand
--     INDEX  MOV R5,R4
--            SRL R4,2
--            JNC ASPACE
--     INDEXR MOVB @GRMRD,R4
--            SRL R4,8
--            CI R4,>C0
--            JH BAD
--     INDEXW MOVB @PAD(R4),R6
--            MOVB @PAD+1(R4),@R6LB
--            A R6,R2
abbrev pub index : List ℕ
index =
    0xC105 ∷ 0x0924 ∷ 0x170C ∷ 0xD120 ∷ 0x9800 ∷ 0x0984 ∷ 0x0284 ∷ 0x00C0 ∷
    0x1BBA ∷ 0xD1A4 ∷ 0x8300 ∷ 0xD824 ∷ 0x8301 ∷ 0x83ED ∷ 0xA086 ∷ []

-- >2330: ASPACE, the space and the range of an operand
--     ASPACE ANDI R5,1
--            JNE ADONE
--     ACELLS CI R2,>C2
--            JH BAD
--            MOV R3,R4
--            A R2,R4
--            CI R4,>C2
--            JH BAD
--     ADONE  B *R11
abbrev pub range : List ℕ
range =
    0x0245 ∷ 0x0001 ∷ 0x1608 ∷ 0x0282 ∷ 0x00C2 ∷ 0x1BAE ∷ 0xC103 ∷ 0xA102 ∷
    0x0284 ∷ 0x00C2 ∷ 0x1BA9 ∷ 0x045B ∷ []

-- >2348: LOAD
--     LOAD   MOV R5,R5
--            JNE LOTHER
--     LCELL  CLR R6
--            MOVB @PAD(R2),R6
--            CI R3,1
--            JEQ LDONE
--            MOVB @PAD+1(R2),@R6LB
--            B *R11
--     LOTHER CI R5,1
--            JH STREAM
--            MOV R2,R4
--            SLA R4,2
--            SRL R4,2
--     LVSET  MOVB @R4LB,@VDPWA
--            MOVB R4,@VDPWA
abbrev pub load : List ℕ
load =
    0xC145 ∷ 0x160A ∷ 0x04C6 ∷ 0xD1A2 ∷ 0x8300 ∷ 0x0283 ∷ 0x0001 ∷ 0x1318 ∷
    0xD822 ∷ 0x8301 ∷ 0x83ED ∷ 0x045B ∷ 0x0285 ∷ 0x0001 ∷ 0x1B12 ∷ 0xC102 ∷
    0x0A24 ∷ 0x0924 ∷ 0xD820 ∷ 0x83E9 ∷ 0x8C02 ∷ 0xD804 ∷ 0x8C02 ∷ []

-- >2376: LDATA, the bytes of video memory
--     LDATA  CLR R6
--            MOVB @VDPRD,R6
--            CI R3,1
--            JEQ LDONE
--            MOVB @VDPRD,@R6LB
--     LDONE  B *R11
abbrev pub load_video : List ℕ
load_video =
    0x04C6 ∷ 0xD1A0 ∷ 0x8800 ∷ 0x0283 ∷ 0x0001 ∷ 0x1303 ∷ 0xD820 ∷ 0x8800 ∷
    0x83ED ∷ 0x045B ∷ []

-- >238A: STREAM
--     STREAM CLR R6
--            MOVB @GRMRD,R6
--            CI R3,1
--            JEQ TDONE
--            MOVB @GRMRD,@R6LB
--     TDONE  B *R11
abbrev pub stream : List ℕ
stream =
    0x04C6 ∷ 0xD1A0 ∷ 0x9800 ∷ 0x0283 ∷ 0x0001 ∷ 0x1303 ∷ 0xD820 ∷ 0x9800 ∷
    0x83ED ∷ 0x045B ∷ []

-- >239E: STORE
--     STORE  MOV R8,R8
--            JNE SOTHER
--            MOVB R9,@PAD(R7)
--            CI R7,>7D
--            JNE SCELL
--            SETO R13
--     SCELL  CI R3,1
--            JEQ SDONE
--            MOVB @R9LB,@PAD+1(R7)
--            CI R7,>7C
--            JNE SDONE
--            SETO R13
--     SDONE  B *R11
--     SOTHER CI R8,1
--            JH SREG
--            MOV R7,R4
--            SLA R4,2
--            SRL R4,2
--            AI R4,>4000
--     SVSET  MOVB @R4LB,@VDPWA
--            MOVB R4,@VDPWA
abbrev pub store : List ℕ
store =
    0xC208 ∷ 0x1611 ∷ 0xD9C9 ∷ 0x8300 ∷ 0x0287 ∷ 0x007D ∷ 0x1601 ∷ 0x070D ∷
    0x0283 ∷ 0x0001 ∷ 0x1307 ∷ 0xD9E0 ∷ 0x83F3 ∷ 0x8301 ∷ 0x0287 ∷ 0x007C ∷
    0x1601 ∷ 0x070D ∷ 0x045B ∷ 0x0288 ∷ 0x0001 ∷ 0x1B13 ∷ 0xC107 ∷ 0x0A24 ∷
    0x0924 ∷ 0x0224 ∷ 0x4000 ∷ 0xD820 ∷ 0x83E9 ∷ 0x8C02 ∷ 0xD804 ∷ 0x8C02 ∷ []

-- >23DE: SDATA, the bytes of video memory
--     SDATA  MOVB R9,@VDPWD
--            CI R3,1
--            JEQ SDONE
--            MOVB @R9LB,@VDPWD
--            B *R11
abbrev pub store_video : List ℕ
store_video =
    0xD809 ∷ 0x8C00 ∷ 0x0283 ∷ 0x0001 ∷ 0x13ED ∷ 0xD820 ∷ 0x83F3 ∷ 0x8C00 ∷
    0x045B ∷ []

-- >23F0: SREG, a register of the video processor
--     SREG   MOVB R9,@VDPWA
--            MOV R7,R4
--            AI R4,>0080
--            MOVB @R4LB,@VDPWA
--            B *R11
abbrev pub store_register : List ℕ
store_register =
    0xD809 ∷ 0x8C02 ∷ 0xC107 ∷ 0x0224 ∷ 0x0080 ∷ 0xD820 ∷ 0x83E9 ∷ 0x8C02 ∷
    0x045B ∷ []

-- >2402: ROW
--     ROW    MOV R0,R3
--            ANDI R3,1
--            INC R3
--            CLR R13
--            BL @ADDR
--     OPSDST MOV R2,R7
--            MOV R5,R8
--            BL @LOAD
--     OPSVAL MOV R6,R9
--            CI R0,>A0
--            JHE OPSTWO
--            LI R6,>0100
--            CI R3,1
--            JEQ GO
--            LI R6,1
abbrev pub row : List ℕ
row =
    0xC0C0 ∷ 0x0243 ∷ 0x0001 ∷ 0x0583 ∷ 0x04CD ∷ 0x06A0 ∷ 0x22CC ∷ 0xC1C2 ∷
    0xC205 ∷ 0x06A0 ∷ 0x2348 ∷ 0xC246 ∷ 0x0280 ∷ 0x00A0 ∷ 0x1414 ∷ 0x0206 ∷
    0x0100 ∷ 0x0283 ∷ 0x0001 ∷ 0x1302 ∷ 0x0206 ∷ 0x0001 ∷ []

-- >242E: GO
--     GO     MOV R0,R4
--            MOV @OPTAB->80(R4),R4
--            B *R4
abbrev pub go_row : List ℕ
go_row =
    0xC100 ∷ 0xC124 ∷ 0x2188 ∷ 0x0454 ∷ []

-- >2436: STROW
--     STROW  MOV R0,R3
--            ANDI R3,1
--            INC R3
--            CLR R13
--            BL @ADDR
--     STDST  MOV R2,R7
--            MOV R5,R8
abbrev pub st_row : List ℕ
st_row =
    0xC0C0 ∷ 0x0243 ∷ 0x0001 ∷ 0x0583 ∷ 0x04CD ∷ 0x06A0 ∷ 0x22CC ∷ 0xC1C2 ∷
    0xC205 ∷ []

-- >2448: OPSTWO, the source of a row of two operands
--     OPSTWO MOV R0,R4
--            SRL R4,2
--            JNC OPSRC
--            LI R11,GO
--            B @STREAM
--     OPSRC  BL @ADDR
abbrev pub source : List ℕ
source =
    0xC100 ∷ 0x0924 ∷ 0x1704 ∷ 0x020B ∷ 0x242E ∷ 0x0460 ∷ 0x238A ∷ 0x06A0 ∷
    0x22CC ∷ []

-- >245A: OPVAL, the value of the source
--     OPVAL  LI R11,GO
--            B @LOAD
abbrev pub source_value : List ℕ
source_value =
    0x020B ∷ 0x242E ∷ 0x0460 ∷ 0x2348 ∷ []

-- >2462: GOEXIT
--     GOEXIT B @GEXIT
abbrev pub exit : List ℕ
exit =
    0x0460 ∷ 0x229E ∷ []
