-- Written by tools/interpreter from crates/native_interp/src/source.
-- The words of sums, the end of a row, B, the step, ST, logic, exchange, shifts, products, quotients and comparisons.
use Rattle.std.specs.Prelude.{ℕ, List, [], ◌∷◌}

-- >2466: INCTV
--     INCTV  A R6,R6
abbrev pub inct : List ℕ
inct =
    0xA186 ∷ []

-- >2468: ADDV
--     ADDV   A R6,R9
--            JMP STAT
abbrev pub add : List ℕ
add =
    0xA246 ∷ 0x1006 ∷ []

-- >246C: DECTV
--     DECTV  A R6,R6
abbrev pub dect : List ℕ
dect =
    0xA186 ∷ []

-- >246E: SUBV
--     SUBV   S R6,R9
--            JMP STAT
abbrev pub sub : List ℕ
sub =
    0x6246 ∷ 0x1003 ∷ []

-- >2472: ABSV
--     ABSV   ABS R9
--            JMP STAT
abbrev pub abs : List ℕ
abs =
    0x0749 ∷ 0x1001 ∷ []

-- >2476: NEGV, with STAT, where the status is kept
--     NEGV   NEG R9
--     STAT   STST R12
--            ANDI R12,>F800
--            BL @STORE
abbrev pub neg : List ℕ
neg =
    0x0509 ∷ 0x02CC ∷ 0x024C ∷ 0xF800 ∷ 0x06A0 ∷ 0x239E ∷ []

-- >2482: STATB, the status, after the result
--     STATB  MOVB R12,@PAD+>7C
abbrev pub set_status : List ℕ
set_status =
    0xD80C ∷ 0x837C ∷ []

-- >2486: SHOW
--     SHOW   MOV R13,R13
--            JEQ GSTEP
abbrev pub show : List ℕ
show =
    0xC34D ∷ 0x131C ∷ []

-- >248A: SHOWN, the character on the screen
--     SHOWN  MOVB @PAD+>7E,R7
--            SRL R7,8
--            SLA R7,5
--            MOVB @PAD+>7F,R4
--            SRL R4,8
--            A R4,R7
--            MOVB @PAD+>7D,R9
--            LI R8,1
--            LI R3,1
--            LI R11,GSTEP
--            B @STORE
abbrev pub show_character : List ℕ
show_character =
    0xD1E0 ∷ 0x837E ∷ 0x0987 ∷ 0x0A57 ∷ 0xD120 ∷ 0x837F ∷ 0x0984 ∷ 0xA1C4 ∷
    0xD260 ∷ 0x837D ∷ 0x0208 ∷ 0x0001 ∷ 0x0203 ∷ 0x0001 ∷ 0x020B ∷ 0x24C2 ∷
    0x0460 ∷ 0x239E ∷ []

-- >24AE: GOB
--     GOB    MOVB @GRMRD,R6
--            MOVB @GRMRD,@R6LB
abbrev pub branch : List ℕ
branch =
    0xD1A0 ∷ 0x9800 ∷ 0xD820 ∷ 0x9800 ∷ 0x83ED ∷ []

-- >24B8: GOTO
--     GOTO   MOVB R6,@GRMWA
--            MOVB @R6LB,@GRMWA
abbrev pub go_to : List ℕ
go_to =
    0xD806 ∷ 0x9C02 ∷ 0xD820 ∷ 0x83ED ∷ 0x9C02 ∷ []

-- >24C2: GSTEP
--     GSTEP  MOVB @GRMRA,R1
--            MOVB @GRMRA,@R1LB
--            JNE GBACK
--            MOV R1,R4
--            SLA R4,3
--            JNE GBACK
--            AI R1,>2000
--     GBACK  DEC R1
--            MOVB R1,@GRMWA
--            MOVB @R1LB,@GRMWA
--            MOVB @GRMRD,R0
--            SRL R0,8
--     GCODE  MOV R0,R4
--            A R4,R4
--            MOV @TABLE(R4),R4
--            B *R4
abbrev pub step : List ℕ
step =
    0xD060 ∷ 0x9802 ∷ 0xD820 ∷ 0x9802 ∷ 0x83E3 ∷ 0x1605 ∷ 0xC101 ∷ 0x0A34 ∷
    0x1602 ∷ 0x0221 ∷ 0x2000 ∷ 0x0601 ∷ 0xD801 ∷ 0x9C02 ∷ 0xD820 ∷ 0x83E3 ∷
    0x9C02 ∷ 0xD020 ∷ 0x9800 ∷ 0x0980 ∷ 0xC100 ∷ 0xA104 ∷ 0xC124 ∷ 0x2008 ∷
    0x0454 ∷ []

-- >24F4: STV
--     STV    MOV R6,R9
abbrev pub st : List ℕ
st =
    0xC246 ∷ []

-- >24F6: STO
--     STO    LI R11,SHOW
--            B @STORE
abbrev pub store_result : List ℕ
store_result =
    0x020B ∷ 0x2486 ∷ 0x0460 ∷ 0x239E ∷ []

-- >24FE: ANDV
--     ANDV   INV R6
--            SZC R6,R9
--            JMP STO
abbrev pub and_ones : List ℕ
and_ones =
    0x0546 ∷ 0x4246 ∷ 0x10F9 ∷ []

-- >2504: ORV
--     ORV    SOC R6,R9
--            JMP STO
abbrev pub or_ones : List ℕ
or_ones =
    0xE246 ∷ 0x10F7 ∷ []

-- >2508: XORV
--     XORV   XOR R6,R9
--            JMP STO
abbrev pub exclusive_or : List ℕ
exclusive_or =
    0x2A46 ∷ 0x10F5 ∷ []

-- >250C: INVV
--     INVV   INV R9
--            JMP STO
abbrev pub inv : List ℕ
inv =
    0x0549 ∷ 0x10F3 ∷ []

-- >2510: CLRV
--     CLRV   CLR R9
--            JMP STO
abbrev pub clr : List ℕ
clr =
    0x04C9 ∷ 0x10F1 ∷ []

-- >2514: EXV
--     EXV    MOV R9,R12
--            MOV R6,R9
--            BL @STORE
abbrev pub ex : List ℕ
ex =
    0xC309 ∷ 0xC246 ∷ 0x06A0 ∷ 0x239E ∷ []

-- >251C: EXB, the source of EX
--     EXB    MOV R2,R7
--            MOV R5,R8
--            MOV R12,R9
--            JMP STO
abbrev pub ex_source : List ℕ
ex_source =
    0xC1C2 ∷ 0xC205 ∷ 0xC24C ∷ 0x10E9 ∷ []

-- >2524: COUNT
--     COUNT  MOV R6,R0
--            CI R3,1
--            JNE COUNTW
--            SWPB R0
--     COUNTW SLA R0,12
--            SRL R0,12
--            JEQ STO
--            B *R11
abbrev pub count : List ℕ
count =
    0xC006 ∷ 0x0283 ∷ 0x0001 ∷ 0x1601 ∷ 0x06C0 ∷ 0x0AC0 ∷ 0x09C0 ∷ 0x13E1 ∷
    0x045B ∷ []

-- >2536: SRAV
--     SRAV   BL @COUNT
abbrev pub sra : List ℕ
sra =
    0x06A0 ∷ 0x2524 ∷ []

-- >253A: SRAB, the value of SRA
--     SRAB   SRA R9,0
--            JMP STO
abbrev pub sra_value : List ℕ
sra_value =
    0x0809 ∷ 0x10DC ∷ []

-- >253E: SLLV
--     SLLV   BL @COUNT
abbrev pub sll : List ℕ
sll =
    0x06A0 ∷ 0x2524 ∷ []

-- >2542: SLLB, the value of SLL
--     SLLB   SLA R9,0
--            JMP STO
abbrev pub sll_value : List ℕ
sll_value =
    0x0A09 ∷ 0x10D8 ∷ []

-- >2546: SRLV
--     SRLV   BL @COUNT
abbrev pub srl : List ℕ
srl =
    0x06A0 ∷ 0x2524 ∷ []

-- >254A: SRLB, the value of SRL
--     SRLB   SRL R9,0
--            JMP STO
abbrev pub srl_value : List ℕ
srl_value =
    0x0909 ∷ 0x10D4 ∷ []

-- >254E: SRCV
--     SRCV   BL @COUNT
abbrev pub src : List ℕ
src =
    0x06A0 ∷ 0x2524 ∷ []

-- >2552: SRCB, the value of SRC
--     SRCB   CI R3,1
--            JNE SRCW
--            MOV R9,R4
--            SWPB R4
--            SOC R4,R9
--     SRCW   SRC R9,0
--            JMP STO
abbrev pub src_value : List ℕ
src_value =
    0x0283 ∷ 0x0001 ∷ 0x1603 ∷ 0xC109 ∷ 0x06C4 ∷ 0xE244 ∷ 0x0B09 ∷ 0x10CA ∷ []

-- >2562: WIDE
--     WIDE   MOV R0,R3
--            SLA R3,15
--            SRL R3,14
--            INCT R3
--            CLR R13
--            BL @ADDR
--     WIDDST MOV R2,R7
--            MOV R5,R8
--            BL @LOAD
--     WIDVAL MOV R6,R9
--            SRL R3,1
--            B @OPSTWO
abbrev pub wide : List ℕ
wide =
    0xC0C0 ∷ 0x0AF3 ∷ 0x09E3 ∷ 0x05C3 ∷ 0x04CD ∷ 0x06A0 ∷ 0x22CC ∷ 0xC1C2 ∷
    0xC205 ∷ 0x06A0 ∷ 0x2348 ∷ 0xC246 ∷ 0x0913 ∷ 0x0460 ∷ 0x2448 ∷ []

-- >2580: MULV
--     MULV   CI R3,1
--            JNE MULW
--            SRL R9,8
--            SLA R9,8
--            MPY R6,R9
--            LI R3,2
--            JMP STO
--     MULW   MPY R6,R9
--            BL @STORE
abbrev pub mul : List ℕ
mul =
    0x0283 ∷ 0x0001 ∷ 0x1606 ∷ 0x0989 ∷ 0x0A89 ∷ 0x3A46 ∷ 0x0203 ∷ 0x0002 ∷
    0x10B2 ∷ 0x3A46 ∷ 0x06A0 ∷ 0x239E ∷ []

-- >2598: MULB, the low word of a product
--     MULB   INCT R7
--            MOV R10,R9
--            JMP STO
abbrev pub mul_low : List ℕ
mul_low =
    0x05C7 ∷ 0xC24A ∷ 0x10AC ∷ []

-- >259E: DIVV
--     DIVV   C R9,R6
--            JHE OVER
--            CI R3,1
--            JNE DIVW
abbrev pub div : List ℕ
div =
    0x8189 ∷ 0x1420 ∷ 0x0283 ∷ 0x0001 ∷ 0x1609 ∷ []

-- >25A8: DIVBY, DIV of bytes
--     DIVBY  MOV R9,R10
--            CLR R9
--            SRL R6,8
--            DIV R6,R9
--            SWPB R9
--            A R10,R9
--            LI R3,2
--            JMP DIVS
abbrev pub div_byte : List ℕ
div_byte =
    0xC289 ∷ 0x04C9 ∷ 0x0986 ∷ 0x3E46 ∷ 0x06C9 ∷ 0xA24A ∷ 0x0203 ∷ 0x0002 ∷
    0x100C ∷ []

-- >25BA: DIVW, DIV of words
--     DIVW   MOV R6,R12
--            MOV R7,R2
--            INCT R2
--            MOV R8,R5
--            BL @LOAD
abbrev pub div_word : List ℕ
div_word =
    0xC306 ∷ 0xC087 ∷ 0x05C2 ∷ 0xC148 ∷ 0x06A0 ∷ 0x2348 ∷ []

-- >25C6: DIVL, its second word
--     DIVL   MOV R6,R10
--            DIV R12,R9
--            BL @STORE
abbrev pub div_loaded : List ℕ
div_loaded =
    0xC286 ∷ 0x3E4C ∷ 0x06A0 ∷ 0x239E ∷ []

-- >25CE: DIVQ, its remainder
--     DIVQ   INCT R7
--            MOV R10,R9
abbrev pub div_remainder : List ℕ
div_remainder =
    0x05C7 ∷ 0xC24A ∷ []

-- >25D2: DIVS, the last word of DIV
--     DIVS   BL @STORE
abbrev pub div_store : List ℕ
div_store =
    0x06A0 ∷ 0x239E ∷ []

-- >25D6: DIVE, the end of DIV
--     DIVE   LI R4,>0800
--            SZCB R4,@PAD+>7C
--            B @SHOW
abbrev pub div_end : List ℕ
div_end =
    0x0204 ∷ 0x0800 ∷ 0x5804 ∷ 0x837C ∷ 0x0460 ∷ 0x2486 ∷ []

-- >25E2: OVER, DIV without a quotient
--     OVER   LI R4,>0800
--            SOCB R4,@PAD+>7C
--            B @GSTEP
abbrev pub over : List ℕ
over =
    0x0204 ∷ 0x0800 ∷ 0xF804 ∷ 0x837C ∷ 0x0460 ∷ 0x24C2 ∷ []

-- >25EE: CHV
--     CHV    C R9,R6
--            JH CTRUE
--            JMP CFALSE
abbrev pub ch : List ℕ
ch =
    0x8189 ∷ 0x1B27 ∷ 0x1034 ∷ []

-- >25F4: CHEV
--     CHEV   C R9,R6
--            JHE CTRUE
--            JMP CFALSE
abbrev pub che : List ℕ
che =
    0x8189 ∷ 0x1424 ∷ 0x1031 ∷ []

-- >25FA: CGTV
--     CGTV   C R9,R6
--            JGT CTRUE
--            JMP CFALSE
abbrev pub cgt : List ℕ
cgt =
    0x8189 ∷ 0x1521 ∷ 0x102E ∷ []

-- >2600: CGEV
--     CGEV   C R6,R9
--            JGT CFALSE
--            JMP CTRUE
abbrev pub cge : List ℕ
cge =
    0x8246 ∷ 0x152C ∷ 0x101D ∷ []

-- >2606: CEQV
--     CEQV   C R9,R6
--            JEQ CTRUE
--            JMP CFALSE
abbrev pub ceq : List ℕ
ceq =
    0x8189 ∷ 0x131B ∷ 0x1028 ∷ []

-- >260C: CLOGV
--     CLOGV  CZC R6,R9
--            JEQ CTRUE
--            JMP CFALSE
abbrev pub clog : List ℕ
clog =
    0x2646 ∷ 0x1318 ∷ 0x1025 ∷ []

-- >2612: CZV
--     CZV    MOV R9,R9
--            JEQ CTRUE
--            JMP CFALSE
abbrev pub cz : List ℕ
cz =
    0xC249 ∷ 0x1315 ∷ 0x1022 ∷ []

-- >2618: GOH
--     GOH    MOVB @PAD+>7C,R4
--            SLA R4,1
--            JOC CTRUE
--            JMP CFALSE
abbrev pub test_h : List ℕ
test_h =
    0xD120 ∷ 0x837C ∷ 0x0A14 ∷ 0x1810 ∷ 0x101D ∷ []

-- >2622: GOGT
--     GOGT   MOVB @PAD+>7C,R4
--            SLA R4,2
--            JOC CTRUE
--            JMP CFALSE
abbrev pub test_gt : List ℕ
test_gt =
    0xD120 ∷ 0x837C ∷ 0x0A24 ∷ 0x180B ∷ 0x1018 ∷ []

-- >262C: GOCARY
--     GOCARY MOVB @PAD+>7C,R4
--            SLA R4,4
--            JOC CTRUE
--            JMP CFALSE
abbrev pub test_carry : List ℕ
test_carry =
    0xD120 ∷ 0x837C ∷ 0x0A44 ∷ 0x1806 ∷ 0x1013 ∷ []

-- >2636: GOOVF
--     GOOVF  MOVB @PAD+>7C,R4
--            SLA R4,5
--            JOC CTRUE
--            JMP CFALSE
abbrev pub test_ovf : List ℕ
test_ovf =
    0xD120 ∷ 0x837C ∷ 0x0A54 ∷ 0x1801 ∷ 0x100E ∷ []

-- >2640: CTRUE, the condition holds
--     CTRUE  LI R4,>2000
--            SOCB R4,@PAD+>7C
--            B @GSTEP
abbrev pub condition_true : List ℕ
condition_true =
    0x0204 ∷ 0x2000 ∷ 0xF804 ∷ 0x837C ∷ 0x0460 ∷ 0x24C2 ∷ []
