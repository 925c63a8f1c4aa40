-- Written by tools/interpreter from crates/native_interp/src/source.
-- The words of MOVE, ALL and BACK.
use Rattle.std.specs.Prelude.{ℕ, List, [], ◌∷◌}

-- >27CC: LONG, the stop by reason 4
--     LONG   LI R0,4
--            B @GSTOP
abbrev pub length_stop : List ℕ
length_stop =
    0x0200 ∷ 0x0004 ∷ 0x0460 ∷ 0x229C ∷ []

-- >27D4: GOMOVE
--     GOMOVE CLR R13
--            LI R3,2
--            LI R5,2
--            MOV R0,R4
--            SRL R4,1
--            JOC MOVEN
--            BL @ADDR
abbrev pub move : List ℕ
move =
    0x04CD ∷ 0x0203 ∷ 0x0002 ∷ 0x0205 ∷ 0x0002 ∷ 0xC100 ∷ 0x0914 ∷ 0x1802 ∷
    0x06A0 ∷ 0x22CC ∷ []

-- >27E8: MOVEN, the length of MOVE
--     MOVEN  BL @LOAD
abbrev pub move_length : List ℕ
move_length =
    0x06A0 ∷ 0x2348 ∷ []

-- >27EC: MOVEL, the target of MOVE
--     MOVEL  CI R6,>4000
--            JH LONG
--            MOV R6,R12
--            MOV R6,R3
--            CI R0,>38
--            JHE MOVER
--            BL @ADDR
abbrev pub move_target : List ℕ
move_target =
    0x0286 ∷ 0x4000 ∷ 0x1BED ∷ 0xC306 ∷ 0xC0C6 ∷ 0x0280 ∷ 0x0038 ∷ 0x1466 ∷
    0x06A0 ∷ 0x22CC ∷ []

-- >2800: MOVED, the source of MOVE
--     MOVED  MOV R2,R7
--            MOV R5,R8
--            CI R0,>34
--            JL MOVES
--            BL @ADDR
abbrev pub move_source : List ℕ
move_source =
    0xC1C2 ∷ 0xC205 ∷ 0x0280 ∷ 0x0034 ∷ 0x1A6A ∷ 0x06A0 ∷ 0x22CC ∷ []

-- >280E: MOVEB, the copy begins
--     MOVEB  MOV R12,R12
--            JEQ COPYE
--            CI R8,1
--            JEQ SETW
--            JH COPYL
--            LI R4,>7D
--            S R7,R4
--            C R12,R4
--            JLE MOVEP
--            SETO R13
--     MOVEP  AI R7,PAD
--            CI R5,1
--            JEQ SETR
--            JH COPYGC
--            AI R2,PAD
abbrev pub move_begin : List ℕ
move_begin =
    0xC30C ∷ 0x134F ∷ 0x0288 ∷ 0x0001 ∷ 0x1325 ∷ 0x1B40 ∷ 0x0204 ∷ 0x007D ∷
    0x6107 ∷ 0x810C ∷ 0x1201 ∷ 0x070D ∷ 0x0227 ∷ 0x8300 ∷ 0x0285 ∷ 0x0001 ∷
    0x1307 ∷ 0x1B13 ∷ 0x0222 ∷ 0x8300 ∷ []

-- >2836: COPYCC, from the cells to the cells
--     COPYCC MOVB *R2+,*R7+
--            DEC R12
--            JNE COPYCC
--            JMP COPYE
abbrev pub copy_cells : List ℕ
copy_cells =
    0xDDF2 ∷ 0x060C ∷ 0x16FD ∷ 0x1039 ∷ []

-- >283E: SETR, the video processor at the source
--     SETR   MOV R2,R4
--            SLA R4,2
--            SRL R4,2
--            MOVB @R4LB,@VDPWA
--            MOVB R4,@VDPWA
abbrev pub set_source : List ℕ
set_source =
    0xC102 ∷ 0x0A24 ∷ 0x0924 ∷ 0xD820 ∷ 0x83E9 ∷ 0x8C02 ∷ 0xD804 ∷ 0x8C02 ∷ []

-- >284E: COPYVC, from video memory to the cells
--     COPYVC MOVB @VDPRD,*R7+
--            DEC R12
--            JNE COPYVC
--            JMP COPYE
abbrev pub copy_video : List ℕ
copy_video =
    0xDDE0 ∷ 0x8800 ∷ 0x060C ∷ 0x16FC ∷ 0x102C ∷ []

-- >2858: COPYGC, from GROM to the cells
--     COPYGC MOVB @GRMRD,*R7+
--            DEC R12
--            JNE COPYGC
--            JMP COPYE
abbrev pub copy_grom : List ℕ
copy_grom =
    0xDDE0 ∷ 0x9800 ∷ 0x060C ∷ 0x16FC ∷ 0x1027 ∷ []

-- >2862: SETW, the video processor at the target
--     SETW   CI R5,1
--            JEQ SETVV
--            MOV R7,R4
--            SLA R4,2
--            SRL R4,2
--            AI R4,>4000
--     SETWA  MOVB @R4LB,@VDPWA
--            MOVB R4,@VDPWA
--            MOV R5,R5
--            JNE COPYGV
--            AI R2,PAD
abbrev pub set_target : List ℕ
set_target =
    0x0285 ∷ 0x0001 ∷ 0x1353 ∷ 0xC107 ∷ 0x0A24 ∷ 0x0924 ∷ 0x0224 ∷ 0x4000 ∷
    0xD820 ∷ 0x83E9 ∷ 0x8C02 ∷ 0xD804 ∷ 0x8C02 ∷ 0xC145 ∷ 0x1607 ∷ 0x0222 ∷
    0x8300 ∷ []

-- >2884: COPYCV, from the cells to video memory
--     COPYCV MOVB *R2+,@VDPWD
--            DEC R12
--            JNE COPYCV
--            JMP COPYE
abbrev pub copy_cells_to_video : List ℕ
copy_cells_to_video =
    0xD832 ∷ 0x8C00 ∷ 0x060C ∷ 0x16FC ∷ 0x1011 ∷ []

-- >288E: COPYGV, from GROM to video memory
--     COPYGV MOVB @GRMRD,@VDPWD
--            DEC R12
--            JNE COPYGV
--            JMP COPYE
--     COPYL  LI R3,1
abbrev pub copy_grom_to_video : List ℕ
copy_grom_to_video =
    0xD820 ∷ 0x9800 ∷ 0x8C00 ∷ 0x060C ∷ 0x16FB ∷ 0x100B ∷ 0x0203 ∷ 0x0001 ∷ []

-- >289E: COPY, a byte is copied
--     COPY   BL @LOAD
abbrev pub copy : List ℕ
copy =
    0x06A0 ∷ 0x2348 ∷ []

-- >28A2: COPYS, the byte that was loaded
--     COPYS  MOV R6,R9
--            BL @STORE
abbrev pub copy_store : List ℕ
copy_store =
    0xC246 ∷ 0x06A0 ∷ 0x239E ∷ []

-- >28A8: COPYN, what follows
--     COPYN  INC R2
--            INC R7
--            DEC R12
--            JNE COPY
abbrev pub copy_next : List ℕ
copy_next =
    0x0582 ∷ 0x0587 ∷ 0x060C ∷ 0x16F7 ∷ []

-- >28B0: COPYE, the copy ends
--     COPYE  CI R5,2
--            JEQ RESUME
--            B @SHOW
abbrev pub copy_end : List ℕ
copy_end =
    0x0285 ∷ 0x0002 ∷ 0x1302 ∷ 0x0460 ∷ 0x2486 ∷ []

-- >28BA: RESUME, the end of FETCH and of a MOVE out of GROM
--     RESUME MOVB R14,@GRMWA
--            MOVB @R14LB,@GRMWA
--            B @SHOW
abbrev pub resume : List ℕ
resume =
    0xD80E ∷ 0x9C02 ∷ 0xD820 ∷ 0x83FD ∷ 0x9C02 ∷ 0x0460 ∷ 0x2486 ∷ []

-- >28C8: MOVER, the registers that MOVE loads
--     MOVER  CLR R7
--            MOVB @GRMRD,R7
--            SRL R7,8
--     MOVERC MOV R7,R4
--            A R6,R4
--            CI R4,8
--            JH NOREG
--            LI R8,2
abbrev pub move_registers : List ℕ
move_registers =
    0x04C7 ∷ 0xD1E0 ∷ 0x9800 ∷ 0x0987 ∷ 0xC107 ∷ 0xA106 ∷ 0x0284 ∷ 0x0008 ∷
    0x1B16 ∷ 0x0208 ∷ 0x0002 ∷ []

-- >28DE: MOVES, the source of MOVE in GROM
--     MOVES  LI R3,2
--            BL @STREAM
abbrev pub move_grom : List ℕ
move_grom =
    0x0203 ∷ 0x0002 ∷ 0x06A0 ∷ 0x238A ∷ []

-- >28E6: MOVEA, its index
--     MOVEA  MOV R6,R2
--            MOV R0,R5
--            ANDI R5,2
--            INC R5
--            BL @INDEX
abbrev pub move_index : List ℕ
move_index =
    0xC086 ∷ 0xC140 ∷ 0x0245 ∷ 0x0002 ∷ 0x0585 ∷ 0x06A0 ∷ 0x2312 ∷ []

-- >28F4: MOVEX, the address after the instruction
--     MOVEX  BL @WHERE
abbrev pub move_where : List ℕ
move_where =
    0x06A0 ∷ 0x22A0 ∷ []

-- >28F8: MOVEW, GROM at the source
--     MOVEW  MOV R6,R14
--            MOV R2,R6
--            BL @SEEK
abbrev pub move_seek : List ℕ
move_seek =
    0xC386 ∷ 0xC182 ∷ 0x06A0 ∷ 0x22B8 ∷ []

-- >2900: MOVEK, the bytes that follow there
--     MOVEK  LI R5,2
--            JMP MOVEB
abbrev pub move_stream : List ℕ
move_stream =
    0x0205 ∷ 0x0002 ∷ 0x1084 ∷ []

-- >2906: NOREG, the stop by reason 5
--     NOREG  LI R0,5
--            B @GSTOP
abbrev pub register_stop : List ℕ
register_stop =
    0x0200 ∷ 0x0005 ∷ 0x0460 ∷ 0x229C ∷ []

-- >290E: SETVV, both addresses in video memory
--     SETVV  ANDI R2,>3FFF
--            ANDI R7,>3FFF
--            AI R7,>4000
abbrev pub set_both : List ℕ
set_both =
    0x0242 ∷ 0x3FFF ∷ 0x0247 ∷ 0x3FFF ∷ 0x0227 ∷ 0x4000 ∷ []

-- >291A: COPYVV, from video memory to video memory
--     COPYVV MOVB @R2LB,@VDPWA
--            MOVB R2,@VDPWA
--            MOVB @VDPRD,R4
--            MOVB @R7LB,@VDPWA
--            MOVB R7,@VDPWA
--            MOVB R4,@VDPWD
--     COPYVA INC R2
--            ANDI R2,>3FFF
--            INC R7
--            ANDI R7,>3FFF
--            AI R7,>4000
--            DEC R12
--            JNE COPYVV
--            JMP COPYE
abbrev pub copy_in_video : List ℕ
copy_in_video =
    0xD820 ∷ 0x83E5 ∷ 0x8C02 ∷ 0xD802 ∷ 0x8C02 ∷ 0xD120 ∷ 0x8800 ∷ 0xD820 ∷
    0x83EF ∷ 0x8C02 ∷ 0xD807 ∷ 0x8C02 ∷ 0xD804 ∷ 0x8C00 ∷ 0x0582 ∷ 0x0242 ∷
    0x3FFF ∷ 0x0587 ∷ 0x0247 ∷ 0x3FFF ∷ 0x0227 ∷ 0x4000 ∷ 0x060C ∷ 0x16E8 ∷
    0x10B2 ∷ []

-- >294C: GOALL
--     GOALL  MOVB @GRMRD,R9
--            LI R4,>0040
--            MOVB R4,@VDPWA
--            SWPB R4
--            MOVB R4,@VDPWA
--            LI R12,>0300
abbrev pub all : List ℕ
all =
    0xD260 ∷ 0x9800 ∷ 0x0204 ∷ 0x0040 ∷ 0xD804 ∷ 0x8C02 ∷ 0x06C4 ∷ 0xD804 ∷
    0x8C02 ∷ 0x020C ∷ 0x0300 ∷ []

-- >2962: FILL, a byte is filled, or the step ends
--     FILL   MOVB R9,@VDPWD
--            DEC R12
--            JNE FILL
--            B @GSTEP
abbrev pub all_fill : List ℕ
all_fill =
    0xD809 ∷ 0x8C00 ∷ 0x060C ∷ 0x16FC ∷ 0x0460 ∷ 0x24C2 ∷ []

-- >296E: GOBACK
--     GOBACK MOVB @GRMRD,R4
--            MOVB R4,@VDPWA
--            LI R4,>8700
--            MOVB R4,@VDPWA
--            B @GSTEP
abbrev pub back : List ℕ
back =
    0xD120 ∷ 0x9800 ∷ 0xD804 ∷ 0x8C02 ∷ 0x0204 ∷ 0x8700 ∷ 0xD804 ∷ 0x8C02 ∷
    0x0460 ∷ 0x24C2 ∷ []
