-- Written by tools/interpreter from crates/native_interp/src/source.
-- The words of the entry points and of the two tables.
use Rattle.std.specs.Prelude.{ℕ, List, [], ◌∷◌}

-- >2000: the four entry points
--            DATA GBOOT,GSTEP,GSTOP
--            DATA GEXIT
abbrev pub entries : List ℕ
entries =
    0x2274 ∷ 0x24C2 ∷ 0x229C ∷ 0x229E ∷ []

-- >2008: for each code byte where its instruction begins
--            DATA GORTN,GORTN,GORAND
--            DATA UNKN,GOBACK,GOB
--            DATA GOCALL,GOALL,UNKN
--            DATA GOH,GOGT,GOEXIT
--            DATA GOCARY,GOOVF,UNKN
--            DATA UNKN,UNKN,UNKN
--            DATA UNKN,UNKN,UNKN
--            DATA UNKN,UNKN,UNKN
--            DATA UNKN,UNKN,UNKN
--            DATA UNKN,UNKN,UNKN
--            DATA UNKN,UNKN,UNKN
--            DATA UNKN,UNKN,UNKN
--            DATA UNKN,UNKN,UNKN
--            DATA UNKN,UNKN,UNKN
--            DATA UNKN,UNKN,UNKN
--            DATA UNKN,UNKN,UNKN
--            DATA GOMOVE,GOMOVE,GOMOVE
--            DATA GOMOVE,GOMOVE,GOMOVE
--            DATA UNKN,UNKN,GOMOVE
--            DATA GOMOVE,UNKN,UNKN
--            DATA UNKN,UNKN,UNKN
--            DATA UNKN,BRANCH,BRANCH
--            DATA BRANCH,BRANCH,BRANCH
--            DATA BRANCH,BRANCH,BRANCH
--            DATA BRANCH,BRANCH,BRANCH
--            DATA BRANCH,BRANCH,BRANCH
--            DATA BRANCH,BRANCH,BRANCH
--            DATA BRANCH,BRANCH,BRANCH
--            DATA BRANCH,BRANCH,BRANCH
--            DATA BRANCH,BRANCH,BRANCH
--            DATA BRANCH,BRANCH,BRANCH
--            DATA BRANCH,BRANCH,BRANCH
--            DATA BRANCH,BRANCH,BRANCH
--            DATA BRANCH,BRANCH,BRANCH
--            DATA BRANCH,BRANCH,BRANCH
--            DATA BRANCH,BRANCH,BRANCH
--            DATA BRANCH,BRANCH,BRANCH
--            DATA BRANCH,BRANCH,BRANCH
--            DATA BRANCH,BRANCH,BRANCH
--            DATA BRANCH,BRANCH,BRANCH
--            DATA BRANCH,BRANCH,BRANCH
--            DATA BRANCH,BRANCH,BRANCH
--            DATA BRANCH,BRANCH,ROW
--            DATA ROW,ROW,ROW
--            DATA ROW,ROW,ROW
--            DATA ROW,ROW,UNKN
--            DATA ROW,ROW,ROW
--            DATA UNKN,ROW,ROW
--            DATA ROW,ROW,ROW
--            DATA ROW,ROW,ROW
--            DATA ROW,ROW,UNKN
--            DATA UNKN,UNKN,UNKN
--            DATA UNKN,UNKN,UNKN
--            DATA UNKN,ROW,ROW
--            DATA ROW,ROW,ROW
--            DATA ROW,ROW,ROW
--            DATA WIDE,WIDE,WIDE
--            DATA WIDE,WIDE,WIDE
--            DATA WIDE,WIDE,ROW
--            DATA ROW,ROW,ROW
--            DATA ROW,ROW,ROW
--            DATA ROW,ROW,ROW
--            DATA ROW,ROW,STROW
--            DATA STROW,STROW,STROW
--            DATA ROW,ROW,UNKN
--            DATA UNKN,ROW,ROW
--            DATA ROW,ROW,ROW
--            DATA ROW,ROW,ROW
--            DATA ROW,ROW,ROW
--            DATA ROW,ROW,ROW
--            DATA ROW,ROW,ROW
--            DATA ROW,ROW,ROW
--            DATA ROW,ROW,ROW
--            DATA ROW,ROW,ROW
--            DATA ROW,ROW,ROW
--            DATA ROW,ROW,ROW
--            DATA ROW,ROW,ROW
--            DATA ROW,ROW,ROW
--            DATA ROW,ROW,UNKN
--            DATA UNKN,UNKN,UNKN
--            DATA UNKN,UNKN,UNKN
--            DATA UNKN,UNKN,UNKN
--            DATA UNKN,UNKN,UNKN
--            DATA UNKN,UNKN,UNKN
--            DATA UNKN,UNKN,UNKN
--            DATA UNKN
abbrev pub code_table : List ℕ
code_table =
    0x2720 ∷ 0x2720 ∷ 0x2798 ∷ 0x2292 ∷ 0x296E ∷ 0x24AE ∷ 0x26C2 ∷ 0x294C ∷
    0x2292 ∷ 0x2618 ∷ 0x2622 ∷ 0x2462 ∷ 0x262C ∷ 0x2636 ∷ 0x2292 ∷ 0x2292 ∷
    0x2292 ∷ 0x2292 ∷ 0x2292 ∷ 0x2292 ∷ 0x2292 ∷ 0x2292 ∷ 0x2292 ∷ 0x2292 ∷
    0x2292 ∷ 0x2292 ∷ 0x2292 ∷ 0x2292 ∷ 0x2292 ∷ 0x2292 ∷ 0x2292 ∷ 0x2292 ∷
    0x2292 ∷ 0x2292 ∷ 0x2292 ∷ 0x2292 ∷ 0x2292 ∷ 0x2292 ∷ 0x2292 ∷ 0x2292 ∷
    0x2292 ∷ 0x2292 ∷ 0x2292 ∷ 0x2292 ∷ 0x2292 ∷ 0x2292 ∷ 0x2292 ∷ 0x2292 ∷
    0x27D4 ∷ 0x27D4 ∷ 0x27D4 ∷ 0x27D4 ∷ 0x27D4 ∷ 0x27D4 ∷ 0x2292 ∷ 0x2292 ∷
    0x27D4 ∷ 0x27D4 ∷ 0x2292 ∷ 0x2292 ∷ 0x2292 ∷ 0x2292 ∷ 0x2292 ∷ 0x2292 ∷
    0x264C ∷ 0x264C ∷ 0x264C ∷ 0x264C ∷ 0x264C ∷ 0x264C ∷ 0x264C ∷ 0x264C ∷
    0x264C ∷ 0x264C ∷ 0x264C ∷ 0x264C ∷ 0x264C ∷ 0x264C ∷ 0x264C ∷ 0x264C ∷
    0x264C ∷ 0x264C ∷ 0x264C ∷ 0x264C ∷ 0x264C ∷ 0x264C ∷ 0x264C ∷ 0x264C ∷
    0x264C ∷ 0x264C ∷ 0x264C ∷ 0x264C ∷ 0x264C ∷ 0x264C ∷ 0x264C ∷ 0x264C ∷
    0x264C ∷ 0x264C ∷ 0x264C ∷ 0x264C ∷ 0x264C ∷ 0x264C ∷ 0x264C ∷ 0x264C ∷
    0x264C ∷ 0x264C ∷ 0x264C ∷ 0x264C ∷ 0x264C ∷ 0x264C ∷ 0x264C ∷ 0x264C ∷
    0x264C ∷ 0x264C ∷ 0x264C ∷ 0x264C ∷ 0x264C ∷ 0x264C ∷ 0x264C ∷ 0x264C ∷
    0x264C ∷ 0x264C ∷ 0x264C ∷ 0x264C ∷ 0x264C ∷ 0x264C ∷ 0x264C ∷ 0x264C ∷
    0x2402 ∷ 0x2402 ∷ 0x2402 ∷ 0x2402 ∷ 0x2402 ∷ 0x2402 ∷ 0x2402 ∷ 0x2402 ∷
    0x2402 ∷ 0x2292 ∷ 0x2402 ∷ 0x2402 ∷ 0x2402 ∷ 0x2292 ∷ 0x2402 ∷ 0x2402 ∷
    0x2402 ∷ 0x2402 ∷ 0x2402 ∷ 0x2402 ∷ 0x2402 ∷ 0x2402 ∷ 0x2402 ∷ 0x2402 ∷
    0x2292 ∷ 0x2292 ∷ 0x2292 ∷ 0x2292 ∷ 0x2292 ∷ 0x2292 ∷ 0x2292 ∷ 0x2292 ∷
    0x2402 ∷ 0x2402 ∷ 0x2402 ∷ 0x2402 ∷ 0x2402 ∷ 0x2402 ∷ 0x2402 ∷ 0x2402 ∷
    0x2562 ∷ 0x2562 ∷ 0x2562 ∷ 0x2562 ∷ 0x2562 ∷ 0x2562 ∷ 0x2562 ∷ 0x2562 ∷
    0x2402 ∷ 0x2402 ∷ 0x2402 ∷ 0x2402 ∷ 0x2402 ∷ 0x2402 ∷ 0x2402 ∷ 0x2402 ∷
    0x2402 ∷ 0x2402 ∷ 0x2402 ∷ 0x2402 ∷ 0x2436 ∷ 0x2436 ∷ 0x2436 ∷ 0x2436 ∷
    0x2402 ∷ 0x2402 ∷ 0x2292 ∷ 0x2292 ∷ 0x2402 ∷ 0x2402 ∷ 0x2402 ∷ 0x2402 ∷
    0x2402 ∷ 0x2402 ∷ 0x2402 ∷ 0x2402 ∷ 0x2402 ∷ 0x2402 ∷ 0x2402 ∷ 0x2402 ∷
    0x2402 ∷ 0x2402 ∷ 0x2402 ∷ 0x2402 ∷ 0x2402 ∷ 0x2402 ∷ 0x2402 ∷ 0x2402 ∷
    0x2402 ∷ 0x2402 ∷ 0x2402 ∷ 0x2402 ∷ 0x2402 ∷ 0x2402 ∷ 0x2402 ∷ 0x2402 ∷
    0x2402 ∷ 0x2402 ∷ 0x2402 ∷ 0x2402 ∷ 0x2402 ∷ 0x2402 ∷ 0x2402 ∷ 0x2402 ∷
    0x2402 ∷ 0x2402 ∷ 0x2402 ∷ 0x2402 ∷ 0x2292 ∷ 0x2292 ∷ 0x2292 ∷ 0x2292 ∷
    0x2292 ∷ 0x2292 ∷ 0x2292 ∷ 0x2292 ∷ 0x2292 ∷ 0x2292 ∷ 0x2292 ∷ 0x2292 ∷
    0x2292 ∷ 0x2292 ∷ 0x2292 ∷ 0x2292 ∷ 0x2292 ∷ 0x2292 ∷ 0x2292 ∷ 0x2292 ∷ []

-- >2208: for two code bytes from >80 on where their row begins
--            DATA ABSV,NEGV,INVV
--            DATA CLRV,FETCHV,CASEV
--            DATA PUSHV,CZV,ADDV
--            DATA SUBV,INCTV,DECTV
--            DATA UNKN,UNKN,UNKN
--            DATA UNKN,ADDV,ADDV
--            DATA SUBV,SUBV,MULV
--            DATA MULV,DIVV,DIVV
--            DATA ANDV,ANDV,ORV
--            DATA ORV,XORV,XORV
--            DATA STV,STV,EXV
--            DATA UNKN,CHV,CHV
--            DATA CHEV,CHEV,CGTV
--            DATA CGTV,CGEV,CGEV
--            DATA CEQV,CEQV,CLOGV
--            DATA CLOGV,SRAV,SRAV
--            DATA SLLV,SLLV,SRLV
--            DATA SRLV,SRCV,SRCV
abbrev pub operation_table : List ℕ
operation_table =
    0x2472 ∷ 0x2476 ∷ 0x250C ∷ 0x2510 ∷ 0x2746 ∷ 0x2688 ∷ 0x26A0 ∷ 0x2612 ∷
    0x2468 ∷ 0x246E ∷ 0x2466 ∷ 0x246C ∷ 0x2292 ∷ 0x2292 ∷ 0x2292 ∷ 0x2292 ∷
    0x2468 ∷ 0x2468 ∷ 0x246E ∷ 0x246E ∷ 0x2580 ∷ 0x2580 ∷ 0x259E ∷ 0x259E ∷
    0x24FE ∷ 0x24FE ∷ 0x2504 ∷ 0x2504 ∷ 0x2508 ∷ 0x2508 ∷ 0x24F4 ∷ 0x24F4 ∷
    0x2514 ∷ 0x2292 ∷ 0x25EE ∷ 0x25EE ∷ 0x25F4 ∷ 0x25F4 ∷ 0x25FA ∷ 0x25FA ∷
    0x2600 ∷ 0x2600 ∷ 0x2606 ∷ 0x2606 ∷ 0x260C ∷ 0x260C ∷ 0x2536 ∷ 0x2536 ∷
    0x253E ∷ 0x253E ∷ 0x2546 ∷ 0x2546 ∷ 0x254E ∷ 0x254E ∷ []
