-- Worked rows: instructions by their bytes, from address 0 on unless another is named, from the start of a program.
use Rattle.std.proofs.Common.{◌≡◌, ℕ, List, [], ◌∷◌, ◌++◌, length, drop, refl}
use Rattle.std.specs.Prelude.{map, slice_index, Result, Ok, Err}
use Rattle.source_defs.specs.Refusals.{◌>>=◌}
use Rattle.gpl_defs.specs.Reading.{operand_at, reading}
use Rattle.gpl_step_defs.specs.declared.reason.Reason.{Reason}
use Rattle.gpl_step_defs.specs.declared.reason.Reason.TheVariants.{Exit, Opcode, Cell, Stack, Length, Register}
use Rattle.gpl_step_defs.specs.State.{GplState, zeros, start}
use Rattle.gpl_step_defs.specs.Step.{after}
use Rattle.gpl_step_defs.specs.Run.{steps}

-- a program with these cells from >8300 on
abbrev given : List ℕ → List ℕ → GplState
given cells bytes = record (start bytes 0) { cells = cells ++ drop (length cells) (start bytes 0).cells }

abbrev pub program : List ℕ → GplState
program bytes = start bytes 0

-- the pc and some cells; some bytes of video memory; the video registers
abbrev pub cells_of : List ℕ → Result GplState Reason → Result (List ℕ) Reason
cells_of offsets r = r >>= λ s. Ok (s.pc ∷ map (slice_index s.cells) offsets)

abbrev video_of : List ℕ → Result GplState Reason → Result (List ℕ) Reason
video_of addresses r = r >>= λ s. Ok (map (slice_index s.vdp) addresses)

abbrev registers_of : Result GplState Reason → Result (List ℕ) Reason
registers_of r = r >>= λ s. Ok s.registers

-- the cells at offsets after one step of each program over the same cells
abbrev each : List ℕ → List (List ℕ) → List ℕ → List (Result (List ℕ) Reason)
each cells programs offsets = map (λ bytes. cells_of offsets (steps 1 (given cells bytes))) programs

-- S ST @>8300,5; B S
pub stores_and_branches : cells_of (0 ∷ 0x7C ∷ []) (steps 2 (program (0xBE ∷ 0 ∷ 5 ∷ 5 ∷ 0 ∷ 0 ∷ [])))
    ≡ Ok (0 ∷ 5 ∷ 0 ∷ [])
unfolding zeros reading operand_at after
stores_and_branches = refl

-- BYTE >0F
pub code_of_no_instruction : cells_of ([]) (steps 1 (program (0x0F ∷ 0x77 ∷ []))) ≡ Err Opcode
unfolding zeros reading operand_at after
code_of_no_instruction = refl

-- ST @>83C1,1; ST @>83C2,1; DST @>83C1,1; MUL @>83C1,2
pub bounds_of_cells : each ([]) ((0xBE ∷ 0x80 ∷ 0xC1 ∷ 1 ∷ []) ∷ (0xBE ∷ 0x80 ∷ 0xC2 ∷ 1 ∷ []) ∷ (0xBF ∷ 0x80 ∷ 0xC1 ∷ 0 ∷ 1 ∷ []) ∷ (0xAA ∷ 0x80 ∷ 0xC1 ∷ 2 ∷ []) ∷ []) (0xC1 ∷ [])
    ≡ Ok (4 ∷ 1 ∷ []) ∷ Err Cell ∷ Err Cell ∷ Err Cell ∷ []
unfolding zeros reading operand_at after
bounds_of_cells = refl

-- DST @>8300,>0010; ST *>8300,7
pub pointers : cells_of (0 ∷ 1 ∷ 0x10 ∷ []) (steps 2 (program (0xBF ∷ 0 ∷ 0 ∷ 0x10 ∷ 0xBE ∷ 0x90 ∷ 0 ∷ 7 ∷ [])))
    ≡ Ok (8 ∷ 0 ∷ 0x10 ∷ 7 ∷ [])
unfolding zeros reading operand_at after
pointers = refl

-- ST *>837C,1; ST *>837B,1
pub pointer_at_the_status : each ([]) ((0xBE ∷ 0x90 ∷ 0x7C ∷ 1 ∷ []) ∷ (0xBE ∷ 0x90 ∷ 0x7B ∷ 1 ∷ []) ∷ []) (0 ∷ [])
    ≡ Err Cell ∷ Ok (4 ∷ 1 ∷ []) ∷ []
unfolding zeros reading operand_at after
pointer_at_the_status = refl

-- ST *>8300(@>8302),9 over a pointer to >10 and an index of 4
pub index_after_pointer : cells_of (0x14 ∷ []) (steps 1 (given (0 ∷ 0x10 ∷ 0 ∷ 4 ∷ []) (0xBE ∷ 0xD0 ∷ 0 ∷ 2 ∷ 9 ∷ [])))
    ≡ Ok (5 ∷ 9 ∷ [])
unfolding zeros reading operand_at after
index_after_pointer = refl

-- ADD @>837C,1
pub status_after_the_sum : cells_of (0x7C ∷ []) (steps 1 (program (0xA2 ∷ 0x7C ∷ 1 ∷ []))) ≡ Ok (3 ∷ 0xC0 ∷ [])
unfolding zeros reading operand_at after
status_after_the_sum = refl

-- DEC @>8300 over 0 and over 1
pub borrow_clears_the_carry : each [] ((0x92 ∷ 0 ∷ []) ∷ []) (0 ∷ 0x7C ∷ []) ++ each (1 ∷ []) ((0x92 ∷ 0 ∷ []) ∷ []) (0 ∷ 0x7C ∷ [])
    ≡ Ok (2 ∷ 0xFF ∷ 0x80 ∷ []) ∷ Ok (2 ∷ 0 ∷ 0x30 ∷ []) ∷ []
unfolding zeros reading operand_at after
borrow_clears_the_carry = refl

-- SLL, SRA, SRL and SRC of @>8300 by 1 over >81
pub shifts : each (0x81 ∷ []) ((0xE2 ∷ 0 ∷ 1 ∷ []) ∷ (0xDE ∷ 0 ∷ 1 ∷ []) ∷ (0xE6 ∷ 0 ∷ 1 ∷ []) ∷ (0xEA ∷ 0 ∷ 1 ∷ []) ∷ []) (0 ∷ 0x7C ∷ [])
    ≡ Ok (3 ∷ 2 ∷ 0 ∷ []) ∷ Ok (3 ∷ 0xC0 ∷ 0 ∷ []) ∷ Ok (3 ∷ 0x40 ∷ 0 ∷ []) ∷ Ok (3 ∷ 0xC0 ∷ 0 ∷ []) ∷ []
unfolding zeros reading operand_at after
shifts = refl

-- CH @>8300,1 and CGT @>8300,1 over >FF
pub comparisons : each (0xFF ∷ []) ((0xC6 ∷ 0 ∷ 1 ∷ []) ∷ (0xCE ∷ 0 ∷ 1 ∷ []) ∷ []) (0x7C ∷ [])
    ≡ Ok (3 ∷ 0x20 ∷ []) ∷ Ok (3 ∷ 0 ∷ []) ∷ []
unfolding zeros reading operand_at after
comparisons = refl

-- EX @>8300,@>8302
pub exchange : cells_of (0 ∷ 1 ∷ 2 ∷ []) (steps 1 (given (1 ∷ 0 ∷ 2 ∷ []) (0xC0 ∷ 0 ∷ 2 ∷ [])))
    ≡ Ok (3 ∷ 2 ∷ 0 ∷ 1 ∷ [])
unfolding zeros reading operand_at after
exchange = refl

-- DIV @>8300,7 and DIV @>8300,0 over 00 64
pub division : each (0 ∷ 0x64 ∷ []) ((0xAE ∷ 0 ∷ 7 ∷ []) ∷ (0xAE ∷ 0 ∷ 0 ∷ []) ∷ []) (0 ∷ 1 ∷ 0x7C ∷ [])
    ≡ Ok (3 ∷ 0x0E ∷ 2 ∷ 0 ∷ []) ∷ Ok (3 ∷ 0 ∷ 0x64 ∷ 8 ∷ []) ∷ []
unfolding zeros reading operand_at after
division = refl

-- MUL @>8300,>FF over >10
pub product : cells_of (0 ∷ 1 ∷ []) (steps 1 (given (0x10 ∷ []) (0xAA ∷ 0 ∷ 0xFF ∷ []))) ≡ Ok (3 ∷ 0x0F ∷ 0xF0 ∷ [])
unfolding zeros reading operand_at after
product = refl

-- BR >0010 and BS >0010 where COND is 0; CEQ @>8300,0 and BR >0010
pub branches : each ([]) ((0x40 ∷ 0x10 ∷ []) ∷ (0x60 ∷ 0x10 ∷ []) ∷ []) (0x7C ∷ []) ++ cells_of (0x7C ∷ []) (steps 2 (program (0xD6 ∷ 0 ∷ 0 ∷ 0x40 ∷ 0x10 ∷ []))) ∷ []
    ≡ Ok (0x10 ∷ 0 ∷ []) ∷ Ok (2 ∷ 0 ∷ []) ∷ Ok (5 ∷ 0 ∷ []) ∷ []
unfolding zeros reading operand_at after
branches = refl

-- DEC @>8300; H
pub bit_of_the_status : cells_of (0x7C ∷ []) (steps 2 (program (0x92 ∷ 0 ∷ 9 ∷ []))) ≡ Ok (3 ∷ 0xA0 ∷ [])
unfolding zeros reading operand_at after
bit_of_the_status = refl

-- CASE @>8300 over 3
pub table_of_branches : cells_of ([]) (steps 1 (given (3 ∷ []) (0x8A ∷ 0 ∷ []))) ≡ Ok (8 ∷ [])
unfolding zeros reading operand_at after
table_of_branches = refl

-- CALL 5; BYTE >5A; EXIT; FETCH @>8300; RTN
pub call_fetch_return : cells_of (0 ∷ 0x73 ∷ 0x80 ∷ 0x81 ∷ []) (steps 3 (program (6 ∷ 0 ∷ 5 ∷ 0x5A ∷ 0x0B ∷ 0x88 ∷ 0 ∷ 0 ∷ [])))
    ≡ Ok (4 ∷ 0x5A ∷ 0x7E ∷ 0 ∷ 4 ∷ [])
unfolding zeros reading operand_at after
call_fetch_return = refl

-- the same, and EXIT
pub exit : cells_of ([]) (steps 4 (program (6 ∷ 0 ∷ 5 ∷ 0x5A ∷ 0x0B ∷ 0x88 ∷ 0 ∷ 0 ∷ []))) ≡ Err Exit
unfolding zeros reading operand_at after
exit = refl

-- at >1FFD: CALL >1FF0, where RTN stands
pub call_over_the_end : cells_of (0x73 ∷ []) (steps 1 (record (program (zeros 0x1FFD ++ (6 ∷ 0x1F ∷ 0xF0 ∷ []))) { pc = 0x1FFD }))
    ≡ Ok (0x1FF0 ∷ 0x80 ∷ [])
unfolding zeros reading operand_at after
call_over_the_end = refl

-- ST @>8300,7; PUSH @>8300
pub push : cells_of (0x72 ∷ 0xA0 ∷ []) (steps 2 (program (0xBE ∷ 0 ∷ 7 ∷ 0x8C ∷ 0 ∷ []))) ≡ Ok (5 ∷ 0xA0 ∷ 7 ∷ [])
unfolding zeros reading operand_at after
push = refl

-- ST @>8372,>C1; PUSH @>8300
pub ends_of_the_stacks : cells_of ([]) (steps 2 (program (0xBE ∷ 0x72 ∷ 0xC1 ∷ 0x8C ∷ 0 ∷ []))) ≡ Err Stack
unfolding zeros reading operand_at after
ends_of_the_stacks = refl

-- ST @>8373,>C0; CALL 0
pub end_of_the_returns : cells_of ([]) (steps 2 (program (0xBE ∷ 0x73 ∷ 0xC0 ∷ 6 ∷ 0 ∷ 0 ∷ []))) ≡ Err Stack
unfolding zeros reading operand_at after
end_of_the_returns = refl

-- RAND 9
pub random : cells_of (0x78 ∷ 0xC0 ∷ 0xC1 ∷ []) (steps 1 (program (2 ∷ 9 ∷ []))) ≡ Ok (2 ∷ 2 ∷ 0x7A ∷ 0xB9 ∷ [])
unfolding zeros reading operand_at after
random = refl

-- MOVE 4,@>8301,@>8300
pub copy_upward : cells_of (0 ∷ 1 ∷ 2 ∷ 3 ∷ 4 ∷ []) (steps 1 (given (1 ∷ 2 ∷ 3 ∷ 4 ∷ 0 ∷ []) (0x35 ∷ 0 ∷ 4 ∷ 1 ∷ 0 ∷ [])))
    ≡ Ok (5 ∷ 1 ∷ 1 ∷ 1 ∷ 1 ∷ 1 ∷ [])
unfolding zeros reading operand_at after
copy_upward = refl

-- MOVE 2,@>8302,G@>0006(@>8300) over an index of 1
pub copy_from_grom_by_index : cells_of (2 ∷ 3 ∷ []) (steps 1 (given (0 ∷ 1 ∷ []) (0x33 ∷ 0 ∷ 2 ∷ 2 ∷ 0 ∷ 6 ∷ 0 ∷ 0x11 ∷ [])))
    ≡ Ok (7 ∷ 0x11 ∷ 0 ∷ [])
unfolding zeros reading operand_at after
copy_from_grom_by_index = refl

-- MOVE 2,@>8300,G@>1FFF, across the end of its GROM, where the code byte follows
pub copy_across_the_end_of_grom : cells_of (0 ∷ 1 ∷ []) (steps 1 (program (0x31 ∷ 0 ∷ 2 ∷ 0 ∷ 0x1F ∷ 0xFF ∷ []))) ≡ Ok (6 ∷ 0 ∷ 0x31 ∷ [])
unfolding zeros reading operand_at after
copy_across_the_end_of_grom = refl

-- MOVE 2,R@6,G@0
pub copy_to_registers : registers_of (steps 1 (program (0x39 ∷ 0 ∷ 2 ∷ 6 ∷ 0 ∷ 0 ∷ [])))
    ≡ Ok (0 ∷ 0 ∷ 0 ∷ 0 ∷ 0 ∷ 0 ∷ 0x39 ∷ 0 ∷ [])
unfolding zeros reading operand_at after
copy_to_registers = refl

-- MOVE 0,V@0,G@0; MOVE 16385,V@0,G@0; MOVE 9,R@0,G@0
pub limits_of_a_copy : each ([]) ((0x31 ∷ 0 ∷ 0 ∷ 0xA0 ∷ 0 ∷ 0 ∷ 0 ∷ []) ∷ (0x31 ∷ 0x40 ∷ 1 ∷ 0xA0 ∷ 0 ∷ 0 ∷ 0 ∷ []) ∷ (0x39 ∷ 0 ∷ 9 ∷ 0 ∷ 0 ∷ 0 ∷ []) ∷ []) ([])
    ≡ Ok (7 ∷ []) ∷ Err Length ∷ Err Register ∷ []
unfolding zeros reading operand_at after
limits_of_a_copy = refl

-- DST V@>3FFF,>1234
pub video_wraps : video_of (0x3FFF ∷ 0 ∷ []) (steps 1 (program (0xBF ∷ 0xAF ∷ 0x3F ∷ 0xFF ∷ 0x12 ∷ 0x34 ∷ [])))
    ≡ Ok (0x12 ∷ 0x34 ∷ [])
unfolding zeros reading operand_at after
video_wraps = refl

-- ALL >20
pub fill : video_of (0 ∷ 0x2FF ∷ 0x300 ∷ []) (steps 1 (program (7 ∷ 0x20 ∷ []))) ≡ Ok (0x20 ∷ 0x20 ∷ 0 ∷ [])
unfolding zeros reading operand_at after
fill = refl

-- BACK >17
pub border : registers_of (steps 1 (program (4 ∷ 0x17 ∷ []))) ≡ Ok (0 ∷ 0 ∷ 0 ∷ 0 ∷ 0 ∷ 0 ∷ 0 ∷ 0x17 ∷ [])
unfolding zeros reading operand_at after
border = refl

-- DST @>837E,>0102; ST @>837D,>41
pub character_to_the_screen : video_of (0x22 ∷ []) (steps 2 (program (0xBF ∷ 0x7E ∷ 1 ∷ 2 ∷ 0xBE ∷ 0x7D ∷ 0x41 ∷ [])))
    ≡ Ok (0x41 ∷ [])
unfolding zeros reading operand_at after
character_to_the_screen = refl

-- DST @>837C,>2041
pub character_by_a_word : video_of (0 ∷ []) (steps 1 (program (0xBF ∷ 0x7C ∷ 0x20 ∷ 0x41 ∷ []))) ≡ Ok (0x41 ∷ [])
unfolding zeros reading operand_at after
character_by_a_word = refl

-- at >6000: CALL >6006 where >8373 holds >7B
pub character_by_a_stack : video_of (0x60 ∷ []) (steps 1 (record (given (zeros 0x73 ++ 0x7B ∷ []) (zeros 0x6000 ++ (6 ∷ 0x60 ∷ 6 ∷ []))) { pc = 0x6000 }))
    ≡ Ok (0x60 ∷ [])
unfolding zeros reading operand_at after
character_by_a_stack = refl

-- ADD @>8300,1 over a character of >41
pub status_is_no_character : video_of (0 ∷ []) (steps 1 (given (zeros 0x7D ++ 0x41 ∷ []) (0xA2 ∷ 0 ∷ 1 ∷ [])))
    ≡ Ok (0 ∷ [])
unfolding zeros reading operand_at after
status_is_no_character = refl
