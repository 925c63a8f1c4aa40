-- The text of `demo`: a GPL source that is made from a number.
use Rattle.std.specs.Prelude.{ℕ, zero, suc, ◌+◌, ◌*◌, ◌/◌, ◌%◌, ◌==◌, if◌then◌else◌, List, ◌++◌, codes}
use Rattle.std.specs.List.{flat_map, range_with_len}
use Rattle.source_defs.specs.Digits.{hex_word, hex_byte}

-- Profile: the source has a block of one line for each of its numbers, which have 16 bits. The first comes from the
-- number of the command, and each other from the one before it.
abbrev pub next_number : ℕ → ℕ
next_number number = (number * 25173 + 13849) % 65536

-- the number of the block with an index, from 0
abbrev pub number_of_block : ℕ → ℕ → ℕ
number_of_block number zero = next_number number
number_of_block number (suc before) = next_number (number_of_block number before)

-- Profile: a block's number gives its cell, which is one of the first 64, its byte, and its address in the video
-- memory.
abbrev pub cell_text : ℕ → List ℕ
cell_text number = hex_word (0x8300 + number % 64)

abbrev pub byte_of : ℕ → ℕ
byte_of number = number / 256

abbrev pub video_text : ℕ → List ℕ
video_text number = hex_word (number % 16384)

-- Profile: of four blocks the first adds to a cell, the second stores a word of cells in video memory, the third moves
-- bytes of the program to video memory, and the fourth calls a subroutine.
unfoldable pub add_line : ℕ → List ℕ
add_line number =
    codes "       ADD @" ++ (cell_text number ++ (codes "," ++ (hex_byte (byte_of number) ++ codes "\n")))

unfoldable pub store_line : ℕ → List ℕ
store_line number = codes "       DST V@" ++ (video_text number ++ (codes ",@" ++ (cell_text number ++ codes "\n")))

unfoldable pub move_line : ℕ → List ℕ
move_line number =
    codes "       MOVE " ++ (hex_word (byte_of number) ++ (codes ",V@" ++ (video_text number ++ codes ",G@>6000\n")))

unfoldable pub call_line : List ℕ
call_line = codes "       CALL SUB\n"

abbrev pub block_line : ℕ → ℕ → List ℕ
block_line index number =
    if index % 4 == 0 then add_line number
    else if index % 4 == 1 then store_line number
    else if index % 4 == 2 then move_line number
    else call_line

-- the line of the block with an index, by the number of the command
abbrev pub block_at : ℕ → ℕ → List ℕ
block_at number index = block_line index (number_of_block number index)

-- Profile: after the blocks the program leaves, and then stands the subroutine. The entry is where the blocks begin.
unfoldable pub last_lines : List ℕ
last_lines = codes "       EXIT\nSUB    XOR @>8340,>5A\n       RTN\n       END >6000\n"

-- Profile: there are as many blocks as the number of the command says.
unfoldable pub demo_text : ℕ → List ℕ
demo_text number = flat_map (block_at number) (range_with_len 0 number) ++ last_lines
