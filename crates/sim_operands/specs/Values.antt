-- How values and places are in the registers of the interpreter.
use Rattle.std.specs.Prelude.{ℕ, ◌+◌, ◌==◌, ◌≡◌, ◌≤◌, if◌then◌else◌}
use Rattle.sim_view.specs.Prelude.{Byte, Cpu, high, join, size_of, Space, Vdp, VISIBLE_CELLS, Width, Word}

-- the width that register 3 says: 1 is a byte, all else a word
abbrev pub width_in : ℕ → Width
width_in number = if number == 1 then Byte else Word

-- a number in a register: a byte in the high half, and 0 below it
abbrev pub in_register : Width → ℕ → ℕ
in_register Byte number = join number 0
in_register Word number = number

-- the number that a register holds: a byte is its high half
abbrev pub of_register : Width → ℕ → ℕ
of_register Byte word = high word
of_register Word word = word

-- the number of a space
abbrev pub number_of_space : Space → ℕ
number_of_space Cpu = 0
number_of_space Vdp = 1

-- A place in the cells, of the width in register 3, is visible.
abbrev pub IsVisible : ℕ → ℕ → ℕ → Type 0
IsVisible space offset width = space ≡ 0 → offset + size_of (width_in width) ≤ VISIBLE_CELLS
