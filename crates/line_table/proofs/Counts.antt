-- Written by tools/interpreter from crates/native_interp/src/source.
-- How many lines and names the source has.
use Rattle.std.proofs.Common.{ℕ}

-- the lines
abbrev pub line_count : ℕ
line_count = 915

-- the lines before the last
abbrev pub most : ℕ
most = 914

-- the names
abbrev pub name_count : ℕ
name_count = 191
