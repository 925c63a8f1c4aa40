-- The characters of source text, by their ASCII codes.
use Rattle.std.specs.Prelude.{ℕ, ◌-◌, ◌==◌, Bool, ◌&&◌, ◌||◌, nat_le, if◌then◌else◌}

abbrev pub is_line_feed : ℕ → Bool
is_line_feed byte = byte == 0x0A

abbrev pub is_carriage_return : ℕ → Bool
is_carriage_return byte = byte == 0x0D

-- Profile: a tab is a blank, as a space is.
abbrev pub is_blank : ℕ → Bool
is_blank byte = (byte == 0x20) || (byte == 0x09)

abbrev pub is_quote : ℕ → Bool
is_quote byte = byte == 0x27

abbrev pub is_asterisk : ℕ → Bool
is_asterisk byte = byte == 0x2A

abbrev pub is_comma : ℕ → Bool
is_comma byte = byte == 0x2C

abbrev pub is_at_sign : ℕ → Bool
is_at_sign byte = byte == 0x40

-- 0 to 9
abbrev pub is_digit : ℕ → Bool
is_digit byte = nat_le 0x30 byte && nat_le byte 0x39

-- a to z
abbrev pub is_lower_case : ℕ → Bool
is_lower_case byte = nat_le 0x61 byte && nat_le byte 0x7A

-- A to Z, or a to z
abbrev pub is_letter : ℕ → Bool
is_letter byte = (nat_le 0x41 byte && nat_le byte 0x5A) || is_lower_case byte

-- a letter in upper case; each other byte stays as it is
abbrev pub upper_case : ℕ → ℕ
upper_case byte = if is_lower_case byte then byte - 0x20 else byte
