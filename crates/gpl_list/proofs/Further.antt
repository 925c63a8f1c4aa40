-- Rows of further bytes.
use Rattle.std.proofs.Common.{◌≡◌, ℕ, zero, suc, ◌+◌, ◌/◌, ◌%◌, ◌<◌, ◌≤◌, List, [], ◌∷◌, length, take, drop, refl, sym, ap, ap₂, ◌∙◌, arith}
use Rattle.std.proofs.lemmas.List.{drop_all, length-drop}
use Rattle.std.specs.Prelude.{◌++◌, codes}
use Rattle.report_defs.specs.Rows.{spaced_bytes}
use Rattle.source_defs.specs.Numbers.{hexadecimal_digit}
use Rattle.source_defs.specs.Digits.{word_digits, hex_word}
use Rattle.gpl_list_defs.specs.Text.{further_line, further_rows, further_lines}

digits_by : (a b c d e f g h : ℕ) → a ≡ e → b ≡ f → c ≡ g → d ≡ h
    → ◌≡◌ {A = List ℕ} (hexadecimal_digit a ∷ hexadecimal_digit b ∷ hexadecimal_digit c ∷ hexadecimal_digit d ∷ [])
    (hexadecimal_digit e ∷ hexadecimal_digit f ∷ hexadecimal_digit g ∷ hexadecimal_digit h ∷ [])
digits_by a b c d e f g h p q r s =
    ap (λ a. hexadecimal_digit a ∷ hexadecimal_digit b ∷ hexadecimal_digit c ∷ hexadecimal_digit d ∷ []) p
    ∙ (ap (λ b. hexadecimal_digit e ∷ hexadecimal_digit b ∷ hexadecimal_digit c ∷ hexadecimal_digit d ∷ []) q
    ∙ (ap (λ c. hexadecimal_digit e ∷ hexadecimal_digit f ∷ hexadecimal_digit c ∷ hexadecimal_digit d ∷ []) r
    ∙ ap (λ d. hexadecimal_digit e ∷ hexadecimal_digit f ∷ hexadecimal_digit g ∷ hexadecimal_digit d ∷ []) s))

-- a word is shown by its last 16 bits
pub word_by : (number word : ℕ) → word ≡ number % 65536 → hex_word word ≡ hex_word number
unfolding word_digits
word_by number word e =
    ap (λ digits. 0x3E ∷ digits)
    (digits_by (word / 4096 % 16) (word / 256 % 16) (word / 16 % 16) (word % 16) (number / 4096 % 16) (number / 256 % 16) (number / 16 % 16) (number % 16)
    (omega (arith, e)) (omega (arith, e)) (omega (arith, e)) (omega (arith, e)))

pub take_short : (count : ℕ) (bytes : List ℕ) → length bytes ≤ count → take count bytes ≡ bytes
take_short zero [] le = refl
take_short zero (byte ∷ bytes) le = absurd (omega (arith, le))
take_short (suc count) [] le = refl
take_short (suc count) (byte ∷ bytes) le = ap (λ bytes. byte ∷ bytes) (take_short count bytes (omega (arith, le)))

pub drop_short : (count : ℕ) (bytes : List ℕ) → length bytes ≤ count → drop count bytes ≡ []
drop_short count bytes le = drop_all count bytes le

line_wraps : (number word : ℕ) (bytes : List ℕ) → word ≡ number % 65536 → further_line word bytes ≡ further_line number bytes
unfolding further_line
line_wraps number word bytes e = ap (λ shown. codes "        " ++ (shown ++ (spaced_bytes bytes ++ codes "\n"))) (word_by number word e)

-- rows are shown alike from addresses that are the same words
pub rows_wrap : (count a b : ℕ) (bytes : List ℕ) → a % 65536 ≡ b % 65536 → further_rows count a bytes ≡ further_rows count b bytes
rows_wrap zero a b bytes e = refl
rows_wrap (suc count) a b bytes e =
    ap₂ (λ line rows. line ∷ rows)
    (sym (line_wraps a (a % 65536) (take 8 bytes) refl) ∙ (ap (λ at. further_line at (take 8 bytes)) e ∙ line_wraps b (b % 65536) (take 8 bytes) refl))
    (rows_wrap count (a + 8) (b + 8) (drop 8 bytes) (omega (arith, e)))

pub one_row : (at : ℕ) (bytes : List ℕ) → 0 < length bytes
    → further_lines at bytes ≡ further_line at (take 8 bytes) ∷ further_lines (at + 8) (drop 8 bytes)
one_row at bytes some =
    let rest = length-drop 8 bytes in
    let count : (length bytes + 7) / 8 ≡ suc ((length (drop 8 bytes) + 7) / 8) = omega (arith, some, rest) in
    ap (λ count. further_rows count at bytes) count
