-- The text of the changes of a step determines them.
use Rattle.std.proofs.Common.{◌≡◌, ℕ, ◌+◌, ◌/◌, ◌%◌, ◌^◌, ◌<◌, ◌≤◌, Bool, true, false, not, cond, nat_eq, ◌&&◌}
use Rattle.std.proofs.Common.{List, [], ◌∷◌, ◌++◌, refl, sym, ap, ap₂, ◌∙◌, subst, append_assoc, append-nil, arith}
use Rattle.std.specs.Prelude.{◌==◌, codes}
use Rattle.std.specs.Fmt.{decimal}
use Rattle.std.proofs.lemmas.Fmt.{decimal_by_steps}
use Rattle.std.proofs.lemmas.Bool.{agree_below_at}
use Rattle.std.proofs.lemmas.Bool.Decides.{nat_tests}
use Rattle.source_defs.specs.Numbers.{hexadecimal_digit, is_hexadecimal_digit}
use Rattle.source_defs.specs.Digits.{byte_digits, word_digits, hex_word}
use Rattle.listed_lines.proofs.DigitLaws.{digit_passes}
use Rattle.change_defs.specs.declared.part.Part.{Part}
use Rattle.change_defs.specs.declared.part.Part.TheVariants.{Cells, Video, Registers}
use Rattle.change_defs.specs.Changes.{Change}
use Rattle.change_defs.specs.Steps.{StepChanges}
use Rattle.change_defs.specs.Text.{size_of, place_text, repeated_text, change_text, change_texts, part_text, step_text}
use Rattle.debug_report_defs.specs.Reader.{Digit, sign_of, Reading, Phase, Place, Byte, Times, with_change, between, ended, after_sign, read_from, changes_of_text}
use Rattle.debug_report_defs.proofs.Digits.{digit_back, decimal_digit_back}

read_append : (r : Reading) (a b : List ℕ) → read_from r (a ++ b) ≡ read_from (read_from r a) b
read_append r [] b = refl
read_append r (x ∷ a) b = read_append (after_sign (sign_of x) r) a b

sign_digit : (d : ℕ) → sign_of (hexadecimal_digit (d % 16)) ≡ Digit (d % 16)
sign_digit d = rw (digit_passes is_hexadecimal_digit d refl, digit_back d) refl

sign_decimal : (d : ℕ) → d < 10 → sign_of (0x30 + d) ≡ Digit d
sign_decimal d lt =
    let is : is_hexadecimal_digit (0x30 + d) ≡ true =
    agree_below_at (λ d. is_hexadecimal_digit (0x30 + d)) (λ d. true) 10 d refl lt in
    rw (is, decimal_digit_back d lt) refl

-- the reading of a number
abbrev reading : StepChanges → Part → ℕ → ℕ → ℕ → Phase → Reading
reading made part at byte number phase =
    record { made = made; part = part; at = at; byte = byte; number = number; phase = phase }

module _ (made : StepChanges) (part : Part) (at : ℕ) where
  word_read : (n : ℕ) → n < 65536 → read_from (reading made part at 0 0 Place) (hex_word n) ≡ reading made part at 0 n Place
  unfolding word_digits
  word_read n lt =
      rw (sign_digit (n / 4096), sign_digit (n / 256), sign_digit (n / 16), sign_digit n)
      (ap (λ k. reading made part at 0 k Place) (omega arith))

  byte_read : (n : ℕ) → n < 256 → read_from (reading made part at 0 0 Byte) (byte_digits n) ≡ reading made part at 0 n Byte
  unfolding byte_digits
  byte_read n lt = rw (sign_digit (n / 16), sign_digit n) (ap (λ k. reading made part at 0 k Byte) (omega arith))

  count_read : (byte n : ℕ) → n < 2 ^ 64 → read_from (reading made part at byte 0 Times) (decimal n) ≡ reading made part at byte n Times
  count_read byte n lt = decimal_by_steps (λ n text. read_from (reading made part at byte 0 Times) text ≡ reading made part at byte n Times) one more n lt
    where
      one : (n : ℕ) → n < 10 → read_from (reading made part at byte 0 Times) ((48 + n) ∷ []) ≡ reading made part at byte n Times
      one n lt =
          ap (λ s. after_sign s (reading made part at byte 0 Times)) (sign_decimal n lt)
          ∙ ap (λ k. reading made part at byte k Times) (omega arith)

      more : (n : ℕ) (ds : List ℕ) → 10 ≤ n → read_from (reading made part at byte 0 Times) ds ≡ reading made part at byte (n / 10) Times
          → read_from (reading made part at byte 0 Times) (ds ++ ((48 + n % 10) ∷ [])) ≡ reading made part at byte n Times
      more n ds ge rest =
          read_append (reading made part at byte 0 Times) ds ((48 + n % 10) ∷ [])
          ∙ ap (λ r. read_from r ((48 + n % 10) ∷ [])) rest
          ∙ ap (λ s. after_sign s (reading made part at byte (n / 10) Times)) (sign_decimal (n % 10) (omega arith))
          ∙ ap (λ k. reading made part at byte k Times) (omega arith)

-- a change that can be written
pub record Fits (part : Part) (c : Change) : Type 0 where
  pub byte : c.byte < 256
  pub at : c.at < size_of part
  pub count : c.count < 2 ^ 64

abbrev pub AllFit : Part → List Change → Type 0
AllFit part [] = Unit {0}
AllFit part (c ∷ cs) = Fits part c × AllFit part cs

-- where a change has its place
abbrev placed : StepChanges → Part → ℕ → Reading
placed made part at = reading made part at 0 0 Byte

module _ (made : StepChanges) (old : ℕ) where
  place_read : (part : Part) (at : ℕ) → at < size_of part
      → read_from (reading made Cells old 0 0 Place) (place_text part at ++ codes "=") ≡ placed made part at
  place_read Cells at lt =
      read_append (reading made Cells old 0 0 Place) (hex_word (0x8300 + at)) (codes "=")
      ∙ ap (λ r. read_from r (codes "=")) (word_read made Cells old (0x8300 + at) (omega (arith, lt)))
      ∙ ap (λ k. placed made Cells k) (omega arith)
  place_read Video at lt =
      read_append (reading made Video old 0 0 Place) (hex_word at) (codes "=")
      ∙ ap (λ r. read_from r (codes "=")) (word_read made Video old at (omega (arith, lt)))
      ∙ ap (λ k. placed made Video k) (omega arith)
  place_read Registers at lt =
      ap (λ s. read_from (after_sign s (reading made Registers old 0 0 Place)) (codes "="))
      (sign_decimal at (omega (arith, lt)))
      ∙ ap (λ k. placed made Registers k) (omega arith)

-- the bytes of a change, and then the change is complete
bytes_read : (made : StepChanges) (part : Part) (c : Change) → Fits part c
    → ended (read_from (placed made part c.at) (repeated_text c.byte c.count)) ≡ between (with_change part c made) part (c.at + c.count)
unfolding repeated_text
bytes_read made part c f =
    ap ended (read_append (placed made part c.at) (byte_digits c.byte) _
    ∙ ap (λ r. read_from r (cond (nat_eq c.count 1) [] (codes "*" ++ decimal c.count))) (byte_read made part c.at c.byte f.byte))
    ∙ by (nat_eq c.count 1) refl
  where
    by : (one : Bool) → nat_eq c.count 1 ≡ one
        → ended (read_from (reading made part c.at 0 c.byte Byte) (cond one [] (codes "*" ++ decimal c.count))) ≡ between (with_change part c made) part (c.at + c.count)
    by true e =
        let is : c.count ≡ 1 = grind (arith, nat_tests) in
        ap (λ (n : ℕ). between (with_change part (record { at = c.at; byte = c.byte; count = n }) made) part (c.at + n)) (sym is)
    by false e = ap ended (count_read made part c.at c.byte c.count f.count)

-- a change after another one that ended at a place
change_read : (r : Reading) (made : StepChanges) (p : Part) (old : ℕ) (part : Part) (end : ℕ) (c : Change) → ended r ≡ between made p old
    → ((end == 0) ≡ false → (p ≡ part) × (old ≡ end)) → Fits part c
    → ended (read_from r (change_text (place_text part) end c)) ≡ between (with_change part c made) part (c.at + c.count)
unfolding change_text
change_read r made p old part end c is goes f = by (nat_eq c.at end) (nat_eq end 0) refl refl
  where
    new : (marked : List ℕ) → read_from r (codes " " ++ (place_text part c.at ++ codes "=")) ≡ placed made part c.at
        → ended (read_from r ((codes " " ++ (place_text part c.at ++ codes "=")) ++ repeated_text c.byte c.count)) ≡ between (with_change part c made) part (c.at + c.count)
    new marked at =
        ap ended (read_append r (codes " " ++ (place_text part c.at ++ codes "=")) (repeated_text c.byte c.count)
        ∙ ap (λ s. read_from s (repeated_text c.byte c.count)) at)
        ∙ bytes_read made part c f

    blank : read_from r (codes " " ++ (place_text part c.at ++ codes "=")) ≡ placed made part c.at
    blank =
        ap (λ (s : Reading). read_from (record s { part = Cells; phase = Place }) (place_text part c.at ++ codes "=")) is
        ∙ place_read made old part c.at f.at

    by : (same zero_end : Bool) → nat_eq c.at end ≡ same → nat_eq end 0 ≡ zero_end
        → ended (read_from r (cond (same && not zero_end) (codes ",") (codes " " ++ (place_text part c.at ++ codes "=")) ++ repeated_text c.byte c.count))
        ≡ between (with_change part c made) part (c.at + c.count)
    by true false e z =
        let at : c.at ≡ end = grind (arith, nat_tests) in
        let on = goes z in
        ap (λ (s : Reading). ended (read_from (record s { phase = Byte }) (repeated_text c.byte c.count)))
        (is ∙ ap₂ (λ (q : Part) (k : ℕ). between made q k) on.0 (on.1 ∙ sym at))
        ∙ bytes_read made part c f
    by _ _ e z = new [] blank

abbrev pub with_changes : Part → List Change → StepChanges → StepChanges
with_changes Cells cs made = record made { cells = made.cells ++ cs }
with_changes Video cs made = record made { vdp = made.vdp ++ cs }
with_changes Registers cs made = record made { registers = made.registers ++ cs }

one_more : (part : Part) (c : Change) (cs : List Change) (made : StepChanges) → with_changes part cs (with_change part c made) ≡ with_changes part (c ∷ cs) made
one_more Cells c cs made = rw append_assoc refl
one_more _ c cs made = rw append_assoc refl

none_more : (part : Part) (made : StepChanges) → with_changes part [] made ≡ made
none_more Cells made = rw append-nil refl
none_more _ made = rw append-nil refl

-- what was read ends with these changes
abbrev EndsAt : Reading → StepChanges → Type 0
EndsAt r made = (p : Part) × (at : ℕ) × (ended r ≡ between made p at)

changes_read : (part : Part) (cs : List Change) (r : Reading) (made : StepChanges) (p : Part) (old end : ℕ) → ended r ≡ between made p old
    → ((end == 0) ≡ false → (p ≡ part) × (old ≡ end)) → AllFit part cs → EndsAt (read_from r (change_texts (place_text part) end cs)) (with_changes part cs made)
changes_read part [] r made p old end is goes fit = (p, old, is ∙ ap (λ (m : StepChanges). between m p old) (sym (none_more part made)))
changes_read part (c ∷ cs) r made p old end is goes fit =
    let first = change_read r made p old part end c is goes fit.0 in
    let rest = changes_read part cs (read_from r (change_text (place_text part) end c)) (with_change part c made) part (c.at + c.count) (c.at + c.count) first (λ e. (refl, refl)) fit.1 in
    subst (λ (m : StepChanges). EndsAt (read_from r (change_text (place_text part) end c ++ change_texts (place_text part) (c.at + c.count) cs)) m) (one_more part c cs made)
    (subst (λ (s : Reading). EndsAt s (with_changes part cs (with_change part c made))) (sym (read_append r (change_text (place_text part) end c) (change_texts (place_text part) (c.at + c.count) cs))) rest)

part_read : (part : Part) (cs : List Change) (r : Reading) (made : StepChanges) → EndsAt r made → AllFit part cs
    → EndsAt (read_from r (part_text part cs)) (with_changes part cs made)
unfolding part_text
part_read part cs r made (p, old, is) fit = changes_read part cs r made p old 0 is (λ e. absurd cc) fit

pub record FitSteps (made : StepChanges) : Type 0 where
  pub cells : AllFit Cells made.cells
  pub vdp : AllFit Video made.vdp
  pub registers : AllFit Registers made.registers

abbrev begun : Reading
begun = between (record { cells = []; vdp = []; registers = [] }) Cells 0

pub step_read : (made : StepChanges) → FitSteps made → changes_of_text (step_text made ++ codes "\n") ≡ made
unfolding step_text
step_read made fit =
    let a = part_text Cells made.cells in
    let b = part_text Video made.vdp in
    let c = part_text Registers made.registers in
    let cells = part_read Cells made.cells begun (record { cells = []; vdp = []; registers = [] }) (Cells, 0, refl) fit.cells in
    let vdp = part_read Video made.vdp (read_from begun a) (record { cells = made.cells; vdp = []; registers = [] }) cells fit.vdp in
    let all = part_read Registers made.registers (read_from (read_from begun a) b) (record { cells = made.cells; vdp = made.vdp; registers = [] }) vdp fit.registers in
    ap (λ (r : Reading). (ended r).made)
    (read_append begun (a ++ (b ++ c)) (codes "\n") ∙ read_append begun a (b ++ c) ∙ read_append (read_from begun a) b c)
    ∙ ap (λ (r : Reading). r.made) all.2
