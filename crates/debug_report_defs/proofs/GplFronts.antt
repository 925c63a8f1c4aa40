-- The fronts of lines of `gsteps` have no equals sign and no line feed, and are read.
use Rattle.std.proofs.Common.{◌≡◌, ℕ, ◌^◌, ◌<◌, ◌∙◌, true, List, [], ◌∷◌, ◌++◌, refl, ap, subst, sym, rules}
use Rattle.std.specs.Prelude.{codes, slice_index}
use Rattle.std.specs.List.{list_all}
use Rattle.source_defs.specs.Digits.{hex_word, byte_digits}
use Rattle.source_defs.specs.ListedLines.{with_operands}
use Rattle.gpl_defs.specs.declared.instruction.PlainOp.TheVariants.{RTN}
use Rattle.gpl_defs.specs.declared.instruction.ByteOp.TheVariants.{RAND}
use Rattle.gpl_defs.specs.declared.instruction.GoOp.TheVariants.{B}
use Rattle.gpl_defs.specs.declared.instruction.OneName.TheVariants.{FETCH}
use Rattle.gpl_defs.specs.declared.instruction.TwoName.TheVariants.{ADD}
use Rattle.gpl_defs.specs.declared.instruction.GplInstr.{GplInstr}
use Rattle.gpl_defs.specs.declared.instruction.GplRead.{GplRead}
use Rattle.gpl_defs.specs.declared.instruction.GplRead.TheVariants.{Instr, Refused}
use Rattle.gpl_defs.specs.Reading.{reading}
use Rattle.gpl_source_defs.specs.declared.mnemonic.Mnemonic.{Mnemonic}
use Rattle.gpl_source_defs.specs.declared.mnemonic.Mnemonic.TheVariants as named
use Rattle.gpl_source_defs.specs.Mnemonics.{name_of}
use Rattle.gpl_step_defs.specs.declared.cells.TheConstants.{STATUS, VALUE_STACK, RETURN_STACK}
use Rattle.gpl_step_defs.specs.State.{GplState}
use Rattle.gpl_listing_defs.specs.Texts.{mnemonic_of, instr_text, read_text}
use Rattle.gpl_listing_defs.proofs.Operands.{Alphabet, Token, shown, tokens_of, tokens_are, shown_all}
use Rattle.report_defs.specs.Program.{state_text}
use Rattle.source_defs.specs.Digits.{right_in}
use Rattle.report_defs.specs.Trace.{step_front}
use Rattle.debug_report_defs.specs.LineFronts.{number_in, after_number, gpl_front_in}
use Rattle.debug_report_defs.proofs.Digits.{word_digits_pass, byte_digits_pass}
use Rattle.debug_report_defs.proofs.LineSplit.{in_front}
use Rattle.debug_report_defs.proofs.FrontRead.{front_all, number_front, number_found, rest_found, state_pc_at, state_text_at}

-- ---- bytes of a front

clean_name : (found : Mnemonic) → list_all in_front (name_of found) ≡ true
clean_name (named.Plain RTN) = refl
clean_name (named.Byte RAND) = refl
clean_name (named.Jump B) = refl
clean_name (named.Branch true) = refl
clean_name (named.One FETCH true) = refl
clean_name (named.One _ true) = refl
clean_name (named.Two ADD true) = refl
clean_name (named.Two _ true) = refl
clean_name _ = refl

alphabet : Alphabet in_front
alphabet = search rules

clean_with : (name : List ℕ) (tokens : List Token) → list_all in_front name ≡ true → list_all in_front (with_operands name (shown tokens)) ≡ true
clean_with name [] e = e
clean_with name (token ∷ tokens) e = front_all name _ e (shown_all in_front alphabet refl (token ∷ tokens))

clean_instr : (found : GplInstr) (at : ℕ) → list_all in_front (instr_text found at) ≡ true
unfolding instr_text
clean_instr found at =
    subst (λ operands. list_all in_front (with_operands (name_of (mnemonic_of found)) operands) ≡ true) (sym (tokens_are found at))
    (clean_with (name_of (mnemonic_of found)) (tokens_of found at) (clean_name (mnemonic_of found)))

clean_text : (read : GplRead) (at : ℕ) → list_all in_front (read_text read at) ≡ true
clean_text (Instr found next) at = clean_instr found at
clean_text (Refused code) at = byte_digits_pass in_front code refl

clean_state : (s : GplState) → list_all in_front (state_text s) ≡ true
unfolding state_text
clean_state s =
    front_all (hex_word s.pc) _ (word_digits_pass in_front s.pc refl)
    (front_all (byte_digits (slice_index s.cells STATUS)) _ (byte_digits_pass in_front (slice_index s.cells STATUS) refl)
    (front_all (byte_digits (slice_index s.cells VALUE_STACK)) _ (byte_digits_pass in_front (slice_index s.cells VALUE_STACK) refl)
    (byte_digits_pass in_front (slice_index s.cells RETURN_STACK) refl)))

pub gpl_front_clean : (number : ℕ) (s : GplState) → list_all in_front (step_front number s) ≡ true
unfolding step_front
gpl_front_clean number s =
    front_all (right_in 6 number) _ (number_front number)
    (front_all (state_text s) (codes " " ++ read_text (reading s.image s.pc) s.pc) (clean_state s) (clean_text (reading s.image s.pc) s.pc))

-- ---- what a front says

pub record GplFrontRead (number : ℕ) (s : GplState) (front : List ℕ) : Type 0 where
  pub number_is : number < 2 ^ 64 → number_in front ≡ number
  pub pc_is : (gpl_front_in 0 (after_number front)).pc ≡ s.pc
  pub instruction_is : (gpl_front_in 0 (after_number front)).instruction ≡ read_text (reading s.image s.pc) s.pc

pub gpl_front_read : (number : ℕ) (s : GplState) → s.pc < 65536 → GplFrontRead number s (step_front number s)
unfolding step_front state_text
gpl_front_read number s lt =
    let text = read_text (reading s.image s.pc) s.pc in
    let status = slice_index s.cells STATUS in
    let values = slice_index s.cells VALUE_STACK in
    let returns = slice_index s.cells RETURN_STACK in
    let shown =
    (hex_word s.pc ++ (codes " S" ++ (byte_digits status ++ (codes " D" ++ (byte_digits values ++ (codes " R" ++ byte_digits returns)))))) ++
    (codes " " ++ text) in
    let rest = rest_found 6 number shown in
    record {
      number_is = λ small. number_found number shown small;
      pc_is = ap (λ l. (gpl_front_in 0 l).pc) rest ∙ state_pc_at s.pc status values returns text lt;
      instruction_is = ap (λ l. (gpl_front_in 0 l).instruction) rest ∙ state_text_at s.pc status values returns text;
    }
