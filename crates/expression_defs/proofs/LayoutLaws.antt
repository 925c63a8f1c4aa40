-- Lines that are placed one after the other, for any assembler.
use Rattle.std.proofs.Common.{◌≡◌, ℕ, ◌+◌, Bool, true, false, ◌||◌, List, [], ◌∷◌, ◌++◌, Ok, Err, length, refl, sym, ap, ◌∙◌, arith}
use Rattle.std.specs.Prelude.{Result, if◌then◌else◌, map, ⊤}
use Rattle.source_defs.specs.declared.text.Line.{Line as TextLine}
use Rattle.source_defs.specs.declared.text.Span.{Span}
use Rattle.source_defs.specs.Lines.{part, lines, lines_from, numbered_from, numbered}
use Rattle.source_defs.specs.Refusals.{Refusal, ◌>>=◌, at_line}
use Rattle.expression_defs.specs.Layout.{LayoutLine, layout_after, has_ended}

pub first_of_two : (a b : Bool) → (a || b) ≡ true → b ≡ false → a ≡ true
first_of_two true b e f = refl
first_of_two false b e f = cc (e, f)

pub none_of_two : (a b : Bool) → (a || b) ≡ false → a ≡ false
none_of_two true b e = cc e
none_of_two false b e = refl

-- lines that count from a number on
abbrev pub IsNumbered : ℕ → List TextLine → Type 0
IsNumbered number [] = ⊤
IsNumbered number (line ∷ lines) = (line.number ≡ number) × IsNumbered (number + 1) lines

numbers : (number : ℕ) (spans : List Span) → IsNumbered number (numbered_from number spans)
numbers number [] = tt
numbers number (span ∷ spans) = (refl, numbers (number + 1) spans)

pub lines_numbered : (text : List ℕ) → IsNumbered 1 (lines text)
unfolding lines_from
lines_numbered text = numbers 1 _

abbrev pub texts_of : List ℕ → List TextLine → List (ℕ × List ℕ)
texts_of text lines = map (λ line. (line.number, part text line.span)) lines

module _ {P S C : Type 0} (check : List (LayoutLine P S) → ℕ → List ℕ → Result (LayoutLine P S) C) where
  abbrev Answer : Type 0
  Answer = Result (List (LayoutLine P S)) (Refusal C)

  abbrev after_line : List (LayoutLine P S) → List (ℕ × List ℕ) → LayoutLine P S → Answer
  after_line before rest found = if found.last then Ok (found ∷ before) else layout_after check (found ∷ before) rest

  abbrev answers : Answer → Answer → Type 0
  answers a b = a ≡ b

  either : (b : Bool) (found : List (LayoutLine P S)) → answers (if b then Ok found else Ok found) (Ok found)
  either true found = refl
  either false found = refl

  -- a line after lines of which none ends the source
  module _ (text : List ℕ) where
    abbrev pub last_line : List (LayoutLine P S) → ℕ → Answer
    last_line lines number = at_line number (check lines number text) >>= λ line. Ok (line ∷ lines)

    end_by : (before : List (LayoutLine P S)) (answer : Result (LayoutLine P S) (Refusal C)) → answers (answer >>= after_line before []) (answer >>= λ line. Ok (line ∷ before))
    end_by before (Ok found) = either found.last (found ∷ before)
    end_by before (Err refusal) = refl

    step_by : (before : List (LayoutLine P S)) (rest more : List (ℕ × List ℕ)) (whole : Answer) (lines : List (LayoutLine P S)) (found : LayoutLine P S)
        (b : Bool)
        → found.last ≡ b → answers (if b then Ok (found ∷ before) else layout_after check (found ∷ before) rest) (Ok lines) → has_ended lines ≡ false
        → (layout_after check (found ∷ before) rest ≡ Ok lines → layout_after check (found ∷ before) more ≡ whole)
        → answers (if b then Ok (found ∷ before) else layout_after check (found ∷ before) more) whole
    step_by before rest more whole lines found true last is going next =
        let same : found ∷ before ≡ lines = cc is in
        let ended : has_ended lines ≡ true = sym (ap has_ended same) ∙ ap (λ b. b || has_ended before) last in
        cc (ended, going)
    step_by before rest more whole lines found false last is going next = next is

    step : (before : List (LayoutLine P S)) (rest more : List (ℕ × List ℕ)) (whole : Answer) (lines : List (LayoutLine P S))
        (answer : Result (LayoutLine P S) (Refusal C))
        → answers (answer >>= after_line before rest) (Ok lines) → has_ended lines ≡ false
        → ((found : LayoutLine P S) → layout_after check (found ∷ before) rest ≡ Ok lines → layout_after check (found ∷ before) more ≡ whole)
        → answers (answer >>= after_line before more) whole
    step before rest more whole lines (Ok found) is going next = step_by before rest more whole lines found found.last refl is going (next found)
    step before rest more whole lines (Err refusal) is going next = cc is

    pub layout_more : (texts : List (List ℕ)) (before : List (LayoutLine P S)) (number last : ℕ) (lines : List (LayoutLine P S)) → last ≡ number + length texts
        → layout_after check before (numbered number texts) ≡ Ok lines → has_ended lines ≡ false
        → layout_after check before (numbered number (texts ++ text ∷ [])) ≡ last_line lines last
    layout_more [] before number last lines e is going =
        let same : before ≡ lines = cc is in
        let at : number ≡ last = omega (arith, e) in
        end_by before (at_line number (check before number text))
        ∙ (ap (λ (lines : List (LayoutLine P S)). last_line lines number) same ∙ ap (last_line lines) at)
    layout_more (first ∷ texts) before number last lines e is going =
        step before (numbered (number + 1) texts) (numbered (number + 1) (texts ++ text ∷ [])) (last_line lines last) lines
        (at_line number (check before number first)) is going
        (λ found next. layout_more texts (found ∷ before) (number + 1) last lines (omega (arith, e)) next going)

  -- the first of the lines of a text that are left
  module _ (text : List ℕ) (before : List (LayoutLine P S)) (line : TextLine) (rest : List TextLine) (is : line.number ≡ length before + 1) where
    abbrev pub left : Answer
    left = layout_after check before (texts_of text (line ∷ rest))

    there : (answer : Result (LayoutLine P S) C) → check before (length before + 1) (part text line.span) ≡ answer → check before line.number (part text line.span) ≡ answer
    there answer e = ap (λ number. check before number (part text line.span)) is ∙ e

    pub refused_there : (cause : C) → check before (length before + 1) (part text line.span) ≡ Err cause → left ≡ Err (record { line = length before + 1; cause = cause })
    refused_there cause e = rw (there (Err cause) e) (ap (λ number. Err (record { line = number; cause = cause })) is)

    pub ends_there : (found : LayoutLine P S) → check before (length before + 1) (part text line.span) ≡ Ok found → found.last ≡ true
        → left ≡ Ok (found ∷ before)
    ends_there found e last = rw (there (Ok found) e) (rw last refl)

    pub goes_on : (found : LayoutLine P S) → check before (length before + 1) (part text line.span) ≡ Ok found → found.last ≡ false
        → left ≡ layout_after check (found ∷ before) (texts_of text rest)
    goes_on found e last = rw (there (Ok found) e) (rw last refl)
