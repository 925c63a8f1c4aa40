-- One part of a text after the other.
use Rattle.std.proofs.Common.{◌≡◌, ℕ, List, [], ◌∷◌, ◌++◌, map, Result, Ok, Err, IfOk, refl, sym, ap, subst, ◌∙◌, append-nil}
use Rattle.std.specs.List.{AllByRecursion}
use Rattle.object_defs.specs.Writing.{Item, Line, lines_from, empty_line}
use Rattle.object_tags.specs.declared.writer.Writer.{Writer}
use Rattle.object_tags.specs.Lines.{line_bytes, whole, line_of, Wrote}

map-map : {A B C : Type 0} (f : B → C) (g : A → B) (xs : List A) → map f (map g xs) ≡ map (λ (x : A). f (g x)) xs
map-map f g [] = refl
map-map f g (x ∷ xs) = rw (map-map f g xs) refl

-- five parts, the last one at the end of the text
pub composed : (w0 w1 w2 w3 w4 w5 : Writer) (a b c d e : List Item) → Wrote a w0 w1 → Wrote b w1 w2 → Wrote c w2 w3 → Wrote d w3 w4 → Wrote e w4 w5
    → whole w5 [] ≡ whole w0 (a ++ (b ++ (c ++ (d ++ e))))
composed w0 w1 w2 w3 w4 w5 a b c d e p q r s t =
    sym (p (b ++ (c ++ (d ++ e))) ∙ (q (c ++ (d ++ e)) ∙ (r (d ++ e) ∙ (s e ∙ (ap (whole w4) (sym (append-nil e)) ∙ t [])))))

-- a list whose elements are made in two steps
pub in_two_steps : {A B : Type 0} (f : B → Item) (g : A → B) (xs : List A) (before after : Writer) → Wrote (map (λ (x : A). f (g x)) xs) before after
    → Wrote (map f (map g xs)) before after
in_two_steps f g xs before after wrote items = ap (λ (ys : List Item). whole before (ys ++ items)) (map-map f g xs) ∙ wrote items

-- no line, with an empty first line
pub begins : (writer : Writer) (items : List Item) → writer.lines.items ≡ [] → line_of writer ≡ empty_line → writer.number ≡ 1
    → whole writer items ≡ lines_from 1 empty_line items
begins writer items lines line number =
    ap (λ front. line_bytes front ++ lines_from writer.number (line_of writer) items) lines
    ∙ (ap (λ (n : ℕ). lines_from n (line_of writer) items) number ∙ ap (λ (l : Line). lines_from 1 l items) line)

-- a fact about what the elements of a list are made to
pub all_defined : {A B : Type 0} (P : B → Type 0) (f : A → B) (xs : List A) → AllByRecursion (λ (x : A). P (f x)) xs → AllByRecursion P (map f xs)
all_defined P f [] all = tt
all_defined P f (x ∷ xs) all = (all.0, all_defined P f xs all.1)

-- a fact about what a result holds
pub if_ok : {A B E : Type 0} (r : Result A E) (f : A → B) (y : B) (Q : B → Type 0) → Q y → IfOk r (λ (x : A). f x ≡ y) → IfOk r (λ (x : A). Q (f x))
if_ok (Ok x) f y Q q is = subst Q (sym is) q
if_ok (Err e) f y Q q is = tt
