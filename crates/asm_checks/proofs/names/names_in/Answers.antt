use Rattle.std.proofs.Common.{◌≡◌, Bool, true, false, ◌∷◌, [], ◌++◌, Some, None, rules, sym, ap, ◌∙◌, append_assoc}
use Rattle.std.specs.Prelude.{map, if◌then◌else◌}
use Rattle.source_defs.specs.Characters.{upper_case}
use Rattle.source_defs.specs.Names.{is_name}
use Rattle.source_defs.specs.Lines.{part}
use Rattle.asm_defs.specs.Statements.{upper_names}
use Rattle.asm_checks.proofs.names.names_in.Goals as goal

operand_list : {A : Type 0} (b : Bool) (x y : A) → Some x ≡ (if b then Some y else None) → x ≡ y
operand_list true x y e = cc e
operand_list false x y e = cc e

-- an operand's name comes after those before it
pub loop-span-preserved-in-Continue-1 : goal.loop-span-preserved-in-Continue-1
loop-span-preserved-in-Continue-1 c =
    let field = c.args.field.now in
    let span = c.in-Some.span in
    let name = c.in-Some-upper_case_name.name in
    let others = upper_names (map (part field) c.next.new.self) in
    let before = c.loop-span.names.items in
    let is : name ≡ map upper_case (part field span) = operand_list (is_name (part field span)) _ _ c.in-Some-upper_case_name.ensures.value in
    let kept : c.push.new.self.items ≡ before ++ name ∷ [] = c.in_ok-push.ensures.items in
    let so_far : c.push.new.self.items ++ others ≡ before ++ upper_names (map (part field) c.loop-span.span-iterator) =
    ap (λ items. items ++ others) kept
    ∙ (append_assoc before (name ∷ []) others
    ∙ (ap (λ found. before ++ found ∷ others) is
    ∙ ap (λ spans. before ++ upper_names (map (part field) spans)) (sym c.in-Some.ensures.steps))) in
    record { inside = search rules; left = search rules; so_far = so_far ∙ c.loop-span.invariant.so_far }
