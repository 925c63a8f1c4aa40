use Rattle.std.proofs.Common.{◌≡◌, ◌<◌, ◌∙◌, ℕ, true, cond, List, [], ◌∷◌, length, Ok, Err, sym, ap, arith, rules}
use Rattle.std.specs.Prelude.{map}
use Rattle.source_defs.specs.declared.causes.OperandError.TheVariants.{Form}
use Rattle.source_defs.specs.Lines.{part}
use Rattle.source_defs.specs.Operands.{operand_texts}
use Rattle.source_defs.specs.OperandLists.{none_empty, operand_list}
use Rattle.source_defs.proofs.OperandSteps.{operands_from_step}
use Rattle.asm_text.proofs.operand_fields.operand_lists.operand_list.Goals as goal

written : (texts : List (List ℕ)) (first : List ℕ) (others : List (List ℕ)) → texts ≡ first ∷ others → none_empty texts ≡ true → Ok texts ≡ operand_list texts
written texts first others same all =
    ap Ok same ∙ (sym (ap (λ b. cond b (Ok (first ∷ others)) (Err Form)) (ap none_empty (sym same) ∙ all)) ∙ ap operand_list (sym same))

-- a field that is not empty has an operand
field_written : (field : List ℕ) → 0 < length field → none_empty (operand_texts field) ≡ true → Ok (operand_texts field) ≡ operand_list (operand_texts field)
field_written [] filled all = absurd (omega (arith, filled))
field_written (byte ∷ bytes) filled all =
    written (operand_texts (byte ∷ bytes)) _ _ (ap (map (part (byte ∷ bytes))) (operands_from_step (byte ∷ bytes) 0 (omega arith))) all

pub returns-then-none_empty-clause-texts : goal.returns-then-none_empty-clause-texts
returns-then-none_empty-clause-texts c =
    let filled : 0 < length c.args.field.now = search rules in
    field_written c.args.field.now filled (sym c.none_empty.ensures ∙ c.if-none_empty.true)
