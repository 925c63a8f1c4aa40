use Rattle.std.proofs.Common.{◌≡◌, true, rules, sym, subst, ◌∙◌}
use Rattle.source_defs.specs.Names.{is_name, IsUpperCaseName}
use Rattle.source_defs.proofs.FieldLaws.{upper_case_name}
use Rattle.asm_text.proofs.text_lines.split.upper_case_name.Goals as goal

pub returns-clause-names : goal.returns-clause-names
returns-clause-names c =
    let named : is_name c.args.field.now ≡ true = search rules in
    subst IsUpperCaseName (sym (c.of_padded.ensures ∙ c.in_ok-letters.ensures.upper)) (upper_case_name c.args.field.now named)
