use Rattle.std.proofs.Common.{false, sym, ap, ◌∙◌}
use Rattle.expression_defs.specs.Expression.{characters_after, characters_value}
use Rattle.expression_defs.proofs.CharacterLaws.{value_more}
use Rattle.asm_text.proofs.expressions.evaluate.text_value.Goals as goal

pub returns-in-Some-first_character : goal.returns-in-Some-first_character
returns-in-Some-first_character c =
    let second = c.in-Some-first_character.field-0 in
    sym (value_more c.between_quotes.result.now c.in-Some.first c.in-Some.others.now second.0 second.1.now
    (sym c.in-Some.ensures) (sym c.in-Some-first_character.ensures) c.in-Some-first_character.len_at_least)
    ∙ ap (λ between. characters_value (characters_after false between)) c.between_quotes.ensures
