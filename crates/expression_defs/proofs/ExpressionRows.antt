-- Worked rows of tokens, values and operands.
use Rattle.std.proofs.Common.{◌≡◌, ℕ, List, [], ◌∷◌, Some, None, Ok, Err, refl}
use Rattle.std.specs.Prelude.{Option, Result, codes, map, if◌then◌else◌}
use Rattle.expression_defs.specs.declared.causes.ExprError.{ExprError}
use Rattle.expression_defs.specs.declared.causes.ExprError.TheVariants.{BadToken, UnknownName, BadRelocation, TooLarge, DivideByZero}
use Rattle.source_defs.specs.declared.text.Span.{Span}
use Rattle.source_defs.specs.Names.{is_word}
use Rattle.source_defs.specs.Fields.{in_quotes}
use Rattle.expression_defs.specs.Tokens.{token_at, tokens_from}
use Rattle.expression_defs.specs.Expression.{Value, Absolute, Relocatable, External, expression}
use Rattle.source_defs.specs.Operands.{operands, operands_from}

-- LOOP is relocatable >0104, A is absolute 10, EXT is external, and no other name is known; $ is relocatable >0110
abbrev look : List ℕ → Option Value
look name =
    if is_word name (codes "LOOP") then Some (Relocatable 0x0104)
    else if is_word name (codes "A") then Some (Absolute 10)
    else if is_word name (codes "EXT") then Some (External (codes "EXT"))
    else None

abbrev span : ℕ → ℕ → Span
span start end = record { start = start; end = end }

abbrev gives : List ℕ → Result Value ExprError
gives text = expression look (Relocatable 0x0110) text

left_to_right : map gives
    (
    codes "1+2*3" ∷ codes "7-10/2" ∷ codes "-7/2" ∷ codes ">8000/>FFFF" ∷ codes ">ffff+1" ∷ codes "a*A" ∷ []
    )
    ≡ Ok (Absolute 9) ∷ Ok (Absolute 0xFFFF) ∷ Ok (Absolute 0xFFFD) ∷ Ok (Absolute 0x8000) ∷ Ok (Absolute 0) ∷ Ok (Absolute 100) ∷ []
unfolding tokens_from token_at in_quotes
left_to_right = refl

by_kind : map gives
    (
    codes "LOOP" ∷ codes "$+2" ∷ codes "2+LOOP" ∷ codes "$-LOOP" ∷ codes "LOOP-4" ∷ codes "EXT" ∷ []
    )
    ≡ Ok (Relocatable 0x0104) ∷ Ok (Relocatable 0x0112) ∷ Ok (Relocatable 0x0106) ∷ Ok (Absolute 0x000C) ∷ Ok (Relocatable 0x0100) ∷ Ok (External (codes "EXT")) ∷ []
unfolding tokens_from token_at in_quotes
by_kind = refl

wrongly_joined : map gives
    (
    codes "LOOP+LOOP" ∷ codes "4-LOOP" ∷ codes "-LOOP" ∷ codes "EXT+0" ∷ codes "LOOP*1" ∷ codes "LOOP/0" ∷ codes "1/0" ∷ []
    )
    ≡ Err BadRelocation ∷ Err BadRelocation ∷ Err BadRelocation ∷ Err BadRelocation ∷ Err BadRelocation ∷ Err BadRelocation ∷ Err DivideByZero ∷ []
unfolding tokens_from token_at in_quotes
wrongly_joined = refl

of_characters : map gives
    (
    codes "'A'" ∷ codes "'AB'+1" ∷ codes "''''" ∷ codes "'A'''" ∷ codes "''" ∷ codes "'ABC'" ∷ codes "UNDEF+'ABC'" ∷ []
    )
    ≡ Ok (Absolute 0x41) ∷ Ok (Absolute 0x4143) ∷ Ok (Absolute 0x27) ∷ Ok (Absolute 0x4127) ∷ Err BadToken ∷ Err BadToken ∷ Err UnknownName ∷ []
unfolding tokens_from token_at in_quotes
of_characters = refl

refused_in_the_first_step : map gives
    (
    codes "UNDEF+'A" ∷ codes "UNDEF+65536" ∷ codes ">00001" ∷ codes "UNDEF+ABCDEFG" ∷ codes "1/0+>" ∷ codes "UNDEF+." ∷ codes "1 2" ∷ []
    )
    ≡ Err BadToken ∷ Err TooLarge ∷ Err TooLarge ∷ Err BadToken ∷ Err BadToken ∷ Err BadToken ∷ Err BadToken ∷ []
unfolding tokens_from token_at in_quotes
refused_in_the_first_step = refl

refused_in_the_second_step : map gives
    (
    codes "" ∷ codes "1+" ∷ codes "UNDEF+" ∷ codes "12A" ∷ codes "+1" ∷ codes "1--1" ∷ codes "-" ∷ codes "--1" ∷ codes "EXT+UNDEF" ∷ codes "1/0+UNDEF" ∷ codes "007" ∷ []
    )
    ≡ Err BadToken ∷ Err BadToken ∷ Err UnknownName ∷ Err BadToken ∷ Err BadToken ∷ Err BadToken ∷ Err BadToken ∷ Err BadToken ∷ Err UnknownName ∷ Err DivideByZero ∷ Ok (Absolute 7) ∷ []
unfolding tokens_from token_at in_quotes
refused_in_the_second_step = refl

-- a comma in quotes parts no operands, and an empty operand is one
cut : map operands (codes "" ∷ codes "R1" ∷ codes "'A,B',2" ∷ codes ",1," ∷ [])
    ≡ [] ∷ (span 0 2 ∷ []) ∷ (span 0 5 ∷ span 6 7 ∷ []) ∷ (span 0 0 ∷ span 1 2 ∷ span 3 3 ∷ []) ∷ []
unfolding in_quotes operands_from
cut = refl
