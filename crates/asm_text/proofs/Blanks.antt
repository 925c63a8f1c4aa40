-- Bytes that are above the blanks, and above the quote: a word or an operand field goes on there.
use Rattle.std.proofs.Common.{◌≡◌, ℕ, ◌+◌, ◌<◌, ◌≤◌, false, cond, not, ◌&&◌, List, length, get_or, ap, ◌∙◌, arith}
use Rattle.std.proofs.lemmas.Bool.Decides.{nat_tests}
use Rattle.source_defs.specs.Characters.{is_blank, is_quote}
use Rattle.source_defs.specs.Fields.{ends_field, in_quotes, word_end}
use Rattle.source_defs.specs.Least.{least_place}
use Rattle.source_defs.proofs.LeastLaws.{least_place_step}
use Rattle.source_defs.proofs.Quotes.{in_quotes_more_no}

no_blank : (byte : ℕ) → 32 < byte → is_blank byte ≡ false
no_blank byte above = grind (arith, nat_tests)

no_quote : (byte : ℕ) → 39 < byte → is_quote byte ≡ false
no_quote byte above = grind (arith, nat_tests)

module _ (line : List ℕ) (at : ℕ) (inside : at < length line) where
  pub word_goes_on : 32 < get_or line at 0 → word_end line at ≡ word_end line (at + 1)
  word_goes_on above =
      least_place_step (λ k. is_blank (get_or line k 0)) line at inside ∙ ap (λ b. cond b at (word_end line (at + 1))) (no_blank (get_or line at 0) above)

  module _ (start : ℕ) (after : start ≤ at) (above : 39 < get_or line at 0) where
    pub quotes_stay : in_quotes line start (at + 1) ≡ in_quotes line start at
    quotes_stay = in_quotes_more_no line start at after inside (no_quote (get_or line at 0) above)

    pub field_goes_on : least_place (ends_field line start) line at ≡ least_place (ends_field line start) line (at + 1)
    field_goes_on =
        let blank = no_blank (get_or line at 0) (omega (arith, above)) in
        least_place_step (ends_field line start) line at inside
        ∙ ap (λ b. cond (b && not (in_quotes line start at)) at (least_place (ends_field line start) line (at + 1))) blank
