-- A builder after a line that says nothing.
use Rattle.std.proofs.Common.{◌≡◌, ℕ, ◌+◌, ◌≤◌, false, List, None, Ok, length, refl, sym, ap, subst, ◌∙◌, arith}
use Rattle.std.proofs.lemmas.List.{append-nil}
use Rattle.std.proofs.lemmas.Bool.Decides.{nat_tests}
use Rattle.source_defs.specs.Refusals.{◌>>=◌}
use Rattle.source_defs.specs.Fields.{fields, no_fields}
use Rattle.expression_defs.specs.Symbols.{Names}
use Rattle.gpl_source_defs.specs.declared.location.Location.{Location}
use Rattle.gpl_source_defs.specs.Statements.{Nothing}
use Rattle.gpl_source_defs.specs.Locations.{Line, location, IsInGrom}
use Rattle.gpl_source_defs.specs.FirstChecks.{Checked, checked, line_of, names, label_entry, is_full}
use Rattle.gpl_source_defs.specs.SecondChecks.{outcome}
use Rattle.gpl_asm.specs.declared.lines.GplLines.{GplLines}
use Rattle.gpl_asm.specs.Building.{IsAfter, Takes}
use Rattle.gpl_asm.specs.declared.taken.TakenLine.{TakenLine}
use Rattle.gpl_asm.specs.Keeping.{Counts}
use Rattle.gpl_asm.proofs.LineLaws.{place_is}
use Rattle.gpl_asm.proofs.TakeLaws.{Answers, is_after, reaches}

-- what the first checks leave of a line that says nothing
abbrev pub nothing_checked : Checked
nothing_checked = record { label = None; statement = Nothing }

not_full : (here : Location) → IsInGrom here → is_full here Nothing ≡ false
not_full here is = let le = is.within in grind (arith, nat_tests, le)

nothing_parsed : (known : Names) (here : Location) (text : List ℕ) → fields text ≡ Ok no_fields → is_full here Nothing ≡ false
    → checked known here text ≡ Ok nothing_checked
unfolding checked
nothing_parsed known here text none fits = rw (none, fits) refl

module _ (lines : List Line) (builder new : GplLines) (is : IsAfter lines builder) where
  nothing_comes : Answers builder nothing_checked None
  unfolding outcome
  nothing_comes = λ later grows. refl

  fits : is_full builder.location Nothing ≡ false
  fits = not_full builder.location builder.placed

  pub counted : (text : List ℕ) → fields text ≡ Ok no_fields → Counts builder new → (known : TakenLine)
      → known ≡ record { at = new.location; origin = None; label = None; value = 0 } → Takes lines text (Ok known) new
  counted text none counts known describes =
      let there : is_full (location lines) Nothing ≡ false = ap (λ (at : Location). is_full at Nothing) (sym is.location) ∙ fits in
      let here : builder.location.number + 0 ≡ builder.location.number = omega arith in (
        line_of (location lines) (length lines + 1) nothing_checked,
        ap (λ answer. answer >>= λ found. Ok (line_of (location lines) (length lines + 1) found))
            (nothing_parsed (names lines) (location lines) text none there),
        is_after lines builder is nothing_checked None new nothing_comes refl (record {
          waiting = counts.lists.waiting ∙ sym (append-nil builder.waiting.items);
          names = counts.lists.names;
          location = counts.location ∙ ap (λ number. record { grom = builder.location.grom; number = number }) (sym here);
          taken = counts.taken;
          ended = counts.ended;
        }),
        record {
          at = ap (λ (known : TakenLine). known.at) describes ∙ (counts.location ∙ (is.location ∙ sym (place_is (length lines + 1) nothing_checked lines)));
          origin = ap (λ (known : TakenLine). known.origin) describes;
          names = ap (λ (known : TakenLine). label_entry known.label known.value) (sym describes);
          room =
              let at : known.at ≡ builder.location = ap (λ (known : TakenLine). known.at) describes ∙ counts.location in
              subst (λ (at : Location). at.number + 0 ≤ 65536) (sym at) (reaches builder.location Nothing builder.placed fits);
        },
      )
