use Rattle.std.proofs.Common.{◌≡◌, ◌+◌, ◌||◌, false, Ok, length, sym, ap, ◌∙◌}
use Rattle.std.specs.Prelude.{Option}
use Rattle.source_defs.specs.Refusals.{◌>>=◌}
use Rattle.source_defs.specs.Fields.{no_fields}
use Rattle.expression_defs.specs.Symbols.{Names}
use Rattle.source_defs.proofs.FieldLaws.{fields_are_apart}
use Rattle.expression_defs.specs.Layout.{with_names}
use Rattle.gpl_source_defs.specs.declared.location.Location.{Location}
use Rattle.gpl_source_defs.specs.Locations.{location, after, origin_of}
use Rattle.expression_defs.specs.Layout.{set_or}
use Rattle.gpl_source_defs.specs.FirstChecks.{checked, line_of, names, label_entry, label_value, is_taken, is_full, is_end}
use Rattle.gpl_lines.specs.Defined.{model_of_checked}
use Rattle.gpl_source_defs.proofs.CheckLaws.{is_accepted}
use Rattle.gpl_asm.specs.Replay.{answer}
use Rattle.gpl_asm.proofs.LineLaws.{place_is}
use Rattle.gpl_asm.proofs.CountLaws.{counted}
use Rattle.gpl_asm.proofs.TakeLaws.{answers_here, room_of, label_grows, leads_on, reaches, is_after}
use Rattle.gpl_asm.proofs.lines.GplLines.take.Goals as goal

pub returns-then-is_comment-clause-short : goal.returns-then-is_comment-clause-short
returns-then-is_comment-clause-short c =
    (fields_are_apart c.args.line.now.text.now no_fields (c.is_comment.ensures.0 c.if-is_comment.true)).short

pub returns-then-is_comment-clause-takes : goal.returns-then-is_comment-clause-takes
returns-then-is_comment-clause-takes c = λ lines is.
    counted lines c.args.self.now c.count.new.self is c.args.line.now.text.now (c.is_comment.ensures.0 c.if-is_comment.true)
    c.count.ensures c.nothing_taken.result c.nothing_taken.ensures

pub assemble_line-requires-clause-parsed : goal.assemble_line-requires-clause-parsed
assemble_line-requires-clause-parsed c =
    (is_accepted c.scope-scope.result.symbols.now c.scope-scope.result.at c.args.line.now.text.now (model_of_checked c.in-Ok.checked)
    c.in-Ok.ensures.checked).parsed

pub keep-requires-clause-room : goal.keep-requires-clause-room
keep-requires-clause-room c =
    let builder = c.args.self.now in
    let found = model_of_checked c.in-Ok.checked in
    let at = c.scope-scope.ensures.at in
    let through = is_accepted c.scope-scope.result.symbols.now c.scope-scope.result.at c.args.line.now.text.now found c.in-Ok.ensures.checked in
    let fits : is_full builder.location found.statement ≡ false = ap (λ (at : Location). is_full at found.statement) (sym at) ∙ through.fits in
    room_of builder found c.in_ok-rest.rest
    (answers_here builder found c.in_ok-rest.rest c.scope-scope.result.symbols.now c.scope-scope.result.at c.scope-scope.ensures.symbols at
    c.in_ok-rest.ensures.answers)
    (reaches builder.location found.statement builder.placed fits) c.in_ok-rest.ensures.waits

pub keep-requires-clause-fresh : goal.keep-requires-clause-fresh
keep-requires-clause-fresh c =
    let builder = c.args.self.now in
    let found = model_of_checked c.in-Ok.checked in
    let through = is_accepted c.scope-scope.result.symbols.now c.scope-scope.result.at c.args.line.now.text.now found c.in-Ok.ensures.checked in
    label_grows builder.symbols found.label c.label_value-value.result
    (ap (λ (known : Names). is_taken known found.label) (sym c.scope-scope.ensures.symbols) ∙ through.fresh)

pub advance-requires-clause-place : goal.advance-requires-clause-place
advance-requires-clause-place c =
    leads_on c.scope-scope.result.symbols.now c.scope-scope.result.at c.args.self.now.location c.keep.new.self.location c.args.line.now.text.now
    (model_of_checked c.in-Ok.checked) c.origin-origin.result c.in-Ok.checked.size c.in-Ok.ensures.checked c.scope-scope.ensures.at
    c.in_ok-keep.ensures.still.location c.origin-origin.ensures.origin c.origin-origin.ensures.address c.in-Ok.ensures.size c.args.self.now.placed

pub returns-clause-takes : goal.returns-clause-takes
returns-clause-takes c = λ lines is.
    let found = model_of_checked c.in-Ok.checked in
    let builder = c.args.self.now in
    let at = c.scope-scope.ensures.at in
    let known = c.scope-scope.ensures.symbols in
    let through = is_accepted c.scope-scope.result.symbols.now c.scope-scope.result.at c.args.line.now.text.now found c.in-Ok.ensures.checked in
    let here : checked (names lines) (location lines) c.args.line.now.text.now ≡ Ok found =
    ap (λ (known : Names). checked known (location lines) c.args.line.now.text.now) (sym (known ∙ is.names))
    ∙ (ap (λ (at : Location). checked c.scope-scope.result.symbols.now at c.args.line.now.text.now) (sym (at ∙ is.location)) ∙ c.in-Ok.ensures.checked) in
    let fresh : is_taken builder.symbols found.label ≡ false = ap (λ (known : Names). is_taken known found.label) (sym known) ∙ through.fresh in
    let fits : is_full builder.location found.statement ≡ false = ap (λ (at : Location). is_full at found.statement) (sym at) ∙ through.fits in
    let went = c.advance.ensures in
    let keeps = c.in_ok-keep.ensures in (
      line_of (location lines) (length lines + 1) found,
      ap (λ answer. answer >>= λ found. Ok (line_of (location lines) (length lines + 1) found)) here,
      is_after lines builder is found c.in_ok-rest.rest c.advance.new.self
          (answers_here builder found c.in_ok-rest.rest c.scope-scope.result.symbols.now c.scope-scope.result.at known at c.in_ok-rest.ensures.answers) fresh
          (record {
            waiting = went.waiting.waiting ∙ keeps.waiting;
            names = went.waiting.names ∙ (keeps.defined ∙ ap (λ number. with_names builder.symbols (label_entry found.label number))
                c.label_value-value.ensures);
            location = went.location
                ∙ (ap (λ (origin : Option Location). after (set_or origin c.keep.new.self.location) c.in-Ok.checked.size) c.origin-origin.ensures.origin
                ∙ (ap (λ (at : Location). after (set_or (origin_of builder.location found.statement) at) c.in-Ok.checked.size) keeps.still.location
                ∙ ap (after (set_or (origin_of builder.location found.statement) builder.location)) c.in-Ok.ensures.size));
            taken = went.taken ∙ ap (λ taken. taken + 1) keeps.still.taken;
            ended = went.ended ∙ ap (λ ended. is_end found.statement || ended) keeps.still.ended;
          }),
      record {
        at = is.location ∙ sym (place_is (length lines + 1) found lines);
        origin = c.origin-origin.ensures.origin ∙ ap (λ (at : Location). origin_of at found.statement) is.location;
        names = ap (λ number. label_entry found.label number) (sym (c.label_value-value.ensures
            ∙ ap (λ (at : Location). label_value at found.statement) is.location));
        room = reaches builder.location found.statement builder.placed fits;
      },
    )
