use Rattle.std.proofs.Common.{◌-◌, List, Err, map, take, sym, ap, subst, ◌∙◌}
use Rattle.std.specs.Prelude.{Result}
use Rattle.source_defs.specs.Refusals.{Refusal}
use Rattle.source_defs.specs.Lines.{line_texts}
use Rattle.expression_defs.specs.Layout.{line_layout}
use Rattle.gpl_source_defs.specs.declared.causes.GplCause.{GplCause}
use Rattle.gpl_source_defs.specs.Locations.{Line}
use Rattle.gpl_source_defs.specs.FirstChecks.{check}
use Rattle.gpl_list_defs.specs.Rows as spec
use Rattle.gpl_list_defs.specs.Listing.{layout_listing, accepted}
use Rattle.gpl_asm.specs.declared.error.GplError.{GplError}
use Rattle.gpl_list.specs.Reading.{model_of_name, ReadsLines}
use Rattle.gpl_list.proofs.ListingLaws.{unplaced}
use Rattle.gpl_list.proofs.listing.list_source.Goals as goal

pub assembled_listing-requires : goal.assembled_listing-requires
assembled_listing-requires c =
    let r = c.in-Ok.ensures {u = tt} in
    (line_texts c.args.text.now, r.0, r.2)

pub returns-in-Err-At : goal.returns-in-Err-At
returns-in-Err-At c =
    let texts = line_texts c.args.text.now in
    let refused : Refusal GplCause = record { line = c.in-Err-At.line; cause = c.in-Err-At.cause } in
    let r = subst (λ (error : GplError). ReadsLines {A = Unit {0}} texts (Err error) c.read.new.self) c.in-Err-At.field-0-is (c.in-Err-At.ensures {u = tt}) in
    let rows = unplaced texts r.1 c.read.new.self.rows.items r.3.rows
    ∙ ap (λ (answer : Result (List Line) (Refusal GplCause)). spec.rows spec.no_bytes texts (accepted answer)) (sym r.2) in
    ap (λ (rows : List spec.Row). record { rows = rows; names = map model_of_name c.new-in-Err-At.result.items; refused = Err refused }) rows
    ∙ (ap (λ (names : List spec.NameRow). record {
      rows = spec.rows spec.no_bytes texts (accepted (line_layout check (take (c.in-Err-At.line - 1) texts)));
      names = names;
      refused = Err refused;
    })
    (ap (map model_of_name) c.new-in-Err-At.ensures.items)
    ∙ sym (ap (layout_listing texts) r.0))
