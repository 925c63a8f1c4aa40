use Rattle.std.proofs.Common.{refl, sym, subst, ◌∙◌}
use Rattle.std.specs.Prelude.{Result}
use Rattle.source_defs.specs.Refusals.{Refusal}
use Rattle.gpl_source_defs.specs.declared.causes.GplCause.{GplCause}
use Rattle.report_defs.specs.declared.status.Status.TheVariants as status
use Rattle.report_defs.specs.SourceFaults.{gpl_line}
use Rattle.reports.specs.Outputs.{Outputs, EndsWith}
use Rattle.gpl_list_defs.specs.Text.{listing_lines}
use Rattle.gpl_list_defs.specs.Listing.{report_by}
use Rattle.gpl_list.specs.Listings.{model_of_listing, model_of_refusal}
use Rattle.debug_commands.proofs.Listed.{rows_missed, rows_written, line_written}
use Rattle.debug_commands.proofs.glist.finish_listing.Goals as goal

pub returns-then-is_err : goal.returns-then-is_err
returns-then-is_err g c =
    let listing = model_of_listing c.args.listing.now in
    let o : Outputs = record {
      out = g.O.Sink.state c.args.out.now;
      out' = g.O.Sink.state c.write.new.out;
      err = g.E.Sink.state c.args.err.now;
      err' = g.E.Sink.state c.args.err.now;
    } in
    rows_missed c.write.result o (listing_lines listing.rows listing.names) listing.refused (sym c.is_err.ensures.value ∙ c.if-is_err.true)
    c.write.ensures refl

pub returns-in-Some : goal.returns-in-Some
returns-in-Some g c =
    let listing = model_of_listing c.args.listing.now in
    let lines = listing_lines listing.rows listing.names in
    let o : Outputs = record {
      out = g.O.Sink.state c.args.out.now;
      out' = g.O.Sink.state c.write.new.out;
      err = g.E.Sink.state c.args.err.now;
      err' = g.E.Sink.state c.end_with_line.new.err;
    } in
    let wrote = rows_written c.write.result o lines (sym c.is_err.ensures.value ∙ c.if-is_err.false) c.write.ensures in
    let reported = rw (c.as_slice.ensures.value, c.gpl_line.ensures) at c.end_with_line.ensures in
    subst (λ (refused : Result Unit (Refusal GplCause)). EndsWith o (report_by lines refused) c.end_with_line.result) c.in-Some.ensures
    (line_written o lines (gpl_line (model_of_refusal c.in-Some.refused)) c.end_with_line.result wrote reported)

pub returns-in-None : goal.returns-in-None
returns-in-None g c =
    let listing = model_of_listing c.args.listing.now in
    let lines = listing_lines listing.rows listing.names in
    let o : Outputs = record {
      out = g.O.Sink.state c.args.out.now;
      out' = g.O.Sink.state c.write.new.out;
      err = g.E.Sink.state c.args.err.now;
      err' = g.E.Sink.state c.args.err.now;
    } in
    let wrote = rows_written c.write.result o lines (sym c.is_err.ensures.value ∙ c.if-is_err.false) c.write.ensures in
    subst (λ (refused : Result Unit (Refusal GplCause)). EndsWith o (report_by lines refused) status.Done) c.in-None.ensures
    (refl, (wrote, refl))
