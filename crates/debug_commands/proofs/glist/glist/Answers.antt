use Rattle.std.proofs.Common.{Ok, Err, refl, ap, subst}
use Rattle.report_defs.specs.declared.status.Status.TheVariants as status
use Rattle.reports.specs.declared.command_error.CommandError.{CommandError}
use Rattle.reports.specs.Outputs.{Outputs}
use Rattle.reports.specs.Answers.{Ends, error_answer}
use Rattle.gpl_list_defs.specs.Listing.{listing_report}
use Rattle.gpl_list.specs.Listings.{model_of_listing}
use Rattle.debug_commands.proofs.glist.glist.Goals as goal

pub returns-in-Ok : goal.returns-in-Ok
returns-in-Ok g c =
    (Ok (listing_report (model_of_listing c.in-Ok.listing)), ap listing_report c.in-Ok.ensures, c.finish_listing.ensures)

pub returns-in-Err : goal.returns-in-Err
returns-in-Err g c =
    let out = g.O.Sink.state in
    let err = g.E.Sink.state in
    let o : Outputs = record { out = out c.args.out.now; out' = out c.finish.new.out; err = err c.args.err.now; err' = err c.finish.new.err } in
    let ends = subst (λ (command_error : CommandError). Ends o (error_answer command_error) c.finish.result) c.into.ensures c.finish.ensures in
    (Err status.Memory, refl, ends)
