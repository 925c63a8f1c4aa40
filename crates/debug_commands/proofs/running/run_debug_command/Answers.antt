use Rattle.std.proofs.Common.{◌≡◌, List, ℕ, refl, sym, subst}
use Rattle.reports.specs.Answers.{Ends}
use Rattle.reports.specs.Outputs.{Outputs}
use Rattle.reports.specs.Run.{EndsBy}
use Rattle.debug_report_defs.specs.declared.command.DebugCommand.{DebugCommand}
use Rattle.debug_report_defs.specs.declared.command.DebugCommand.TheVariants.{Gcounts, Glist, Grun, Gsteps, Steps}
use Rattle.report_defs.specs.Report.{AcceptedReport}
use Rattle.report_defs.specs.declared.command.Command.TheVariants.{Run}
use Rattle.gpl_list_defs.specs.Listing.{listing_of, listing_report}
use Rattle.bench_commands.proofs.Ends.{by_unread}
use Rattle.debug_commands.specs.Ends.{EndsInstructions}
use Rattle.debug_commands.specs.Debug.{debug_input, debug_program}
use Rattle.debug_commands.specs.Answered.{EndsAnswered}
use Rattle.debug_commands.specs.Gsteps.{EndsCounts, EndsSteps}
use Rattle.debug_commands.specs.Listed.{EndsListed}
use Rattle.debug_commands.proofs.Ends.{no_usage, by_answered, by_steps, by_instructions}
use Rattle.debug_commands.proofs.CountEnds.{by_counts}
use Rattle.debug_commands.proofs.Shelved.{at, run_at, over_input, by_listed}
use Rattle.debug_commands.proofs.running.run_debug_command.Goals as goal

pub returns-in-Err-clause-ends : goal.returns-in-Err-clause-ends
returns-in-Err-clause-ends g c =
    let source = g.S.Source.state in
    let shelf = g.F.Shelf.shelf c.args.shelf.now in
    let out = g.O.Sink.state in
    let err = g.E.Sink.state in
    let new = c.finish.new in
    let o : Outputs = record { out = out c.args.out.now; out' = out new.out; err = err c.args.err.now; err' = err new.err } in
    over_input shelf (source c.args.input.now) (source c.read_all.new.source) c.args.command o c.finish.result
    (by_unread debug_input no_usage c.args.command (source c.args.input.now) (source c.read_all.new.source) o c.in-Err.error c.finish.result
    refl c.in-Err.ensures.err
    (subst (λ answer. Ends o answer c.finish.result) c.into.ensures c.finish.ensures))

pub returns-in-Glist-clause-ends : goal.returns-in-Glist-clause-ends
returns-in-Glist-clause-ends g c =
    let shelf = g.F.Shelf.shelf c.args.shelf.now in
    let out = g.O.Sink.state in
    let err = g.E.Sink.state in
    let new = c.glist.new in
    let o : Outputs = record { out = out c.args.out.now; out' = out new.out; err = err c.args.err.now; err' = err new.err } in
    let before = g.S.Source.state c.args.input.now in
    let after = g.S.Source.state c.read_all.new.source in
    let bytes = c.in-Ok.bytes.items in
    let ends = rw c.as_slice-input.ensures.value at c.glist.ensures in
    subst (λ (command : DebugCommand). EndsBy debug_program (run_at command (at before shelf) (at after shelf) o) c.glist.result) (sym c.in-Glist.is)
    (over_input shelf before after Glist o c.glist.result
    (by_answered Glist before after o bytes c.in-Ok.ensures.ok (λ report. report ≡ listing_report (listing_of bytes)) (λ report is. is) c.glist.result ends))

pub returns-in-List-clause-ends : goal.returns-in-List-clause-ends
returns-in-List-clause-ends g c =
    let shelf = g.F.Shelf.shelf c.args.shelf.now in
    let shelf' = g.F.Shelf.shelf c.list.new.shelf in
    let out = g.O.Sink.state in
    let err = g.E.Sink.state in
    let new = c.list.new in
    let o : Outputs = record { out = out c.args.out.now; out' = out new.out; err = err c.args.err.now; err' = err new.err } in
    let before = g.S.Source.state c.args.input.now in
    let after = g.S.Source.state c.read_all.new.source in
    let ends = subst (λ (bytes : List ℕ). EndsListed shelf shelf' bytes o c.list.result) c.as_slice-input.ensures.value c.list.ensures.ends in
    subst (λ (command : DebugCommand). EndsBy debug_program (run_at command (at before shelf) (at after shelf') o) c.list.result) (sym c.in-List.is)
    (by_listed before after c.in-Ok.bytes.items c.in-Ok.ensures.ok shelf shelf' o c.list.result ends)

pub returns-in-Grun-clause-ends : goal.returns-in-Grun-clause-ends
returns-in-Grun-clause-ends g c =
    let shelf = g.F.Shelf.shelf c.args.shelf.now in
    let out = g.O.Sink.state in
    let err = g.E.Sink.state in
    let new = c.grun.new in
    let o : Outputs = record { out = out c.args.out.now; out' = out new.out; err = err c.args.err.now; err' = err new.err } in
    let before = g.S.Source.state c.args.input.now in
    let after = g.S.Source.state c.read_all.new.source in
    let bytes = c.in-Ok.bytes.items in
    let limit = c.in-Grun.limit in
    let ends = subst (λ (b : List ℕ). EndsAnswered (AcceptedReport (Run limit) b) o c.grun.result) c.as_slice-input.ensures.value c.grun.ensures in
    subst (λ (command : DebugCommand). EndsBy debug_program (run_at command (at before shelf) (at after shelf) o) c.grun.result) (sym c.in-Grun.is)
    (over_input shelf before after (Grun limit) o c.grun.result
    (by_answered (Grun limit) before after o bytes c.in-Ok.ensures.ok (AcceptedReport (Run limit) bytes) (λ report on. on) c.grun.result ends))

pub returns-in-Gsteps-clause-ends : goal.returns-in-Gsteps-clause-ends
returns-in-Gsteps-clause-ends g c =
    let shelf = g.F.Shelf.shelf c.args.shelf.now in
    let out = g.O.Sink.state in
    let err = g.E.Sink.state in
    let new = c.gsteps.new in
    let o : Outputs = record { out = out c.args.out.now; out' = out new.out; err = err c.args.err.now; err' = err new.err } in
    let before = g.S.Source.state c.args.input.now in
    let after = g.S.Source.state c.read_all.new.source in
    let steps = subst (λ (bytes : List ℕ). EndsSteps c.in-Gsteps.limit bytes o c.gsteps.result) c.as_slice-input.ensures.value c.gsteps.ensures in
    subst (λ (command : DebugCommand). EndsBy debug_program (run_at command (at before shelf) (at after shelf) o) c.gsteps.result) (sym c.in-Gsteps.is)
    (over_input shelf before after (Gsteps c.in-Gsteps.limit) o c.gsteps.result
    (by_steps c.in-Gsteps.limit before after o c.in-Ok.bytes.items c.in-Ok.ensures.ok c.gsteps.result steps))

pub returns-in-Gcounts-clause-ends : goal.returns-in-Gcounts-clause-ends
returns-in-Gcounts-clause-ends g c =
    let shelf = g.F.Shelf.shelf c.args.shelf.now in
    let out = g.O.Sink.state in
    let err = g.E.Sink.state in
    let new = c.gcounts.new in
    let o : Outputs = record { out = out c.args.out.now; out' = out new.out; err = err c.args.err.now; err' = err new.err } in
    let before = g.S.Source.state c.args.input.now in
    let after = g.S.Source.state c.read_all.new.source in
    let steps = subst (λ (bytes : List ℕ). EndsCounts c.in-Gcounts.limit bytes o c.gcounts.result) c.as_slice-input.ensures.value c.gcounts.ensures in
    subst (λ (command : DebugCommand). EndsBy debug_program (run_at command (at before shelf) (at after shelf) o) c.gcounts.result) (sym c.in-Gcounts.is)
    (over_input shelf before after (Gcounts c.in-Gcounts.limit) o c.gcounts.result
    (by_counts c.in-Gcounts.limit before after o c.in-Ok.bytes.items c.in-Ok.ensures.ok c.gcounts.result steps))

pub returns-clause-ends : goal.returns-clause-ends
returns-clause-ends g c =
    let shelf = g.F.Shelf.shelf c.args.shelf.now in
    let out = g.O.Sink.state in
    let err = g.E.Sink.state in
    let new = c.steps.new in
    let o : Outputs = record { out = out c.args.out.now; out' = out new.out; err = err c.args.err.now; err' = err new.err } in
    let before = g.S.Source.state c.args.input.now in
    let after = g.S.Source.state c.read_all.new.source in
    let ends = subst (λ (bytes : List ℕ). EndsInstructions c.in-Steps.limit bytes o c.steps.result) c.as_slice-input.ensures.value c.steps.ensures in
    subst (λ (command : DebugCommand). EndsBy debug_program (run_at command (at before shelf) (at after shelf) o) c.steps.result) (sym c.in-Steps.is)
    (over_input shelf before after (Steps c.in-Steps.limit) o c.steps.result
    (by_instructions c.in-Steps.limit before after o c.in-Ok.bytes.items c.in-Ok.ensures.ok c.steps.result ends))
