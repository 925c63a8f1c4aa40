use Rattle.std.proofs.Common.{◌≡◌, ◌⊎◌, ℕ, List, ◌++◌, Some, refl, sym, subst, inl, inr}
use Rattle.std.specs.Io.Buffered.{writer_buffer}
use Rattle.bench_io.specs.Stream.{SourceState}
use Rattle.debug_report_defs.specs.Words.{debug_command}
use Rattle.report_defs.specs.declared.status.Status.{Status}
use Rattle.report_defs.specs.declared.status.Status.TheVariants.{Done, Refused, Stopped}
use Rattle.reports.specs.Streams.{EndsThrough, IsWhole}
use Rattle.reports.proofs.Streams.{parsed_ending, vectors_hold_the_report}
use Rattle.file_commands.specs.Inputs.{Inputs}
use Rattle.debug_commands.specs.Debug.{debug_program}
use Rattle.debug_tests.proofs.streams.over_bytes.Goals as goal

is_whole : (end : Status) → (end ≡ Done) ⊎ ((end ≡ Refused) ⊎ (end ≡ Stopped)) → IsWhole end
is_whole end (inl is) = subst IsWhole (sym is) tt
is_whole end (inr (inl is)) = subst IsWhole (sym is) tt
is_whole end (inr (inr is)) = subst IsWhole (sym is) tt

pub returns-in-Done : goal.returns-in-Done
returns-in-Done g c =
    let enter : SourceState → Inputs = λ s. record { input = s; shelf = g.F.Shelf.shelf c.args.shelf.now } in
    let leave : SourceState → Inputs = λ s. record { input = s; shelf = g.F.Shelf.shelf c.debug_through-status.new.shelf }
    in
    let Ends : List ℕ → Type 0 = λ bytes. EndsThrough
    (parsed_ending debug_program (debug_command c.args.words.now) enter leave)
    (record {
      left = Some c.args.bytes.now;
      out = Some (c.in-Ok.output.inner.items ++ writer_buffer c.in-Ok.output);
      err = Some bytes;
    }) c.debug_through-status.result.1 c.debug_through-status.result.2 c.debug_through-status.result.3
    c.debug_through-status.result.0 in
    vectors_hold_the_report debug_program c.debug_through-status.ensures.laws.runs.streams enter leave _ _ _ _ _ _ _ _ _
    (rw (c.in-Ok.ensures.inner, c.in-Ok.ensures.empty, c.new.ensures.items) refl) (is_whole _ c.in-Done.is)
    (subst Ends c.new-3.ensures.items c.debug_through-status.ensures.ends) c.into_inner.ensures
    c.into_inner-in-Done.ensures
