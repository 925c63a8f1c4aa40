use Rattle.std.proofs.Common.{inl, inr}
use Rattle.std.proofs.lemmas.Result.{err_from_is_err_and}
use Rattle.bench_io.proofs.Writes.{wrote_more, missed_more}
use Rattle.debug_commands.proofs.shown.write_run.Goals as goal

pub returns-in_err-ending : goal.returns-in_err-ending
returns-in_err-ending g c =
    let p = err_from_is_err_and c.from_residual.result c.from_residual.ensures.1 in
    rw p.1 (inl c.in_err-ending.ensures.shows)

pub returns-in_err-put_left : goal.returns-in_err-put_left
returns-in_err-put_left g c =
    let w = c.in_ok-ending.ensures.shows in
    let p = err_from_is_err_and c.from_residual-in_err-put_left.result c.from_residual-in_err-put_left.ensures.1 in
    rw p.1 (inr (record { made = w.made; ending = c.in_ok-ending.ending; run = w.run; missed = missed_more _ _ _ _ _ w.wrote c.in_err-put_left.ensures }))

pub returns : goal.returns
returns g c =
    let w = c.in_ok-ending.ensures.shows in
    record { made = w.made; run = w.run; wrote = wrote_more _ _ _ _ _ w.wrote c.in_ok-put_left.ensures }
