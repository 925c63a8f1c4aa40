use Rattle.std.proofs.Common.{[], Ok, sym, ◌∙◌}
use Rattle.gpl_lines.specs.Defined.{model_of_outcome}
use Rattle.gpl_list.proofs.PlacedLines.{fits, placed_there, refused_there, bytes_there, comes_to}
use Rattle.gpl_list.proofs.second_pass.assemble_row.Goals as goal

pub put-requires : goal.put-requires
put-requires c =
    let known = c.args.names.now in
    let at = c.args.at in
    let found = model_of_outcome c.in_ok-outcome.outcome in
    let is = c.requires in
    fits known at is.0 [] found (comes_to known at c.args.text.now is.0 (Ok found) is.1 c.in_ok-outcome.ensures) is.2

pub returns-in-Ok : goal.returns-in-Ok
returns-in-Ok c = λ statement earlier parsed same.
    let known = c.args.names.now in
    let at = c.args.at in
    let found = model_of_outcome c.in_ok-outcome.outcome in
    let came = comes_to known at c.args.text.now statement (Ok found) parsed c.in_ok-outcome.ensures in
    let b = placed_there known at statement earlier found came c.args.image.now c.put.new.image c.in-Ok.field-0 same c.in-Ok.ensures in
    (b.0, b.1, b.2, c.bytes_of.ensures ∙ sym (bytes_there known at statement earlier found came))

pub returns-in-Err : goal.returns-in-Err
returns-in-Err c = λ statement earlier parsed same.
    let known = c.args.names.now in
    let at = c.args.at in
    let found = model_of_outcome c.in_ok-outcome.outcome in
    let came = comes_to known at c.args.text.now statement (Ok found) parsed c.in_ok-outcome.ensures in
    let e = c.in-Err.ensures in
    (refused_there known at statement earlier found came c.args.image.now c.in-Err.cause same e.0, e.1)
