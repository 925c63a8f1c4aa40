use Rattle.std.proofs.Common.{ℕ, Vec, Global, List, [], sym, subst, ◌∙◌}
use Rattle.gpl_list.specs.declared.rows.Row.{Row}
use Rattle.gpl_list.specs.Reading.{onto}
use Rattle.gpl_list.proofs.SecondPassLaws.{Going, next_fits, none_left, going_more, going_refused, going_end}
use Rattle.gpl_list.proofs.second_pass.assemble_rows.Goals as goal

pub assemble_row-requires : goal.assemble_row-requires
assemble_row-requires c =
    let known = c.args.names.now in
    let given = c.requires.described in
    let lines = onto given.1 [] in
    let row = c.in-Some.row in
    let next = c.next.new.self.rest.items in
    let going = subst (λ (left : List Row). Going given.0 known lines left c.loop-row.image c.loop-row.assembled_lines.items) c.in-Some.ensures.steps.0
    (c.loop-row.invariant given.0 given.1 given.2) in
    rw c.as_slice.ensures.value (next_fits given.0 known lines row next c.loop-row.image c.loop-row.assembled_lines.items going)

pub loop-row-preserved : goal.loop-row-preserved
loop-row-preserved c = λ texts rest describes.
    let known = c.args.names.now in
    let lines = onto rest [] in
    let row = c.in-Some.row in
    let next = c.next.new.self.rest.items in
    let going = subst (λ (left : List Row). Going texts known lines left c.loop-row.image c.loop-row.assembled_lines.items) c.in-Some.ensures.steps.0
    (c.loop-row.invariant texts rest describes) in
    let asked = rw c.as_slice.ensures.value at c.in-Ok.ensures in
    going_more texts known (λ bytes. bytes.items) lines row next c.loop-row.image c.assemble_row.new.image c.loop-row.assembled_lines.items c.in-Ok.bytes
    c.with_bytes.result c.push_row.new.rows.items going asked c.with_bytes.ensures c.in_ok-push_row-in-Ok.ensures

pub returns-in-Err : goal.returns-in-Err
returns-in-Err c = λ texts rest describes.
    let known = c.args.names.now in
    let lines = onto rest [] in
    let row = c.in-Some.row in
    let next = c.next.new.self.rest.items in
    let going = subst (λ (left : List Row). Going texts known lines left c.loop-row.image c.loop-row.assembled_lines.items) c.in-Some.ensures.steps.0
    (c.loop-row.invariant texts rest describes) in
    let asked = rw c.as_slice.ensures.value at c.in-Err.ensures in
    rw c.refusal_at.ensures
    (going_refused texts known {A = Vec ℕ Global} (λ bytes. bytes.items) lines row next c.loop-row.image c.assemble_row.new.image
    c.loop-row.assembled_lines.items (Unit {0}) c.in-Err.failure going asked)

pub returns : goal.returns
returns c = λ texts rest describes.
    let known = c.args.names.now in
    let lines = onto rest [] in
    let none = none_left c.loop-row.row-iterator.rest.items (sym c.loop-row.row-iterator.rest.ok.0 ∙ c.in-None.ensures.steps.0) in
    let going = subst (λ (left : List Row). Going texts known lines left c.loop-row.image c.loop-row.assembled_lines.items) none
    (c.loop-row.invariant texts rest describes) in
    going_end texts known (tt {0}) lines c.loop-row.image c.loop-row.assembled_lines.items going
