use Rattle.std.proofs.Common.{◌≡◌, List, ℕ, [], ◌++◌, map, append-nil, sym, subst}
use Rattle.native_interp.specs.declared.source.routines.TheConstants.{ROUTINE_LINES}
use Rattle.native_interp.specs.declared.source.operations.TheConstants.{OPERATION_LINES}
use Rattle.native_interp.specs.declared.source.flow.TheConstants.{FLOW_LINES}
use Rattle.native_interp.specs.declared.source.copy.TheConstants.{COPY_LINES}
use Rattle.asm_core.specs.declared.lines.AsmLines.{AsmLines}
use Rattle.gpl_run.specs.Feeding.{HasLeft}
use Rattle.gpl_run.proofs.assembling.take_source.Goals as goal

-- the parts of the source after the first, the second, the third and the fourth
abbrev after_fourth : List (List ℕ)
after_fourth = map (λ line. line.now) COPY_LINES

abbrev after_third : List (List ℕ)
after_third = map (λ line. line.now) FLOW_LINES ++ after_fourth

abbrev after_second : List (List ℕ)
after_second = map (λ line. line.now) OPERATION_LINES ++ after_third

abbrev after_first : List (List ℕ)
after_first = map (λ line. line.now) ROUTINE_LINES ++ after_second

-- the lines that a call gives are the part that is next
is_next : {part found : List (List ℕ)} (rest : List (List ℕ)) {builder : AsmLines} → found ≡ part
    → HasLeft (part ++ rest) builder → HasLeft (found ++ rest) builder
is_next rest {builder} is has = subst (λ part. HasLeft (part ++ rest) builder) (sym is) has

last_is_next : {found : List (List ℕ)} {builder : AsmLines} → found ≡ after_fourth → HasLeft after_fourth builder
    → HasLeft (found ++ []) builder
last_is_next {found} {builder} is has =
    subst (λ left. HasLeft left builder) (sym (append-nil found)) (subst (λ part. HasLeft part builder) (sym is) has)

pub take_lines-requires : goal.take_lines-requires
take_lines-requires c = (after_first, is_next after_first c.table_lines.ensures c.requires)

pub take_lines-requires-2 : goal.take_lines-requires-2
take_lines-requires-2 c =
    let first = c.in_ok-take_lines.ensures {u = tt} after_first (is_next after_first c.table_lines.ensures c.requires) in
    (after_second, is_next after_second c.routine_lines.ensures first)

pub take_lines-requires-3 : goal.take_lines-requires-3
take_lines-requires-3 c =
    let first = c.in_ok-take_lines.ensures {u = tt} after_first (is_next after_first c.table_lines.ensures c.requires) in
    let second = c.in_ok-take_lines-2.ensures {u = tt} after_second (is_next after_second c.routine_lines.ensures first) in
    (after_third, is_next after_third c.operation_lines.ensures second)

pub take_lines-requires-4 : goal.take_lines-requires-4
take_lines-requires-4 c =
    let first = c.in_ok-take_lines.ensures {u = tt} after_first (is_next after_first c.table_lines.ensures c.requires) in
    let second = c.in_ok-take_lines-2.ensures {u = tt} after_second (is_next after_second c.routine_lines.ensures first) in
    let third = c.in_ok-take_lines-3.ensures {u = tt} after_third (is_next after_third c.operation_lines.ensures second) in
    (after_fourth, is_next after_fourth c.flow_lines.ensures third)

pub take_lines-requires-5 : goal.take_lines-requires-5
take_lines-requires-5 c =
    let first = c.in_ok-take_lines.ensures {u = tt} after_first (is_next after_first c.table_lines.ensures c.requires) in
    let second = c.in_ok-take_lines-2.ensures {u = tt} after_second (is_next after_second c.routine_lines.ensures first) in
    let third = c.in_ok-take_lines-3.ensures {u = tt} after_third (is_next after_third c.operation_lines.ensures second) in
    let fourth = c.in_ok-take_lines-4.ensures {u = tt} after_fourth (is_next after_fourth c.flow_lines.ensures third) in
    ([], last_is_next c.copy_lines.ensures fourth)

pub returns : goal.returns
returns c =
    let first = c.in_ok-take_lines.ensures {u = tt} after_first (is_next after_first c.table_lines.ensures c.requires) in
    let second = c.in_ok-take_lines-2.ensures {u = tt} after_second (is_next after_second c.routine_lines.ensures first) in
    let third = c.in_ok-take_lines-3.ensures {u = tt} after_third (is_next after_third c.operation_lines.ensures second) in
    let fourth = c.in_ok-take_lines-4.ensures {u = tt} after_fourth (is_next after_fourth c.flow_lines.ensures third) in
    c.take_lines-5.ensures [] (last_is_next c.copy_lines.ensures fourth)
