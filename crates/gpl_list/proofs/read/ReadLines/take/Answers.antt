use Rattle.std.proofs.Common.{◌≡◌, ℕ, List, ◌∷◌, ◌++◌, map, sym, ap, subst, ◌∙◌}
use Rattle.gpl_asm.specs.Building.{IsAfter}
use Rattle.gpl_list.specs.declared.rows.Row.{Row}
use Rattle.gpl_list.specs.declared.rows.NameRow.{NameRow}
use Rattle.gpl_list.specs.Reading.{model_of_address, model_of_name, named, OneMore}
use Rattle.gpl_list.proofs.ReadLaws.{keeps_more}
use Rattle.gpl_list.proofs.read.ReadLines.take.Goals as goal

pub returns : goal.returns
returns c = λ texts lines keeps is there.
    let t = c.in_ok-at.ensures.lines lines keeps.after_lines in
    let known = c.in_ok-at.field-0 in
    let old = c.args.self.now in
    let new = c.keep_name.new.self in
    let number = c.args.number in
    let text = c.args.text.now in
    let row = c.in_ok-keep_row.ensures in
    let name = c.in_ok-keep_name.ensures in
    let more : OneMore number known.at (model_of_address known) text old.rows.items new.rows.items =
    subst (λ (rows : List Row). OneMore number known.at (model_of_address known) text old.rows.items rows) (sym name.rows)
    (subst (λ (address : ℕ). OneMore number known.at address text old.rows.items c.keep_row.new.self.rows.items) c.address_of.ensures row.rows) in
    let names : map model_of_name new.names.items ≡ map model_of_name old.names.items ++ named known.label known.value number =
    name.names ∙ ap (λ (names : List NameRow). map model_of_name names ++ named known.label known.value number) row.names in
    let after_lines = subst (IsAfter (t.0 ∷ lines)) (sym (name.builder ∙ row.builder)) t.2 in
    (t.0, t.1, keeps_more texts lines text known number is there t.0 old new t.1 after_lines t.3 more names keeps)
