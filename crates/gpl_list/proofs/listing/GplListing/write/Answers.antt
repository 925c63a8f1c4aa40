use Rattle.std.proofs.Common.{◌∷◌, [], map, sym}
use Rattle.std.specs.List.{flat_map}
use Rattle.std.proofs.lemmas.List.Concat.{flat_map_single}
use Rattle.std.proofs.lemmas.List.Folds.{flat_map-map}
use Rattle.std.proofs.lemmas.Result.{err_from_is_err_and}
use Rattle.bench_io.proofs.Writes.{written_more, missed_early}
use Rattle.gpl_list_defs.specs.Text.{row_lines, name_line}
use Rattle.gpl_list.specs.Reading.{model_of_row, model_of_name}
use Rattle.gpl_list.proofs.listing.GplListing.write.Goals as goal

pub returns-in_err-put_items : goal.returns-in_err-put_items
returns-in_err-put_items g c =
    let listing = c.args.self.now in
    let p = err_from_is_err_and c.from_residual.result c.from_residual.ensures.1 in
    let missed = rw (c.as_slice.ensures.value, sym (flat_map-map row_lines model_of_row listing.rows.items)) at c.in_err-put_items.ensures in
    rw p.1 (missed_early _ _ (flat_map row_lines (map model_of_row listing.rows.items)) (map name_line (map model_of_name listing.names.items)) missed)

pub returns : goal.returns
returns g c =
    let listing = c.args.self.now in
    let rows = rw (c.as_slice.ensures.value, sym (flat_map-map row_lines model_of_row listing.rows.items)) at c.in_ok-put_items.ensures in
    let single = flat_map-map (λ name. name_line name ∷ []) model_of_name listing.names.items in
    let names = rw (c.as_slice-2.ensures.value, sym single, flat_map_single name_line (map model_of_name listing.names.items)) at c.put_items-2.ensures in
    written_more _ _ _ _ (flat_map row_lines (map model_of_row listing.rows.items)) (map name_line (map model_of_name listing.names.items)) rows names
