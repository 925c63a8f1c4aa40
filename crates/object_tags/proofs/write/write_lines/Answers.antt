use Rattle.std.proofs.Common.{◌≡◌, ℕ, List, [], ◌∷◌, map, IfOk, ◌∙◌, subst}
use Rattle.object_defs.specs.Writing.{Group, Placed, header_text, definition_text, reference_text, entry_items, items_of, written_lines}
use Rattle.object_tags.specs.declared.parts.Def.{Def}
use Rattle.object_tags.specs.declared.parts.Ref.{Ref}
use Rattle.object_tags.specs.Seen.{model_of_def, model_of_ref, model_of_module}
use Rattle.object_tags.specs.Lines.{line_bytes, whole, Wrote}
use Rattle.std.specs.List.{AllByRecursion, concat}
use Rattle.std.proofs.Common.{Ok}
use Rattle.object_defs.specs.Reading.{read}
use Rattle.object_defs.specs.Laws.{FitsPiece, FitsDefinition, FitsReference, IsModule}
use Rattle.object_laws.proofs.Written.{written_modules_are_read}
use Rattle.object_tags.proofs.Composed.{composed, in_two_steps, begins, all_defined, if_ok}
use Rattle.object_tags.proofs.write.write_lines.Goals as goal

pub returns-clause-lines : goal.returns-clause-lines
returns-clause-lines c =
    let m = c.args.module.now in
    let w0 = c.new-writer.result in
    let w1 = c.put_group.new.self in
    let w2 = c.put_pieces.new.writer in
    let w3 = c.put_defs.new.writer in
    let w4 = c.put_refs.new.writer in
    let w5 = c.put_entry.new.writer in
    let header : Wrote (Group (header_text m.size m.name) ∷ []) w0 w1 = rw c.header_text.ensures.text at (c.in_ok-put_group.ensures {u = tt}) in
    let pieces : Wrote (map Placed m.pieces) w1 w2 = rw c.as_slice.ensures at c.in_ok-put_pieces.ensures.wrote in
    let defs : Wrote (map (λ (def : Def). Group (definition_text (model_of_def def))) m.defs) w2 w3 =
    rw c.as_slice-2.ensures at c.in_ok-put_defs.ensures.wrote in
    let refs : Wrote (map (λ (ref : Ref). Group (reference_text (model_of_ref ref))) m.refs) w3 w4 = rw c.as_slice-3.ensures at c.in_ok-put_refs.ensures.wrote in
    let entry : Wrote (entry_items m.entry) w4 w5 = c.in_ok-put_entry.ensures.wrote in
    let model_of_defs : Wrote (map (λ definition. Group (definition_text definition)) (map model_of_def m.defs)) w2 w3 =
    in_two_steps (λ definition. Group (definition_text definition)) model_of_def m.defs w2 w3 defs in
    let model_of_refs : Wrote (map (λ reference. Group (reference_text reference)) (map model_of_ref m.refs)) w3 w4 =
    in_two_steps (λ reference. Group (reference_text reference)) model_of_ref m.refs w3 w4 refs in
    let all : whole w5 [] ≡ whole w0 (items_of (model_of_module m)) =
    composed w0 w1 w2 w3 w4 w5 (Group (header_text m.size m.name) ∷ []) (map Placed m.pieces)
    (map (λ definition. Group (definition_text definition)) (map model_of_def m.defs))
    (map (λ reference. Group (reference_text reference)) (map model_of_ref m.refs)) (entry_items m.entry) header pieces model_of_defs model_of_refs entry in
    let lines : whole w5 [] ≡ written_lines (model_of_module m) = all ∙ begins w0 (items_of (model_of_module m)) c.new-writer.ensures.lines c.new-writer.ensures.line
    c.new-writer.ensures.number in
    subst (λ (lines : List (List ℕ)). IfOk c.finish.result (λ found. line_bytes found.items ≡ lines)) lines c.finish.ensures

pub returns-clause-read_again : goal.returns-clause-read_again
returns-clause-read_again c =
    let m = c.args.module.now in
    let pieces : AllByRecursion FitsPiece m.pieces = rw c.as_slice.ensures at c.in_ok-put_pieces.ensures.fits in
    let defs : AllByRecursion (λ (def : Def). FitsDefinition (model_of_def def)) m.defs = rw c.as_slice-2.ensures at c.in_ok-put_defs.ensures.fits in
    let refs : AllByRecursion (λ (ref : Ref). FitsReference (model_of_ref ref)) m.refs = rw c.as_slice-3.ensures at c.in_ok-put_refs.ensures.fits in
    let is : IsModule (model_of_module m) = record {
      name = c.header_text.ensures.name;
      size = c.header_text.ensures.size;
      pieces = pieces;
      defs = all_defined FitsDefinition model_of_def m.defs defs;
      refs = all_defined FitsReference model_of_ref m.refs refs;
      entry = c.in_ok-put_entry.ensures.fits;
    } in
    if_ok c.finish.result (λ found. line_bytes found.items) (written_lines (model_of_module m)) (λ lines. read (concat lines) ≡ Ok (model_of_module m ∷ []))
    (written_modules_are_read (model_of_module m) is c.requires) (returns-clause-lines c)
