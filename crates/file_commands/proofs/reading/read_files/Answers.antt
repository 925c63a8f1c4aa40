use Rattle.std.proofs.Common.{◌≡◌, ℕ, ◌+◌, List, [], ◌∷◌, ◌++◌, take, drop, refl, sym, ap, ◌∙◌, arith}
use Rattle.std.proofs.lemmas.List.{take_all, take_more}
use Rattle.bench_shelf.proofs.LoopLaws.{later_then}
use Rattle.file_commands.specs.Reading.{model_of_texts}
use Rattle.file_commands.proofs.ReadingLaws.{names_in, names_more, next_name, memory_ran_out, read_more, reads_kept, reads_stopped, reads_all, causes_since}
use Rattle.file_commands.proofs.reading.read_files.Goals as goal

pub loop-name-preserved : goal.loop-name-preserved
loop-name-preserved g c =
    let names = c.args.names.now in
    let i = c.loop-name.name-index in
    let name = c.name-item.result in
    let next : take (i + 1) names ≡ take i names ++ name ∷ [] =
    take_more names i name (omega arith) ∙ ap (λ (x : List ℕ). take i names ++ x ∷ []) (sym c.name-item.is) in
    let items = c.in_ok-push-in-Ok.ensures.items in
    record {
      read = read_more c.loop-name.texts.items _ _ _ c.loop-name.invariant.read _ _ items c.in-Ok.ensures.given;
      names = ap names_in items ∙ (names_more c.loop-name.texts.items _ ∙ (ap (λ front. front ++ name ∷ []) c.loop-name.invariant.names ∙ sym next));
      within = omega (arith, c.loop-name.invariant.within, c.in-Ok.ensures.within);
      later = later_then _ _ _ c.loop-name.invariant.later c.read_named.ensures.later;
    }

pub returns-in-Err-clause-reads : goal.returns-in-Err-clause-reads
returns-in-Err-clause-reads g c =
    let names = c.args.names.now in
    let i = c.loop-name.name-index in
    let name = c.name-item.result in
    reads_stopped c.loop-name.texts.items _ _ _ c.loop-name.invariant.read names name (drop (i + 1) names)
    (next_name names (names_in c.loop-name.texts.items) i name (omega arith) c.name-item.is c.loop-name.invariant.names)
    (λ texts. model_of_texts texts.items) c.in-Err.error c.in-Err.ensures.missed c.in-Err.ensures.refused

pub returns-in-Err-clause-causes : goal.returns-in-Err-clause-causes
returns-in-Err-clause-causes g c =
    causes_since _ _ _ c.loop-name.invariant.later c.loop-name.invariant.within c.in-Err.error c.in-Err.ensures.causes

pub returns-in_err-push-in-Ok-clause-reads : goal.returns-in_err-push-in-Ok-clause-reads
returns-in_err-push-in-Ok-clause-reads g c =
    let names = c.args.names.now in
    let i = c.loop-name.name-index in
    let name = c.name-item.result in
    let bytes = c.in-Ok.bytes.items in
    memory_ran_out _ _ names (λ texts. model_of_texts texts.items) c.from_residual.result c.from_residual.ensures.1
    (reads_kept c.loop-name.texts.items _ _ _ c.loop-name.invariant.read names name (drop (i + 1) names)
    (next_name names (names_in c.loop-name.texts.items) i name (omega arith) c.name-item.is c.loop-name.invariant.names)
    (λ texts. model_of_texts texts.items) bytes c.in-Ok.ensures.given)

pub returns-clause-reads : goal.returns-clause-reads
returns-clause-reads g c =
    let names = c.args.names.now in
    let i = c.loop-name.name-index in
    reads_all c.loop-name.texts.items _ _ c.loop-name.invariant.read (λ texts. model_of_texts texts.items) c.loop-name.texts names refl
    (c.loop-name.invariant.names ∙ take_all i names c.loop-name-test.false)
