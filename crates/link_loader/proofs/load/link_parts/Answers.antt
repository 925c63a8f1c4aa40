use Rattle.std.proofs.Common.{◌≡◌, Ok, None, Some, Option, ℕ, refl}
use Rattle.std.proofs.lemmas.Result.{err_from_is_err_and}
use Rattle.link_defs.specs.Causes.{OutOfMemoryRange}
use Rattle.link_defs.specs.First.{first, refused_by}
use Rattle.link_defs.specs.LinkedMemory.{is_outside}
use Rattle.link_loader.proofs.Refusals.{refuses_first}
use Rattle.link_loader.proofs.Inside.{replaced_inside}
use Rattle.link_loader.proofs.Filled.{words_are}
use Rattle.link_loader.proofs.load.link_parts.Goals as goal

pub returns-in_err-uses : goal.returns-in_err-uses
returns-in_err-uses c =
    let x = c.args.parts in
    let names = rw c.as_slice.ensures.value at c.in_ok-names.ensures in
    let inside = rw c.as_slice-2.ensures.value at c.in_ok-check_places.ensures in
    let loaded = rw c.as_slice-3.ensures.value at c.in_ok-words.ensures in
    let p = err_from_is_err_and c.from_residual-in_err-uses.result c.from_residual-in_err-uses.ensures.1 in
    let e = rw c.as_slice-4.ensures.value at (c.in_err-uses.ensures x.defs.items x.words.items names.1 loaded.1) in
    rw (p.1, p.2, names.0, inside, loaded.0) (refuses_first _ _ _ e)

pub returns-in_err-check_names : goal.returns-in_err-check_names
returns-in_err-check_names c =
    let x = c.args.parts in
    let names = rw c.as_slice.ensures.value at c.in_ok-names.ensures in
    let inside = rw c.as_slice-2.ensures.value at c.in_ok-check_places.ensures in
    let loaded = rw c.as_slice-3.ensures.value at c.in_ok-words.ensures in
    let found = rw c.as_slice-4.ensures.value at (c.in_ok-uses.ensures x.defs.items x.words.items names.1 loaded.1) in
    let p = err_from_is_err_and c.from_residual-in_err-check_names.result c.from_residual-in_err-check_names.ensures.1 in
    let e = rw c.as_slice-5.ensures.value at (c.in_err-check_names.ensures x.defs.items names.1) in
    rw (p.1, p.2, names.0, inside, loaded.0, found.1) (refuses_first _ _ _ e)

pub returns-in_err-entry : goal.returns-in_err-entry
returns-in_err-entry c =
    let x = c.args.parts in
    let names = rw c.as_slice.ensures.value at c.in_ok-names.ensures in
    let inside = rw c.as_slice-2.ensures.value at c.in_ok-check_places.ensures in
    let loaded = rw c.as_slice-3.ensures.value at c.in_ok-words.ensures in
    let found = rw c.as_slice-4.ensures.value at (c.in_ok-uses.ensures x.defs.items x.words.items names.1 loaded.1) in
    let known = rw c.as_slice-5.ensures.value at (c.in_ok-check_names.ensures x.defs.items names.1) in
    let p = err_from_is_err_and c.from_residual-in_err-entry.result c.from_residual-in_err-entry.ensures.1 in
    let e = rw c.as_slice-6.ensures.value at c.in_err-entry.ensures in
    rw (p.1, p.2, names.0, inside, loaded.0, found.1, known) (refuses_first _ _ _ e)

pub returns : goal.returns
returns c =
    let x = c.args.parts in
    let names = rw c.as_slice.ensures.value at c.in_ok-names.ensures in
    let inside = rw c.as_slice-2.ensures.value at c.in_ok-check_places.ensures in
    let loaded = rw c.as_slice-3.ensures.value at c.in_ok-words.ensures in
    let found = rw c.as_slice-4.ensures.value at (c.in_ok-uses.ensures x.defs.items x.words.items names.1 loaded.1) in
    let known = rw c.as_slice-5.ensures.value at (c.in_ok-check_names.ensures x.defs.items names.1) in
    let entered = rw c.as_slice-6.ensures.value at c.in_ok-entry.ensures in
    rw (
      names.0,
      inside,
      loaded.0,
      found.1,
      known,
      entered,
      c.in_ok-pairs.ensures,
      words_are x.defs.items found.0 c.in_ok-words.words c.in_ok-uses.uses c.replace.new.self x.words.items loaded.1 found.2 c.replace.ensures,
    ) refl

none_of_ok : (found : Option (ℕ × ℕ)) → refused_by (λ (word : ℕ × ℕ). OutOfMemoryRange word.0) found ≡ Ok None → found ≡ None
none_of_ok (Some word) e = cc
none_of_ok None e = refl

pub invariant_of-result : goal.invariant_of-result
invariant_of-result c =
    let x = c.args.parts in
    let loaded = rw c.as_slice-3.ensures.value at c.in_ok-words.ensures in
    let inside = rw c.as_slice-2.ensures.value at c.in_ok-check_places.ensures in
    record {
      listed = c.in_ok-pairs.ensures;
      loadable = λ at some. replaced_inside x.words.items at _ _ (none_of_ok (first is_outside x.words.items) inside) (loaded.1 at) (rw c.replace.ensures at some);
    }
