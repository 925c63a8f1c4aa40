use Rattle.std.proofs.Common.{◌<◌, sym, ap, ◌∙◌, arith, length, get_or, ℕ, ◌+◌, ◌≡◌, Some}
use Rattle.std.specs.List.{slice_get}
use Rattle.std.proofs.lemmas.Option.{slice_get-get_or}
use Rattle.link_defs.specs.LinkedMemory.{is_loadable}
use Rattle.link_loader.proofs.Pairs.{pairs_have}
use Rattle.link_loader.proofs.Shown.{len_is, entries_are}
use Rattle.link_loader.proofs.linked.Linked.pair.Goals as goal

pub index-requires : goal.index-requires
index-requires c = let s = c.args.self.now in omega (arith, c.requires, len_is s.pairs.items s.words.cells.items s.listed, s.pairs.ok)

pub returns-clause-pair : goal.returns-clause-pair
returns-clause-pair c =
    let s = c.args.self.now in
    let lt : c.args.index < length s.pairs.items = omega (arith, c.requires, len_is s.pairs.items s.words.cells.items s.listed) in
    ap (λ es. slice_get es c.args.index) (entries_are s.pairs.items s.words.cells.items s.listed) ∙ (slice_get-get_or s.pairs.items c.args.index c.index.result.now lt ∙ ap Some (sym c.index.ensures))

pub returns-clause-loadable : goal.returns-clause-loadable
returns-clause-loadable c =
    let s = c.args.self.now in
    let lt : c.args.index < length s.pairs.items = omega (arith, c.requires, len_is s.pairs.items s.words.cells.items s.listed) in
    let listed = ap (λ es. length es) s.listed in
    let there = pairs_have 0 c.args.index s.words.cells.items c.index.result.now (omega (arith, lt, listed)) in
    let is : c.index.result.now.0 ≡ 0 + there.0 = ap (λ (x : ℕ × ℕ). x.0) c.index.ensures ∙ (ap (λ es. (get_or es c.args.index c.index.result.now).0) s.listed ∙ there.1) in
    let same : 0 + there.0 ≡ there.0 = omega arith in
    ap is_loadable (is ∙ same) ∙ s.loadable there.0 there.2
