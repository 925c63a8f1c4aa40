use Rattle.std.proofs.Common.{◌≡◌, ◌<◌, ◌∙◌, sym, ap, arith, length, take, None}
use Rattle.std.specs.Prelude.{is_some}
use Rattle.link_defs.specs.LinkedMemory.{is_defined_again, value_in}
use Rattle.link_loader.proofs.First.{passes}
use Rattle.link_loader.proofs.Words.{none_found}
use Rattle.link_loader.proofs.KeptNames.{name_kept}
use Rattle.link_loader.proofs.names.define.Goals as goal

pub loop-def-preserved : goal.loop-def-preserved
loop-def-preserved c =
    let defs = c.args.defs.now in
    let i = c.loop-def.def-index in
    let kept = c.loop-def.invariant in
    let lt : i < length defs = omega arith in
    let definition = c.def-item.result in
    let is = c.def-item.is in
    let none : value_in (take i defs) definition.0 ≡ None =
    none_found _ (ap is_some (sym (kept.kept definition.0)) ∙ (ap is_some (sym c.in_ok-insert.ensures.old) ∙ (sym c.is_some.ensures ∙ c.if-is_some.false))) in
    record {
      apart = kept.apart ∙ passes is_defined_again defs i definition lt (ap (λ name. is_some (value_in (take i defs) name)) (sym (ap (λ x. x.0) is)) ∙ ap is_some none);
      kept = name_kept c.loop-def.names c.insert.new.self defs i definition definition lt is kept.kept none c.in_ok-insert.ensures.updates;
    }
