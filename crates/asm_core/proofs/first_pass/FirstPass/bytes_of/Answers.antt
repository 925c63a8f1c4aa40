use Rattle.std.proofs.Common.{List, Ok, Err, ap, ◌∙◌}
use Rattle.std.specs.Prelude.{Result, map, OnOk, IfOk}
use Rattle.object_tags.specs.Seen.{model_of_ref}
use Rattle.object_tags.specs.declared.parts.Ref.{Ref}
use Rattle.asm_defs.specs.Memory.{contents_by}
use Rattle.asm_checks.specs.Outcomes.{model_of_outcome}
use Rattle.asm_core.proofs.AssembleLaws.{gives}
use Rattle.asm_core.proofs.first_pass.FirstPass.bytes_of.Goals as goal

if_ok : {A E : Type 0} {P Q : A → Type 0} (result : Result A E) → OnOk result (IfOk result P) → ((value : A) → P value → Q value) → IfOk result Q
if_ok (Ok value) holds each = each value holds
if_ok (Err error) holds each = tt

pub returns : goal.returns
returns c =
    if_ok c.contents.result c.contents.ensures.contents
    (λ given is.
    gives c.args.self.now.at (model_of_outcome c.args.outcome.now) given.items c.requires
    (is ∙ ap (λ (references : List Ref). contents_by c.args.self.now.at (map model_of_ref references) (model_of_outcome c.args.outcome.now))
    c.new-unused.ensures.items))
