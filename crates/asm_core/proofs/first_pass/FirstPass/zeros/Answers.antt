use Rattle.std.proofs.Common.{◌≡◌, ◌+◌, ◌≤◌, ℕ, zero, suc, ◌∷◌, Ok, Err, length, refl, ap, ◌∙◌, arith}
use Rattle.std.specs.Prelude.{Result, IfOk, map, replicate}
use Rattle.std.proofs.lemmas.List.{length-replicate}
use Rattle.asm_defs.specs.declared.content.Content.TheVariants.{Byte}
use Rattle.asm_defs.specs.SecondChecks.{Bytes}
use Rattle.asm_defs.specs.Growing.{declared_size}
use Rattle.asm_checks.specs.Defined.{model_of_statement}
use Rattle.asm_core.proofs.AssembleLaws.{gives}
use Rattle.asm_core.proofs.first_pass.FirstPass.zeros.Goals as goal

zeros_are : (count : ℕ) → replicate count (Byte 0) ≡ map Byte (replicate count 0)
zeros_are zero = refl
zeros_are (suc count) = ap (λ zeros. Byte 0 ∷ zeros) (zeros_are count)

if_ok : {A E : Type 0} {P Q : A → Type 0} (result : Result A E) → IfOk result P → ((value : A) → P value → Q value) → IfOk result Q
if_ok (Ok value) holds each = each value holds
if_ok (Err error) holds each = tt

pub returns : goal.returns
returns c =
    let size = declared_size (model_of_statement c.args.parsed.now.statement) in
    let within : c.args.self.now.at.number + length (replicate {A = ℕ} size 0) ≤ 65536 = omega (arith, length-replicate {A = ℕ} size 0, c.requires.fits) in
    if_ok c.vec.result c.vec.ensures.items_if_clones_equal
    (λ zeros is.
    gives c.args.self.now.at (Bytes (replicate size 0)) zeros.items within (is (λ y e. e)
    ∙ (ap (λ count. replicate count (Byte 0)) c.declared_size.ensures.size ∙ zeros_are size)))
