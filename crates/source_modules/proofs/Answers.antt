-- What holds of an answer that is made of others.
use Rattle.std.proofs.Common.{Ok, Err, subst}
use Rattle.std.specs.Prelude.{◌≡◌, Result, IfOk, ⊤}
use Rattle.source_defs.specs.Refusals.{◌>>=◌}

-- a value that is made of a value has a property if each that is made of such a value has it
pub ok_then : {A B E : Type 0} (P : A → Type 0) (Q : B → Type 0) (answer : Result A E) (make : A → Result B E)
    → IfOk answer P → ((value : A) → P value → IfOk (make value) Q) → IfOk (answer >>= make) Q
ok_then P Q (Ok value) make has each = each value has
ok_then P Q (Err cause) make has each = tt

-- an answer that is a value has what each value of it has
pub ok_has : {A E : Type 0} (P : A → Type 0) (answer : Result A E) (value : A) → answer ≡ Ok value → IfOk answer P → P value
ok_has P answer value e has = subst (λ answer. IfOk answer P) e has

pub any : {A E : Type 0} (answer : Result A E) → IfOk answer (λ value. ⊤)
any (Ok value) = tt
any (Err cause) = tt

-- and so it is of a part of an answer that has one
pub ok_also : {A E : Type 0} (P Q : A → Type 0) (answer : Result A E) → IfOk answer P → ((value : A) → P value → Q value) → IfOk answer Q
ok_also P Q (Ok value) has each = each value has
ok_also P Q (Err cause) has each = tt
