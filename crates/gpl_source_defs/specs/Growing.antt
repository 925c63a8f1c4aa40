-- What is known of a line while names are still to come.
use Rattle.std.specs.Prelude.{Bool, false}
use Rattle.expression_defs.specs.Growing as expressions
use Rattle.gpl_source_defs.specs.declared.causes.GplCause.{GplCause}
use Rattle.gpl_source_defs.specs.declared.causes.GplCause.TheVariants.{Expr}

-- a refusal that more names may lift
abbrev pub is_unresolved : GplCause → Bool
is_unresolved (Expr error) = expressions.is_unresolved error
is_unresolved _ = false
