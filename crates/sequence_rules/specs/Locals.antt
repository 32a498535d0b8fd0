-- What the variables of `Locals` are, as a plain list.
use Rattle.std.specs.Prelude.{List}
use Rattle.sequence_rules.specs.declared.bindings.Binding.{Binding}
use Rattle.sequence_rules.specs.declared.parts.Locals.{Locals}
use Rattle.sequence_rules.specs.Shared.{joined_locals}

-- the variables, the newest last
abbrev pub locals_of : {V : Type 0} → Locals V → List (Binding V)
locals_of locals = joined_locals locals.first.items locals.named locals.hiding.items
