-- What is held by reference, without where it lies in memory.
use Rattle.code_check.specs.declared.scope.Scope as held
use Rattle.code_check.specs.ExprFaults.{Scope}

-- what code sees
abbrev pub scope_view : held.Scope → Scope
scope_view s = record { visible = s.visible.now; sequences = s.sequences.now; in_debugvars = s.in_debugvars }
