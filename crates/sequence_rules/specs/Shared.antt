-- What the variables of `Globals` are, as a plain list.
use Rattle.std.specs.Prelude.{ℕ, List, ◌++◌, map, String, string_bytes}
use Rattle.std.specs.Borrow.{Bor}
use Rattle.std.specs.declared.alloc.Global.{Global}
use Rattle.sequence_rules.specs.declared.bindings.Binding.{Binding}
use Rattle.sequence_rules.specs.declared.globals.Globals.{Globals}
use Rattle.sequence_rules.specs.Variables.{bound_variable}

-- the variable of an entry of the table
abbrev pub entry_binding : {V : Type 0} → String Global × V → Binding V
entry_binding entry = bound_variable (string_bytes entry.0) entry.1

-- the variables in order
abbrev pub bindings_of : {V : Type 0} → Globals V → List (Binding V)
bindings_of globals = map entry_binding globals.values.entries

-- a name and a value as a variable
abbrev pub pair_of : {V : Type 0} → Bor (List ℕ) × V → Binding V
pair_of pair = bound_variable pair.0.now pair.1

-- the variables of a sequence: the first ones, those that are found by their names, and those from the first that hides another one on
abbrev pub joined_locals : {V : Type 0} → List (Binding V) → Globals V → List (Binding V) → List (Binding V)
joined_locals first named hiding = first ++ bindings_of named ++ hiding
