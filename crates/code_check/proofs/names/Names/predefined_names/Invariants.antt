use Rattle.std.proofs.Common.{◌≡◌, take}
use Rattle.function_table.specs.Variables.{names_of_predefined}
use Rattle.code_check.proofs.names.Names.predefined_names.Given as goal

abbrev pub invariant-loop-name : goal.invariant-loop-name
invariant-loop-name l = l.names ≡ take l.name-index names_of_predefined
