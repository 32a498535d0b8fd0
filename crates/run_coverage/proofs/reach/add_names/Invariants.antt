use Rattle.std.proofs.Common.{◌≡◌, take}
use Rattle.expr_grammar.specs.Names.{with_names}
use Rattle.run_coverage.proofs.reach.add_names.Given as goal

abbrev pub invariant-loop-name : goal.invariant-loop-name
invariant-loop-name l = l.names ≡ with_names l.fn.names (take l.name-index l.more)
