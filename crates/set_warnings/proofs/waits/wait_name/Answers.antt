use Rattle.std.proofs.Common.{sym}
use Rattle.expr_grammar.specs.Tree.{tree}
use Rattle.set_warnings.proofs.WalkLemmas.{no_wait}
use Rattle.set_warnings.proofs.waits.wait_name.Goals as goal

pub returns-in_default : goal.returns-in_default
returns-in_default c = sym (no_wait (tree c.args.expr.now) c.args.steps.now c.in_default.len_at_least)
