use Rattle.std.proofs.Common.{◌≡◌, ◌++◌, true, drop}
use Rattle.expr_grammar.specs.Tree.{arg_trees}
use Rattle.log_lines.specs.CodeText.{args_text}
use Rattle.log_lines.proofs.code.+code.Given as goal

abbrev pub invariant-with_args-loop-arg : goal.invariant-with_args-loop-arg
invariant-with_args-loop-arg l = l.fn.line ++ args_text true (arg_trees l.args) ≡ l.text ++ args_text l.is_first (arg_trees (drop l.arg-index l.args))
