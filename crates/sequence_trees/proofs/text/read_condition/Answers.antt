use Rattle.expr_grammar.specs.declared.limit.Span.TheVariants as spans
use Rattle.expr_grammar.specs.Grammar.{ReadsExpr}
use Rattle.expr_grammar.specs.Tree.{tree}
use Rattle.sequence_trees.proofs.TextLaws.{exact_condition, only_value, only_fault}
use Rattle.sequence_trees.proofs.text.read_condition.Goals as goal

pub returns-clause-only : goal.returns-clause-only
returns-clause-only c = λ e is. only_value ReadsExpr spans.Text exact_condition c.args.text.now tree c.condition_of.result c.condition_of.ensures e is

pub returns-clause-only_fault : goal.returns-clause-only_fault
returns-clause-only_fault c = λ at is. only_fault ReadsExpr spans.Text exact_condition c.args.text.now tree c.condition_of.result c.condition_of.ensures at is
