use Rattle.expr_grammar.specs.declared.limit.Span.TheVariants as spans
use Rattle.expr_grammar.specs.Grammar.{ReadsCode}
use Rattle.expr_grammar.specs.Tree.{code_trees}
use Rattle.sequence_trees.proofs.TextLaws.{exact_code, only_value, only_fault}
use Rattle.sequence_trees.proofs.text.read_code.Goals as goal

pub returns-clause-only : goal.returns-clause-only
returns-clause-only c = λ code is. only_value ReadsCode spans.Statement exact_code c.args.text.now code_trees c.code_of.result c.code_of.ensures code is

pub returns-clause-only_fault : goal.returns-clause-only_fault
returns-clause-only_fault c = λ at is. only_fault ReadsCode spans.Statement exact_code c.args.text.now code_trees c.code_of.result c.code_of.ensures at is
