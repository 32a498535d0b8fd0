use Rattle.std.proofs.Common.{◌≡◌, ◌<◌, length, ◌+◌, ◌*◌}
use Rattle.expr_grammar.specs.Tree.{tree, arg_trees}
use Rattle.expr_grammar.specs.Lexeme.{lexemes}
use Rattle.expr_grammar.specs.Reading.{read, at_level, arguments, Climb, Further}
use Rattle.expr_grammar.proofs.ArgTurns.{with_args}
use Rattle.expr_grammar.proofs.parser.+parser.Given as goal

abbrev pub decreases-operand : goal.decreases-operand
decreases-operand l = 7 * length l.tokens.now

abbrev pub decreases-assignment : goal.decreases-assignment
decreases-assignment l = 7 * length l.tokens.now

abbrev pub decreases-read_name_or_call : goal.decreases-read_name_or_call
decreases-read_name_or_call l = 7 * length l.tokens.now

abbrev pub decreases-at_level : goal.decreases-at_level
decreases-at_level l = 7 * length l.tokens.now + 1

abbrev pub decreases-choice : goal.decreases-choice
decreases-choice l = 7 * length l.tokens.now + 2

abbrev pub decreases-read_choice_values : goal.decreases-read_choice_values
decreases-read_choice_values l = 7 * length l.tokens.now + 4

abbrev pub decreases-read_unary : goal.decreases-read_unary
decreases-read_unary l = 7 * length l.tokens.now + 1

abbrev pub decreases-read_expression : goal.decreases-read_expression
decreases-read_expression l = 7 * length l.tokens.now + 3

abbrev pub decreases-read_group : goal.decreases-read_group
decreases-read_group l = 7 * length l.tokens.now + 4

abbrev pub decreases-argument : goal.decreases-argument
decreases-argument l = 7 * length l.tokens.now + 4

abbrev pub decreases-arguments : goal.decreases-arguments
decreases-arguments l = 7 * length l.tokens.now + 5

abbrev pub decreases-read_call : goal.decreases-read_call
decreases-read_call l = 7 * length l.tokens.now + 6

abbrev pub invariant-at_level-loop-mark : goal.invariant-at_level-loop-mark
invariant-at_level-loop-mark l = (read (Climb l.least (tree l.left)) (lexemes l.rest) ≡ at_level read l.least (lexemes l.tokens)) × (length l.rest < length l.tokens)

abbrev pub decreases-at_level-loop-mark : goal.decreases-at_level-loop-mark
decreases-at_level-loop-mark l = length l.rest

abbrev pub invariant-arguments-loop-after : goal.invariant-arguments-loop-after
invariant-arguments-loop-after l = (with_args (arg_trees l.args) (read Further (lexemes l.rest)) ≡ arguments read (lexemes l.tokens)) × (length l.rest < length l.tokens)

abbrev pub decreases-arguments-loop-after : goal.decreases-arguments-loop-after
decreases-arguments-loop-after l = length l.rest
