use Rattle.std.proofs.Common.{sym}
use Rattle.expr_grammar.specs.Tree.{arg_trees}
use Rattle.code_check.specs.Views.{scope_view}
use Rattle.code_check.proofs.NoteLemmas.{notes_joined, notes_one}
use Rattle.code_check.proofs.ArgLemmas.{arg_count-trees}
use Rattle.code_check.proofs.CallLemmas.{at_wrong_count, at_right_count}
use Rattle.code_check.proofs.calls.note_known.Goals as goal

pub returns-then-takes : goal.returns-then-takes
returns-then-takes c =
    notes_joined (at_right_count (scope_view c.args.scope) c.args.name.now (arg_trees c.args.args.now) c.args.function _ c.takes.result (sym (arg_count-trees c.args.args.now)) c.takes.ensures c.if-takes.true)
    c.note_kinds.ensures c.note_texts.ensures

pub returns-else-takes : goal.returns-else-takes
returns-else-takes c =
    notes_one _ (at_wrong_count (scope_view c.args.scope) c.args.name.now (arg_trees c.args.args.now) c.args.function _ c.takes.result (sym (arg_count-trees c.args.args.now)) c.takes.ensures c.if-takes.false) c.note_at.ensures
