use Rattle.std.proofs.Common.{sym}
use Rattle.std.proofs.lemmas.Result.{on_ok_weaker}
use Rattle.expr_grammar.specs.Tree.{arg_trees}
use Rattle.code_check.specs.Views.{scope_view}
use Rattle.code_check.proofs.ArgLemmas.{arg_count-trees}
use Rattle.set_faults.proofs.CallLemmas.{at_wrong_count, at_right_count}
use Rattle.set_faults.proofs.calls.add_known.Goals as goal

pub returns-then-not-takes : goal.returns-then-not-takes
returns-then-not-takes c =
    on_ok_weaker c.add_if.result
    (at_wrong_count (scope_view c.args.scope) c.args.name.now (arg_trees c.args.args.now) c.args.function _ c.takes.result c.args.found.now c.add_if.new.self (sym (arg_count-trees c.args.args.now)) c.takes.ensures c.if-not-takes.true)
    c.add_if.ensures

pub returns : goal.returns
returns c =
    on_ok_weaker c.add_texts.result
    (at_right_count (scope_view c.args.scope) c.args.name.now (arg_trees c.args.args.now) c.args.function _ c.takes.result c.args.found.now c.add_kinds.new.found c.add_texts.new.found (sym (arg_count-trees c.args.args.now)) c.takes.ensures
    c.if-not-takes.false c.in_ok-add_kinds.ensures)
    c.add_texts.ensures
