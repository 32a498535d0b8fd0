use Rattle.std.proofs.lemmas.Result.{on_ok_weaker}
use Rattle.expr_grammar.specs.Tree.{arg_trees}
use Rattle.function_table.proofs.Lookup.{exactly}
use Rattle.code_check.specs.Views.{scope_view}
use Rattle.set_faults.proofs.CallLemmas.{at_function, at_no_function}
use Rattle.set_faults.proofs.calls.add_function.Goals as goal

pub returns-in-Some : goal.returns-in-Some
returns-in-Some c =
    let called = c.args.called.now in
    on_ok_weaker c.add_known.result
    (at_function (scope_view c.args.scope) called.name (arg_trees c.args.args.now) c.in-Some.function called.function c.args.found.now c.add_known.new.found (exactly called.name.text called.function called.found) c.in-Some.is)
    c.add_known.ensures

pub returns-in-None : goal.returns-in-None
returns-in-None c =
    let called = c.args.called.now in
    on_ok_weaker c.add_if.result
    (at_no_function (scope_view c.args.scope) called.name (arg_trees c.args.args.now) called.function c.args.found.now c.add_if.new.self (exactly called.name.text called.function called.found) c.in-None.is)
    c.add_if.ensures
