use Rattle.std.proofs.lemmas.Result.{on_ok_weaker}
use Rattle.expr_grammar.specs.Names.{has_name}
use Rattle.set_faults.proofs.AddLemmas.{adds_two, adds_if, adds_test}
use Rattle.set_faults.proofs.blocks.add_statement.Goals as goal

pub returns-in-Empty : goal.returns-in-Empty
returns-in-Empty c = rw c.in-Empty.is (on_ok_weaker c.add_if.result (adds_if c.args.scope.in_debugvars) c.add_if.ensures)

pub returns-in_ok-add_if-in-Declare : goal.returns-in_ok-add_if-in-Declare
returns-in_ok-add_if-in-Declare c =
    rw c.in-Declare.is
    (on_ok_weaker c.add_expr.result
    (adds_two {mid = c.add_if-in-Declare.new.self}
    (adds_test c.has-is_visible.result (has_name c.args.scope.visible.now c.in-Declare.name.value.text) (rw (c.as_str.ensures, c.deref.ensures) at c.has-is_visible.ensures) (rw c.deref-in-Declare.ensures at c.in_ok-add_if-in-Declare.ensures)))
    c.add_expr.ensures)

pub returns-in_ok-add_if-in-Plain : goal.returns-in_ok-add_if-in-Plain
returns-in_ok-add_if-in-Plain c = rw c.in-Plain.is (on_ok_weaker c.add_expr-in-Plain.result (adds_two (adds_if c.args.scope.in_debugvars c.in_ok-add_if-in-Plain.ensures)) c.add_expr-in-Plain.ensures)
