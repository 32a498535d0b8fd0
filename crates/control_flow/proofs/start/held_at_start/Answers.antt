use Rattle.std.proofs.Common.{List, ap, ◌∙◌}
use Rattle.target_calls.specs.declared.calls.Value.TheVariants.{Number}
use Rattle.target_calls.specs.NeedPoints.{nothing_asked}
use Rattle.expr_grammar.specs.Tree.{code_trees}
use Rattle.expr_grammar.specs.declared.code.Stmt.{Stmt}
use Rattle.seq_check.specs.Answers.{checked_trees}
use Rattle.target_machine.specs.declared.unit.Variable.{Variable}
use Rattle.sequence_rules.specs.Steps.{declared_names}
use Rattle.sequence_rules.specs.Variables.{with_all_new}
use Rattle.sequence_rules.specs.Runs.{variables_of}
use Rattle.control_flow.specs.Closing.{bindings_as_values}
use Rattle.control_flow.proofs.StartLemmas.{start_is}
use Rattle.control_flow.proofs.start.held_at_start.Goals as goal

pub returns-clause-state : goal.returns-clause-state
returns-clause-state c = λ cost w written.
    let set = checked_trees c.args.checked.now in
    let code = ap (λ (l : List Stmt). code_trees l) c.as_slice-2.ensures ∙ c.debugvars.ensures in
    let values = c.in_ok-globals.ensures ∙ ap (λ (l : List Variable). bindings_as_values (variables_of l)) c.as_slice.ensures in
    let all = c.in_ok-add_declared.ensures ∙ ap (λ bs. with_all_new bs (declared_names (code_trees c.as_slice-2.result.now)) (Number 0)) values ∙ ap (λ k. with_all_new (bindings_as_values (variables_of c.args.settings.now.start)) (declared_names k) (Number 0)) code in
    c.new.ensures.state nothing_asked written ∙ start_is cost w c.args.settings.now.turn_us set (variables_of c.args.settings.now.start) _ written all
