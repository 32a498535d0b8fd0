use Rattle.std.proofs.Common.{sym, ◌∙◌, ap, ◌-◌}
use Rattle.std.proofs.lemmas.Result.{on_ok_weaker}
use Rattle.expr_grammar.specs.Tree.{arg_trees}
use Rattle.code_check.specs.Views.{scope_view}
use Rattle.code_check.proofs.ArgLemmas.{arg_count-trees}
use Rattle.set_faults.proofs.CallLemmas.{at_sequence, at_sequence_none, at_message, at_message_none}
use Rattle.set_faults.proofs.calls.add_texts.Goals as goal

pub returns-in-Some : goal.returns-in-Some
returns-in-Some c =
    on_ok_weaker c.add_sequence.result
    (at_sequence (scope_view c.args.scope) c.args.function (arg_trees c.args.args.now) c.in-Some.text.now c.args.found.now c.add_sequence.new.found c.in-Sequence.is (sym (rw c.in-Some.is at c.text_at.ensures)))
    c.add_sequence.ensures

pub returns-in-None : goal.returns-in-None
returns-in-None c = at_sequence_none (scope_view c.args.scope) c.args.function (arg_trees c.args.args.now) c.args.found.now c.in-Sequence.is (sym (rw c.in-None.is at c.text_at.ensures))

pub returns-in-Some-text_at : goal.returns-in-Some-text_at
returns-in-Some-text_at c =
    on_ok_weaker c.add_format.result
    (at_message (scope_view c.args.scope) c.args.function (arg_trees c.args.args.now) c.in-Some-text_at.text.now c.saturating_sub.result c.args.found.now c.add_format.new.found c.in-Message.is
    (sym (rw c.in-Some-text_at.is at c.text_at-in-Message.ensures)) (c.saturating_sub.ensures ∙ ap (λ n. n - 2) (sym (arg_count-trees c.args.args.now))))
    c.add_format.ensures

pub returns-in-None-text_at : goal.returns-in-None-text_at
returns-in-None-text_at c =
    at_message_none (scope_view c.args.scope) c.args.function (arg_trees c.args.args.now) c.args.found.now c.in-Message.is (sym (rw c.in-None-text_at.is at c.text_at-in-Message.ensures))
