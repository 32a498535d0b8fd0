use Rattle.std.proofs.Common.{sym, ◌∙◌, ap, ◌-◌}
use Rattle.expr_grammar.specs.Tree.{arg_trees}
use Rattle.code_check.specs.Views.{scope_view}
use Rattle.code_check.proofs.NoteLemmas.{notes_as, notes_none}
use Rattle.code_check.proofs.ArgLemmas.{arg_count-trees}
use Rattle.code_check.proofs.CallLemmas.{at_sequence, at_sequence_none, at_message, at_message_none}
use Rattle.code_check.proofs.calls.note_texts.Goals as goal

pub returns-in-Some : goal.returns-in-Some
returns-in-Some c =
    notes_as (at_sequence (scope_view c.args.scope) c.args.function (arg_trees c.args.args.now) c.in-Some.text.now c.in-Sequence.is (sym (rw c.in-Some.is at c.text_at.ensures))) c.note_sequence.ensures

pub returns-in_default-text_at : goal.returns-in_default-text_at
returns-in_default-text_at c =
    notes_none (at_sequence_none (scope_view c.args.scope) c.args.function (arg_trees c.args.args.now) c.in-Sequence.is (sym (rw c.in_default-text_at.is at c.text_at.ensures)))

pub returns-in-Some-text_at : goal.returns-in-Some-text_at
returns-in-Some-text_at c =
    notes_as (at_message (scope_view c.args.scope) c.args.function (arg_trees c.args.args.now) c.in-Some-text_at.text.now c.saturating_sub.result c.in-Message.is
    (sym (rw c.in-Some-text_at.is at c.text_at-in-Message.ensures)) (c.saturating_sub.ensures ∙ ap (λ n. n - 2) (sym (arg_count-trees c.args.args.now)))) c.note_format.ensures

pub returns-in_default-text_at-2 : goal.returns-in_default-text_at-2
returns-in_default-text_at-2 c =
    notes_none (at_message_none (scope_view c.args.scope) c.args.function (arg_trees c.args.args.now) c.in-Message.is (sym (rw c.in_default-text_at-2.is at c.text_at-in-Message.ensures)))
