use Rattle.seq_check.specs.Answers.{checked_trees}
use Rattle.log_tool.proofs.LogLemmas.{last_is}
use Rattle.log_tool.proofs.log.last_of.Goals as goal

pub returns : goal.returns
returns c = λ s left turns run seen set start.
    last_is s left turns c.args.run.now (checked_trees c.args.checked.now) c.args.sequence.now c.in_ok-end_text.field-0 c.in_ok-at_text.field-0 c.in_ok-text.field-0.items
    c.push.new.self c.push-2.new.self c.push-3.new.self run seen set start c.in_ok-end_text.ensures c.in_ok-at_text.ensures c.in_ok-text.ensures
    (rw (c.new-text.ensures, c.as_bytes.ensures) at c.in_ok-push.ensures) (rw c.as_bytes-2.ensures at c.in_ok-push-2.ensures) (rw c.deref.ensures.value at c.in_ok-push-3.ensures)
