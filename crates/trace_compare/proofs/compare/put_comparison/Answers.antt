use Rattle.trace_compare.proofs.PairLemmas.{at_error, comparison_put, difference_first, difference_whole, summary_part}
use Rattle.trace_compare.proofs.compare.put_comparison.Goals as goal

pub returns-in_err-is_same-clause-part : goal.returns-in_err-is_same-clause-part
returns-in_err-is_same-clause-part g c = λ a b is other. at_error _ _ (difference_first _ _ _ a b (c.in_err-is_same.ensures.part a b is other))

pub returns-in_err-take_all-clause-part : goal.returns-in_err-take_all-clause-part
returns-in_err-take_all-clause-part g c = λ a b is other.
    at_error _ _ (difference_whole _ _ c.args.traces.now _ _ _ _ _ _ c.in_ok-is_same.is_same c.in_ok-is_same.ensures.text a b is other)

pub returns-in_err-put_summary-clause-part : goal.returns-in_err-put_summary-clause-part
returns-in_err-put_summary-clause-part g c = λ a b is other.
    at_error _ _ (summary_part _ _ _ _ _ _ _ _ _ c.in_ok-is_same.is_same c.in_ok-is_same.ensures.text a b is other _ c.in_ok-take_all.ensures.taken
    (rw (c.counter-trace.ensures, c.counter-against.ensures) at c.in_err-put_summary.ensures.text))

pub returns-clause-words : goal.returns-clause-words
returns-clause-words g c = λ a b is other.
    comparison_put _ _ _ _ _ _ _ _ _ c.in_ok-is_same.is_same c.in_ok-is_same.ensures.text a b is other _ _ c.in_ok-take_all.ensures.taken
    (rw (c.counter-trace.ensures, c.counter-against.ensures) at c.in_ok-put_summary.ensures.text) (rw (c.counter-trace.ensures, c.counter-against.ensures) at c.is_alike.ensures)
