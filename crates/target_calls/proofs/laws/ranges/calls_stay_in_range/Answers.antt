use Rattle.target_calls.proofs.CallRanges.{actions_fit, after_fits, next_fits, result_word, results_words}
use Rattle.target_calls.proofs.laws.ranges.calls_stay_in_range.Goals as goal

pub returns-clause-actions : goal.returns-clause-actions
returns-clause-actions c = actions_fit

pub returns-clause-result : goal.returns-clause-result
returns-clause-result c = result_word

pub returns-clause-next : goal.returns-clause-next
returns-clause-next c = next_fits

pub returns-clause-results : goal.returns-clause-results
returns-clause-results c = results_words

pub returns-clause-after : goal.returns-clause-after
returns-clause-after c = after_fits
