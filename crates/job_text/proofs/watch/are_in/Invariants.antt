use Rattle.std.proofs.Common.{◌≡◌, ◌+◌, ◌*◌}
use Rattle.job_text.specs.Tests.{are_words_in}
use Rattle.job_text.proofs.watch.are_in.Given as goal

abbrev pub invariant-loop-left : goal.invariant-loop-left
invariant-loop-left l = (are_words_in l.regions l.at l.left ≡ are_words_in l.regions l.address l.words) × (l.at + 4 * l.left ≡ l.address + 4 * l.words)

abbrev pub decreases-loop-left : goal.decreases-loop-left
decreases-loop-left l = l.left
