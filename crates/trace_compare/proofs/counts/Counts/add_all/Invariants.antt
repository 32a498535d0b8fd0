use Rattle.std.proofs.Common.{◌≡◌, drop}
use Rattle.trace_compare.specs.Counts.{all_counted}
use Rattle.trace_compare.proofs.counts.Counts.add_all.Given as goal

abbrev pub invariant-loop-access : goal.invariant-loop-access
invariant-loop-access l = all_counted l.self (drop l.access-index l.accesses) ≡ all_counted l.fn.self l.fn.accesses
