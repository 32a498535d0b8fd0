use Rattle.std.proofs.Common.{◌≡◌, map, take}
use Rattle.direct_calls.specs.CallLists.{ask_of}
use Rattle.direct_calls.proofs.list.CallList.asks.Given as goal

abbrev pub invariant-loop-noted : goal.invariant-loop-noted
invariant-loop-noted l = l.asks.items ≡ map ask_of (take l.noted-index l.noted-items)
