use Rattle.std.proofs.Common.{◌≡◌, ◌++◌, take, length}
use Rattle.probe_core.proofs.executor.list_requests.Given as goal

abbrev pub invariant-loop-request : goal.invariant-loop-request
invariant-loop-request l = record {
  so_far : take l.count l.list ++ l.request-iterator ≡ l.requests;
  count : l.count ≡ length (take l.count l.list);
}
