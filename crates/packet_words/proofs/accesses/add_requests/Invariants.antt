use Rattle.std.proofs.Common.{◌≡◌, ◌++◌}
use Rattle.packet_words.specs.Accesses.{requests_accesses}
use Rattle.packet_words.specs.Requests.{after_requests}
use Rattle.packet_words.proofs.accesses.add_requests.Given as goal

abbrev pub invariant-loop-request : goal.invariant-loop-request
invariant-loop-request l = record {
  accesses : l.accesses ++ requests_accesses l.known l.left l.coming ≡ l.fn.accesses ++ requests_accesses l.fn.known l.fn.left l.requests;
  known : after_requests l.known l.left l.coming ≡ after_requests l.fn.known l.fn.left l.requests;
}
