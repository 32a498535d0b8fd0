use Rattle.std.proofs.Common.{◌≡◌, ◌++◌}
use Rattle.packet_words.specs.Requests.{request_lines, after_requests}
use Rattle.packet_words.proofs.request_words.with_requests.Given as goal

abbrev pub invariant-loop-request : goal.invariant-loop-request
invariant-loop-request l = record {
  text : l.line ++ request_lines l.known l.left l.coming ≡ l.fn.line ++ request_lines l.fn.known l.fn.left l.requests;
  known : after_requests l.known l.left l.coming ≡ after_requests l.fn.known l.fn.left l.requests;
}
