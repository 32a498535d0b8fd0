use Rattle.std.proofs.Common.{◌≡◌, ◌≤◌, take, drop}
use Rattle.dap_messages.specs.Requests.{reads_in}
use Rattle.dap_messages.specs.Replies.{last_is_posted}
use Rattle.packet_words.proofs.replies.first_requests.Given as goal

abbrev pub invariant-loop : goal.invariant-loop
invariant-loop l = record {
  rest : l.left ≡ drop l.counter l.requests;
  reads : l.executed.reads ≡ reads_in (take l.counter l.requests);
  few : l.executed.reads ≤ l.counter;
  posted : l.executed.last_is_posted ≡ last_is_posted l.requests l.counter;
}
