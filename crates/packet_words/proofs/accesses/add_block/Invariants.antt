use Rattle.std.proofs.Common.{◌≡◌, ◌++◌, drop}
use Rattle.packet_words.specs.Accesses.{requests_accesses}
use Rattle.packet_words.specs.Requests.{after_requests}
use Rattle.dap_messages.specs.Requests.{block_requests}
use Rattle.packet_words.proofs.accesses.add_block.Given as goal

abbrev pub invariant-loop-index : goal.invariant-loop-index
invariant-loop-index l = record {
  accesses : l.accesses ++ requests_accesses l.known l.left (block_requests l.byte (drop l.index l.words)) ≡ l.fn.accesses ++ requests_accesses l.fn.known l.fn.left (block_requests l.byte l.words);
  known : after_requests l.known l.left (block_requests l.byte (drop l.index l.words)) ≡ after_requests l.fn.known l.fn.left (block_requests l.byte l.words);
}
