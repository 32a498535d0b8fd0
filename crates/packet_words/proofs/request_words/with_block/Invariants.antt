use Rattle.std.proofs.Common.{◌≡◌, ◌++◌, drop}
use Rattle.packet_words.specs.Requests.{request_lines, after_requests}
use Rattle.dap_messages.specs.Requests.{block_requests}
use Rattle.packet_words.proofs.request_words.with_block.Given as goal

abbrev pub invariant-loop-index : goal.invariant-loop-index
invariant-loop-index l = record {
  text : l.line ++ request_lines l.known l.left (block_requests l.byte (drop l.index l.words)) ≡ l.fn.line ++ request_lines l.fn.known l.fn.left (block_requests l.byte l.words);
  known : after_requests l.known l.left (block_requests l.byte (drop l.index l.words)) ≡ after_requests l.fn.known l.fn.left (block_requests l.byte l.words);
}
