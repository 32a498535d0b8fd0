use Rattle.std.proofs.Common.{◌≡◌, ◌++◌, take, drop}
use Rattle.fault_lines.specs.Source.{word_front, after_word}
use Rattle.fault_lines.proofs.name.word_len.Given as goal

abbrev pub invariant-loop-index : goal.invariant-loop-index
invariant-loop-index l = record {
  front : word_front l.bytes ≡ take l.index l.bytes ++ word_front (drop l.index l.bytes);
  rest : after_word l.bytes ≡ after_word (drop l.index l.bytes);
}
