use Rattle.std.proofs.Common.{◌≡◌, map, string_bytes, take, drop}
use Rattle.program_arguments.proofs.words_of.Given as goal

abbrev pub invariant-loop-argument : goal.invariant-loop-argument
invariant-loop-argument l = record {
  words : l.words ≡ map string_bytes (take l.argument-index (drop 1 l.arguments));
}
