use Rattle.std.proofs.Common.{◌≡◌, ◌<◌, ◌≤◌, false, ℕ}
use Rattle.expr_grammar.specs.Lexing.{closes}
use Rattle.expr_grammar.proofs.front.block_len.Given as goal

abbrev pub invariant-loop-k : goal.invariant-loop-k
invariant-loop-k l = (j : ℕ) → 2 ≤ j → j < l.k → closes l.bytes j ≡ false
