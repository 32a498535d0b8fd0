use Rattle.std.proofs.Common.{◌≡◌, ℕ, ◌+◌, ◌≤◌, ◌++◌, List, take}
use Rattle.expr_grammar.specs.Lexing.{place_after}
use Rattle.expr_grammar.proofs.lexer.place_after.Given as goal

abbrev pub invariant-loop-b : goal.invariant-loop-b
invariant-loop-b l = record {
  place : (before : List ℕ) → l.fn.at ≡ place_after before → l.at ≡ place_after (before ++ take l.b-index l.bytes);
  line : l.at.line ≤ l.fn.at.line + l.b-index;
  column : l.at.column ≤ l.fn.at.column + l.b-index + 1;
}
