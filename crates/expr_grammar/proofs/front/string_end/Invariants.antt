use Rattle.std.proofs.Common.{◌≡◌, false, drop}
use Rattle.expr_grammar.specs.Front.{string_end}
use Rattle.expr_grammar.proofs.Strings.{plus}
use Rattle.expr_grammar.proofs.front.string_end.Given as goal

abbrev pub invariant-loop-i : goal.invariant-loop-i
invariant-loop-i l = plus l.i (string_end l.escaped (drop l.i l.bytes)) ≡ string_end false l.bytes
