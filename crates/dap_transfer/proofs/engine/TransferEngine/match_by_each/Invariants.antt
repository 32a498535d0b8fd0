use Rattle.std.proofs.Common.{◌≡◌, ◌+◌, ◌-◌}
use Rattle.dap_transfer.specs.ValueMatch.{match_ending}
use Rattle.dap_transfer.proofs.ValueMatches.{counted}
use Rattle.dap_transfer.proofs.engine.TransferEngine.match_by_each.Given as goal

abbrev pub invariant-loop-turn : goal.invariant-loop-turn
invariant-loop-turn l = record {
  only_line : l.self ≡ record l.fn.self { line = l.self.line };
  turns_is : l.turns ≡ l.fn.self.setting.matches + 1;
  rest : match_ending l.fn.self.setting l.fn.self.mask l.requested l.access l.turns l.fn.self.line
      ≡ counted l.turn (match_ending l.fn.self.setting l.fn.self.mask l.requested l.access (l.turns - l.turn) l.self.line);
}
