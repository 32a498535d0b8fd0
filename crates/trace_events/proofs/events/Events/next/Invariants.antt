use Rattle.std.proofs.Common.{◌≡◌}
use Rattle.trace_events.proofs.EventLemmas.{Ahead}
use Rattle.trace_events.proofs.events.Events.next.Given as goal

abbrev pub invariant-loop : goal.invariant-loop
invariant-loop g l = record {
  ahead : Ahead l.fn.self l.self (g.S.Source.left l.fn.source) (g.S.Source.left l.source);
  quiet : g.S.Source.faults l.source ≡ g.S.Source.faults l.fn.source;
}
