use Rattle.std.proofs.Common.{◌≡◌, ◌+◌, length, fold}
use Rattle.probe_core.specs.Bench.{StepsTo, reported_after_reply}
use Rattle.probe_core.specs.Runs.{KeepsRuns}
use Rattle.batch_packer.specs.Exchanges.{StaysAt}
use Rattle.batch_packer.specs.Queues.{HandedSome}
use Rattle.batch_packer.proofs.queue.receive_all.Given as goal

abbrev pub invariant-loop : goal.invariant-loop
invariant-loop g l = record {
  reported : g.B.Bench.reported l.bench ≡ fold reported_after_reply (g.B.Bench.reported l.fn.bench) l.replies.items;
  state : StepsTo (HandedSome l.replies.items) (g.B.Bench.state l.fn.bench) (g.B.Bench.state l.bench);
  runs : KeepsRuns (g.B.Bench.state l.fn.bench) (g.B.Bench.state l.bench);
  identity : g.B.Bench.identity l.bench ≡ g.B.Bench.identity l.fn.bench;
  faults : (g.B.Bench.reported l.bench).faults ≡ (g.B.Bench.reported l.fn.bench).faults;
  limits : (g.B.Bench.reported l.bench).limits ≡ (g.B.Bench.reported l.fn.bench).limits;
  stays : StaysAt (g.B.Bench.reported l.fn.bench) (g.B.Bench.reported l.bench);
  waiting : (g.B.Bench.reported l.bench).waiting + l.counter ≡ (g.B.Bench.reported l.fn.bench).waiting;
  count : length l.replies.items ≡ l.counter;
  room : l.replies.room ≡ l.fn.replies.room;
}
