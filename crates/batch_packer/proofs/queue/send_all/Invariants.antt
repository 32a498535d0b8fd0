use Rattle.std.proofs.Common.{◌≡◌, ◌<◌, length, take, fold}
use Rattle.probe_core.specs.Bench.{StepsTo, reported_after_packet, bench_after_packet}
use Rattle.probe_core.specs.Runs.{KeepsRuns}
use Rattle.batch_packer.proofs.GoingOn.{count_after}
use Rattle.batch_packer.proofs.queue.send_all.Given as goal

abbrev pub invariant-loop-i : goal.invariant-loop-i
invariant-loop-i g l = record {
  reported : g.B.Bench.reported l.bench ≡ fold reported_after_packet (g.B.Bench.reported l.fn.bench) (take l.i l.packets.items);
  state : StepsTo (λ m n. n ≡ fold bench_after_packet m (take l.i l.packets.items)) (g.B.Bench.state l.fn.bench) (g.B.Bench.state l.bench);
  runs : KeepsRuns (g.B.Bench.state l.fn.bench) (g.B.Bench.state l.bench);
  identity : g.B.Bench.identity l.bench ≡ g.B.Bench.identity l.fn.bench;
  faults : (g.B.Bench.reported l.bench).faults ≡ (g.B.Bench.reported l.fn.bench).faults;
  limits : (g.B.Bench.reported l.bench).limits ≡ (g.B.Bench.reported l.fn.bench).limits;
  exchanges : (g.B.Bench.reported l.bench).exchanges ≡ count_after l.i (g.B.Bench.reported l.fn.bench).exchanges;
  held : l.i < length l.packets.items → (g.B.Bench.reported l.bench).held ≡ l.i;
  waiting : l.i < length l.packets.items → (g.B.Bench.reported l.bench).waiting ≡ 0;
}
