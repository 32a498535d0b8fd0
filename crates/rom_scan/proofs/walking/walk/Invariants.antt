use Rattle.std.proofs.Common.{◌≡◌, ◌+◌, ◌≤◌, ℕ, Option, None, length}
use Rattle.std.specs.List.{All}
use Rattle.probe_core.specs.Bench.{BenchState}
use Rattle.target_calls.specs.World.{stop}
use Rattle.access_calls.specs.Keeps.{KeepsAccess}
use Rattle.access_calls.specs.Left.{IsLeft}
use Rattle.access_calls.specs.Reported.{world_from}
use Rattle.sequels.specs.Meeting.{Reaches}
use Rattle.rom_scan.specs.Arrivals.{IsOpenTable, reads_left}
use Rattle.rom_scan.specs.Tables.{unwound}
use Rattle.rom_scan.specs.Written.{AppendsComponents}
use Rattle.rom_scan.proofs.walking.walk.Given as goal

abbrev pub invariant-tables : goal.invariant-tables
invariant-tables g l = record {
  so_far : (m : BenchState) (answered : Option ℕ) → g.A.Access.begun l.fn.access m → IsLeft (g.A.Access.reported l.access) answered → stop (world_from m answered) (g.A.Access.reported l.fn.access).asks.calls ≡ None
      → Reaches (world_from m answered) (unwound 1024 l.ap l.fn.tables l.fn.listed) (g.A.Access.reported l.fn.access).asks.calls (g.A.Access.reported l.access).asks.calls (g.K.Sink.written l.fn.sink) (g.K.Sink.written l.sink) (unwound 1024 l.ap l.tables l.listed);
  sound : All IsOpenTable l.tables;
  deep : length l.tables ≤ 7;
  count : length (g.A.Access.reported l.access).asks.calls + reads_left l.tables l.listed ≤ length (g.A.Access.reported l.fn.access).asks.calls + reads_left l.fn.tables l.fn.listed;
  asked : length (g.A.Access.reported l.access).asks.calls ≡ length (g.A.Access.reported l.fn.access).asks.calls + l.asked;
  written : AppendsComponents (g.K.Sink.written l.fn.sink) (g.K.Sink.written l.sink);
  faults : g.K.Sink.faults l.sink ≡ g.K.Sink.faults l.fn.sink;
  units : l.units ≡ l.fn.units;
  ended : (g.A.Access.reported l.access).end ≡ None;
  keeps : KeepsAccess g.A.Access.begun g.A.Access.reported g.A.Access.identity l.fn.access l.access;
}

abbrev pub decreases-tables : goal.decreases-tables
decreases-tables g l = reads_left l.tables l.listed
