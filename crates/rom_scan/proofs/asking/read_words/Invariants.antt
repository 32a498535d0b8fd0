use Rattle.std.proofs.Common.{◌≡◌, ◌+◌, ◌-◌, ◌*◌, ℕ, List, [], Option, None, length}
use Rattle.probe_core.specs.Bench.{BenchState}
use Rattle.target_calls.specs.World.{stop}
use Rattle.access_calls.specs.Keeps.{KeepsAccess}
use Rattle.access_calls.specs.Left.{IsLeft}
use Rattle.access_calls.specs.Reported.{world_from}
use Rattle.sequels.specs.Meeting.{Reaches}
use Rattle.rom_scan.specs.Components.{words_sequel}
use Rattle.rom_scan.proofs.asking.read_words.Given as goal

abbrev pub invariant-loop-i : goal.invariant-loop-i
invariant-loop-i g l = record {
  so_far : (m : BenchState) (answered : Option ℕ) (written : Option (List ℕ)) → g.A.Access.begun l.fn.access m → IsLeft (g.A.Access.reported l.access) answered
      → stop (world_from m answered) (g.A.Access.reported l.fn.access).asks.calls ≡ None
      → Reaches (world_from m answered) (words_sequel l.ap l.count l.address []) (g.A.Access.reported l.fn.access).asks.calls (g.A.Access.reported l.access).asks.calls written written (words_sequel l.ap (l.count - l.i) (l.address + 4 * l.i) l.read.items);
  items : length l.read.items ≡ l.i;
  calls : length (g.A.Access.reported l.access).asks.calls ≡ length (g.A.Access.reported l.fn.access).asks.calls + l.i;
  ended : (g.A.Access.reported l.access).end ≡ None;
  keeps : KeepsAccess g.A.Access.begun g.A.Access.reported g.A.Access.identity l.fn.access l.access;
}
