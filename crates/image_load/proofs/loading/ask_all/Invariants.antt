use Rattle.std.proofs.Common.{◌≡◌, ◌+◌, ◌<◌, ◌++◌, None, length, take}
use Rattle.access_calls.specs.Keeps.{KeepsAccess}
use Rattle.image_load.specs.Pieces.{asked_all}
use Rattle.image_load.proofs.loading.ask_all.Given as goal

abbrev pub invariant-loop-i : goal.invariant-loop-i
invariant-loop-i g l = record {
  calls : (g.A.Access.reported l.access).asks.calls ≡ (g.A.Access.reported l.fn.access).asks.calls ++ asked_all l.read l.ap (take l.i l.pieces);
  count : length (g.A.Access.reported l.access).asks.calls ≡ length (g.A.Access.reported l.fn.access).asks.calls + l.i;
  some : 0 < l.i → l.first ≡ length (g.A.Access.reported l.fn.access).asks.calls;
  none : l.i ≡ 0 → l.first ≡ 0;
  ended : (g.A.Access.reported l.access).end ≡ None;
  keeps : KeepsAccess g.A.Access.begun g.A.Access.reported g.A.Access.identity l.fn.access l.access;
}
