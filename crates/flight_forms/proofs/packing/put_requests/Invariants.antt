use Rattle.std.proofs.Common.{◌≡◌, ◌≤◌, ◌++◌, false, length, take, drop}
use Rattle.flight_forms.specs.Packing.{requests_for}
use Rattle.flight_forms.proofs.packing.put_requests.Given as goal

abbrev pub invariant-loop-access : goal.invariant-loop-access
invariant-loop-access l = record {
  whole : take l.end l.requests ++ requests_for l.after_write (drop l.access-index l.accesses) ≡ requests_for false l.accesses;
  inside : l.end ≤ length l.requests;
  room : length (requests_for false l.accesses) ≤ length l.requests;
}
