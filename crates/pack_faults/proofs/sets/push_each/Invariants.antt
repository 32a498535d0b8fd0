use Rattle.std.proofs.Common.{◌≡◌, ◌++◌, drop, map}
use Rattle.pack_faults.specs.Shared.{set_ref}
use Rattle.pack_faults.proofs.sets.push_each.Given as goal

abbrev pub invariant-loop-one : goal.invariant-loop-one
invariant-loop-one l = l.sets ++ map (set_ref l.place l.variant) (drop l.one-index l.each) ≡ l.fn.sets ++ map (set_ref l.place l.variant) l.each
