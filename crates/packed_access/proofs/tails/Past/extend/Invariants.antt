use Rattle.std.proofs.Common.{◌≡◌, ◌++◌, take}
use Rattle.packed_access.proofs.tails.Past.extend.Given as goal

abbrev pub invariant-loop-item : goal.invariant-loop-item
invariant-loop-item g l = record {
  passed : l.self ≡ l.initial.self ++ take l.item-index l.items;
}
