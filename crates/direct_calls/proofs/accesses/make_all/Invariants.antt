use Rattle.std.proofs.Common.{◌≡◌, false, map, drop}
use Rattle.target_machine.proofs.ActionLists.{order_from}
use Rattle.target_machine.specs.Plain.{Makes, in_order, is_fault}
use Rattle.direct_calls.proofs.accesses.make_all.Given as goal

abbrev pub invariant-loop-access : goal.invariant-loop-access
invariant-loop-access l = record {
  same : in_order l.fn.target (map Makes l.accesses) ≡ order_from (record { outcome = l.last; next = l.target }) (map Makes (drop l.access-index l.accesses));
  passed : is_fault l.last ≡ false;
}
