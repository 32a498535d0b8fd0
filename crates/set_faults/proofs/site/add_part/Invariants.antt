use Rattle.std.proofs.Common.{◌≡◌, ◌++◌, map, take}
use Rattle.set_faults.specs.Sites.{site_step, code_fault_at}
use Rattle.set_faults.proofs.site.add_part.Given as goal

abbrev pub invariant-loop-fault : goal.invariant-loop-fault
invariant-loop-fault l = l.found ≡ l.fn.found ++ map (code_fault_at (site_step l.site) l.part) (take l.fault-index l.faults)
