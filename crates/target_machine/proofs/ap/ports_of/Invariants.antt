use Rattle.std.proofs.Common.{◌≡◌, map, take}
use Rattle.target_machine.specs.Start.{ap_entry}
use Rattle.target_machine.proofs.ap.ports_of.Given as goal

abbrev pub invariant-loop-job : goal.invariant-loop-job
invariant-loop-job l = l.aps.items ≡ map ap_entry (take l.job-index l.jobs)
