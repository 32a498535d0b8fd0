use Rattle.std.proofs.Common.{◌≤◌, take}
use Rattle.probe_core.specs.Probe.{fresh_probe}
use Rattle.probe_core.specs.Runs.{IsRun}
use Rattle.trace_audit.specs.Audits.{entries_of}
use Rattle.trace_audit.proofs.auditing.exchange_all.Given as goal

abbrev pub invariant-loop-number : goal.invariant-loop-number
invariant-loop-number l = record {
  run : IsRun (fresh_probe l.job) (entries_of (take l.number l.entries)) l.probe;
  limits : l.probe.executor.limits.packet_size ≤ 1024;
}
