use Rattle.std.proofs.Common.{ap, arith}
use Rattle.probe_core.specs.Probe.{fresh_probe}
use Rattle.probe_core.specs.declared.job.Limits.{Limits}
use Rattle.trace_audit.proofs.RunLemmas.{goes_on, stops}
use Rattle.trace_audit.proofs.auditing.exchange_all.Goals as goal

pub loop-number-preserved : goal.loop-number-preserved
loop-number-preserved c = record {
  run = goes_on (fresh_probe c.args.job.now) c.loop-number.probe c.exchange.new.probe c.args.entries.now c.loop-number.number c.index-entries-number.result c.loop-number-test.true c.index-entries-number.is c.loop-number.invariant.run c.in-Ok.ensures.ok;
  limits = omega (arith, ap (λ (l : Limits). l.packet_size) c.exchange.ensures.limits, c.loop-number.invariant.limits);
}

pub returns-in-Err-clause-wrong : goal.returns-in-Err-clause-wrong
returns-in-Err-clause-wrong c = stops (fresh_probe c.args.job.now) c.loop-number.probe c.args.entries.now c.loop-number.number c.index-entries-number.result c.in-Err.wrong c.fault_at.result c.loop-number-test.true c.index-entries-number.is c.loop-number.invariant.run c.in-Err.ensures.wrong c.fault_at.ensures
