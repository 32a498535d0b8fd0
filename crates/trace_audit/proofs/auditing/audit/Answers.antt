use Rattle.std.proofs.Common.{List, subst}
use Rattle.probe_core.specs.Probe.{fresh_probe}
use Rattle.trace_audit.specs.declared.entry.Entry as trace
use Rattle.trace_audit.specs.Audits.{Audits, entries_of}
use Rattle.trace_audit.proofs.RunLemmas.{accepts}
use Rattle.trace_audit.proofs.auditing.audit.Goals as goal

pub returns-clause-only : goal.returns-clause-only
returns-clause-only c = λ last run.
    let h : Audits (fresh_probe c.args.job.now) (entries_of c.args.entries.now) c.answer_of.result = subst (λ (l : List trace.Entry). Audits (fresh_probe c.args.job.now) (entries_of l) c.answer_of.result) c.as_slice.ensures c.answer_of.ensures in
    accepts (fresh_probe c.args.job.now) last (entries_of c.args.entries.now) c.answer_of.result h run
