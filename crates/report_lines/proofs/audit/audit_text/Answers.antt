use Rattle.std.proofs.lemmas.Result.{err_from_is_err_and}
use Rattle.report_lines.specs.Audit.{audit_ok_line}
use Rattle.report_lines.specs.Target.{target_lines}
use Rattle.probe_core.specs.Probe.{target_of}
use Rattle.report_lines.proofs.WatchLemmas.{watch_low}
use Rattle.report_lines.proofs.FrameLemmas.{lines_after, lines_first}
use Rattle.report_lines.proofs.audit.audit_text.Goals as goal

pub target_text-requires : goal.target_text-requires
target_text-requires g c = watch_low c.args.job.now.bench.target.memory c.args.job.now.watch c.requires.bench.target.regions c.requires.watch.each

pub returns : goal.returns
returns g c = record {
  puts = lines_after _ _ _ _ _ _ (audit_ok_line c.args.audited.now) (target_lines (target_of c.args.audited.now.probe) c.args.job.now.bench.target.aps c.args.job.now.watch) (c.in_ok-put_line.ensures.puts _ c.audit_ok_text.ensures)
      (rw c.target.ensures at c.target_text.ensures.puts);
}

pub returns-in_err-put_line : goal.returns-in_err-put_line
returns-in_err-put_line g c =
    let passed = err_from_is_err_and c.from_residual.result c.from_residual.ensures.1 in
    rw (passed.1, passed.2) (record { puts = lines_first _ _ _ _ _ (audit_ok_line c.args.audited.now) (target_lines (target_of c.args.audited.now.probe) c.args.job.now.bench.target.aps c.args.job.now.watch) (c.in_err-put_line.ensures.puts _ c.audit_ok_text.ensures) })
