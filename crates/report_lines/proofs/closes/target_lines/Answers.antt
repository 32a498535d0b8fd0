use Rattle.report_lines.proofs.WatchLemmas.{watch_low}
use Rattle.report_lines.proofs.closes.target_lines.Goals as goal

pub write_target-requires : goal.write_target-requires
write_target-requires g c =
    rw c.as_slice-2.ensures (watch_low c.args.job.now.bench.target.memory c.args.job.now.watch c.requires.shown.bench.target.regions c.requires.shown.watch.each)
