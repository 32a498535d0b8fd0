use Rattle.std.proofs.lemmas.Result.{err_from_is_err_and}
use Rattle.report_lines.specs.Endings.{attempted_line, skipped_part}
use Rattle.report_lines.proofs.FrameLemmas.{lines_after, lines_first}
use Rattle.report_lines.proofs.head.write_attempted.Goals as goal

pub returns : goal.returns
returns g c = record { puts = lines_after _ _ _ _ _ _ (attempted_line c.args.report.now) (skipped_part c.args.skipped) (c.in_ok-put_line.ensures.puts _ c.attempted_text-line.ensures) c.write_skipped.ensures.puts }

pub returns-in_err-put_line : goal.returns-in_err-put_line
returns-in_err-put_line g c =
    let passed = err_from_is_err_and c.from_residual.result c.from_residual.ensures.1 in
    rw (passed.1, passed.2) (record { puts = lines_first _ _ _ _ _ (attempted_line c.args.report.now) (skipped_part c.args.skipped) (c.in_err-put_line.ensures.puts _ c.attempted_text-line.ensures) })
