use Rattle.std.proofs.lemmas.Result.{err_from_is_err_and}
use Rattle.report_lines.specs.Endings.{count_lines, done_line}
use Rattle.report_lines.proofs.FrameLemmas.{lines_after, lines_first}
use Rattle.report_lines.proofs.head.write_done.Goals as goal

pub returns : goal.returns
returns g c = record { puts = lines_after _ _ _ _ _ _ (done_line) (count_lines c.args.ended.now) c.in_ok-put.ensures.puts c.write_counts.ensures.puts }

pub returns-in_err-put : goal.returns-in_err-put
returns-in_err-put g c =
    let passed = err_from_is_err_and c.from_residual.result c.from_residual.ensures.1 in
    rw (passed.1, passed.2) (record { puts = lines_first _ _ _ _ _ (done_line) (count_lines c.args.ended.now) c.in_err-put.ensures.puts })
