use Rattle.std.proofs.lemmas.Result.{err_from_is_err_and}
use Rattle.report_lines.specs.Endings.{skipped_part, variable_lines}
use Rattle.report_lines.proofs.FrameLemmas.{lines_after, lines_first}
use Rattle.report_lines.proofs.head.write_values.Goals as goal

pub returns : goal.returns
returns g c = record { puts = lines_after _ _ _ _ _ _ (skipped_part c.args.ended.now.skipped) (variable_lines c.args.ended.now.variables) c.in_ok-write_skipped.ensures.puts (rw c.as_slice.ensures at c.write_variables.ensures.puts) }

pub returns-in_err-write_skipped : goal.returns-in_err-write_skipped
returns-in_err-write_skipped g c =
    let passed = err_from_is_err_and c.from_residual.result c.from_residual.ensures.1 in
    rw (passed.1, passed.2) (record { puts = lines_first _ _ _ _ _ (skipped_part c.args.ended.now.skipped) (variable_lines c.args.ended.now.variables) c.in_err-write_skipped.ensures.puts })
