use Rattle.std.proofs.lemmas.Result.{err_from_is_err_and}
use Rattle.report_lines.specs.Closes.{loaded_line}
use Rattle.report_lines.specs.Endings.{ending_lines}
use Rattle.report_lines.proofs.FrameLemmas.{names_on}
use Rattle.job_runs.specs.Texts.{run_text}
use Rattle.job_runs.proofs.TextLemmas.{front_line, front_part, line_part, line_then, named_never}
use Rattle.job_runs.proofs.writing.write_loaded.Goals as goal

pub returns-clause-text : goal.returns-clause-text
returns-clause-text g c =
    line_then _ _ _ _ c.write_run.result (loaded_line c.args.bytes c.args.writes) (λ n. run_text c.args.is_traced c.args.ran.now.ended c.args.ran.now.sent c.args.ran.now.got c.args.job.now n)
    c.in_ok-loaded_text.ensures.puts.text c.write_run.ensures.text

pub returns-in_err-loaded_text-clause-text : goal.returns-in_err-loaded_text-clause-text
returns-in_err-loaded_text-clause-text g c =
    let passed = err_from_is_err_and c.from_residual.result c.from_residual.ensures.1 in
    rw passed.1 (line_part _ _ _ (loaded_line c.args.bytes c.args.writes) (λ n. run_text c.args.is_traced c.args.ran.now.ended c.args.ran.now.sent c.args.ran.now.got c.args.job.now n) c.in_err-loaded_text.ensures.puts.text)

pub returns-clause-front : goal.returns-clause-front
returns-clause-front g c =
    front_line _ _ _ c.write_run.result (loaded_line c.args.bytes c.args.writes) (ending_lines c.args.ran.now.ended.ending c.args.ran.now.ended c.args.ran.now.sent c.args.ran.now.got)
    c.in_ok-loaded_text.ensures.puts.text c.write_run.ensures.front

pub returns-in_err-loaded_text-clause-front : goal.returns-in_err-loaded_text-clause-front
returns-in_err-loaded_text-clause-front g c =
    let passed = err_from_is_err_and c.from_residual.result c.from_residual.ensures.1 in
    rw (passed.1, passed.2) (front_part _ _ _ (loaded_line c.args.bytes c.args.writes) (ending_lines c.args.ran.now.ended.ending c.args.ran.now.ended c.args.ran.now.sent c.args.ran.now.got) c.in_err-loaded_text.ensures.puts.text)

pub returns-clause-sink : goal.returns-clause-sink
returns-clause-sink g c = names_on _ _ c.write_run.result _ _ _ c.in_ok-loaded_text.ensures.puts.ends.sink c.write_run.ensures.sink

pub returns-in_err-loaded_text-clause-bench : goal.returns-in_err-loaded_text-clause-bench
returns-in_err-loaded_text-clause-bench g c =
    let passed = err_from_is_err_and c.from_residual.result c.from_residual.ensures.1 in
    rw (passed.1, passed.2) (named_never _ _ _ c.in_err-loaded_text.ensures.puts.ends.bench)
