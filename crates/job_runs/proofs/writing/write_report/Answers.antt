use Rattle.std.specs.Prelude.{◌&&◌}
use Rattle.std.proofs.lemmas.Result.{err_from_is_err_and}
use Rattle.probe_core.specs.Probe.{target_of}
use Rattle.report_lines.specs.Endings.{ending_lines, shows_target}
use Rattle.report_lines.specs.Report.{report}
use Rattle.report_lines.proofs.FrameLemmas.{shows_on}
use Rattle.job_runs.specs.Texts.{trace_part}
use Rattle.job_runs.proofs.TextLemmas.{first_part, front_then, then_put}
use Rattle.job_runs.proofs.writing.write_report.Goals as goal

pub returns-clause-text : goal.returns-clause-text
returns-clause-text g c =
    then_put _ _ _ _ _ _ (λ m. report c.args.ran.now.ended c.args.ran.now.sent c.args.ran.now.got c.args.job.now (target_of m.probe))
    (λ m. trace_part (c.args.is_traced && shows_target c.args.ran.now.ended.ending) m.log) c.report_text.ensures.puts.keeps.same.state
    (rw (c.as_slice-sent.ensures, c.as_slice-got.ensures) at c.in_ok-report_text.ensures.puts.text) (rw c.shows_trace-is_shown.ensures at c.write_trace.ensures.text)

pub returns-in_err-report_text-clause-text : goal.returns-in_err-report_text-clause-text
returns-in_err-report_text-clause-text g c =
    let passed = err_from_is_err_and c.from_residual.result c.from_residual.ensures.1 in
    rw passed.1 (first_part _ _ _ (λ m. report c.args.ran.now.ended c.args.ran.now.sent c.args.ran.now.got c.args.job.now (target_of m.probe))
    (λ m. trace_part (c.args.is_traced && shows_target c.args.ran.now.ended.ending) m.log)
    (rw (c.as_slice-sent.ensures, c.as_slice-got.ensures) at c.in_err-report_text.ensures.puts.text))

pub returns-clause-front : goal.returns-clause-front
returns-clause-front g c =
    front_then _ _ _ _ (ending_lines c.args.ran.now.ended.ending c.args.ran.now.ended c.args.ran.now.sent c.args.ran.now.got)
    (rw (c.as_slice-sent.ensures, c.as_slice-got.ensures) at c.in_ok-report_text.ensures.front) c.write_trace.ensures.ends.some

pub returns-clause-ends : goal.returns-clause-ends
returns-clause-ends g c = shows_on g.K.Sink.written g.K.Sink.faults tt c.write_trace.result _ _ _ _ _ _ c.in_ok-report_text.ensures.puts.ends c.write_trace.ensures.ends

pub returns-in_err-report_text-clause-front : goal.returns-in_err-report_text-clause-front
returns-in_err-report_text-clause-front g c =
    let passed = err_from_is_err_and c.from_residual.result c.from_residual.ensures.1 in
    rw (passed.1, passed.2) (rw (c.as_slice-sent.ensures, c.as_slice-got.ensures) at c.in_err-report_text.ensures.front)
