use Rattle.std.proofs.lemmas.Result.{err_from_is_err_and}
use Rattle.report_lines.specs.declared.trace.Seen.TheVariants as seen
use Rattle.report_lines.proofs.FrameLemmas.{puts_err, puts_ok}
use Rattle.report_lines.proofs.trace.write_line.Goals as goal

pub returns-clause-ends : goal.returns-clause-ends
returns-clause-ends g c = puts_ok g.K.Sink.written g.K.Sink.faults tt seen.Kept _ _ (c.in_ok-put_line.ensures.puts _ c.entry_text-line.ensures).ends

pub returns-in_err-put_line-clause-ends : goal.returns-in_err-put_line-clause-ends
returns-in_err-put_line-clause-ends g c =
    let passed = err_from_is_err_and c.from_residual.result c.from_residual.ensures.1 in
    rw (passed.1, passed.2) (puts_err g.K.Sink.written g.K.Sink.faults _ _ _ (c.in_err-put_line.ensures.puts _ c.entry_text-line.ensures).ends)

pub returns-in_err-put_line-clause-text : goal.returns-in_err-put_line-clause-text
returns-in_err-put_line-clause-text g c =
    let passed = err_from_is_err_and c.from_residual.result c.from_residual.ensures.1 in
    rw passed.1 ((c.in_err-put_line.ensures.puts _ c.entry_text-line.ensures).text)
