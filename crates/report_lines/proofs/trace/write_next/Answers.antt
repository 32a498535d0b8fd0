use Rattle.std.proofs.Common.{◌+◌, None, Some}
use Rattle.std.proofs.lemmas.Result.{err_from_is_err_and}
use Rattle.report_lines.proofs.FrameLemmas.{shows_err, shows_ok}
use Rattle.report_lines.proofs.trace.write_next.Goals as goal

pub returns-in-Kept-clause-ends : goal.returns-in-Kept-clause-ends
returns-in-Kept-clause-ends g c = shows_ok g.K.Sink.written g.K.Sink.faults _ (Some (c.args.kept + 1)) _ _ _ _ c.in_ok-write_entry.ensures.ends

pub returns-in-NotKept-clause-ends : goal.returns-in-NotKept-clause-ends
returns-in-NotKept-clause-ends g c = shows_ok g.K.Sink.written g.K.Sink.faults _ (Some c.args.kept) _ _ _ _ c.in_ok-write_entry.ensures.ends

pub returns-in-Past-clause-ends : goal.returns-in-Past-clause-ends
returns-in-Past-clause-ends g c = shows_ok g.K.Sink.written g.K.Sink.faults _ None _ _ _ _ c.in_ok-write_entry.ensures.ends

pub returns-in_err-write_entry-clause-ends : goal.returns-in_err-write_entry-clause-ends
returns-in_err-write_entry-clause-ends g c =
    let passed = err_from_is_err_and c.from_residual.result c.from_residual.ensures.1 in
    rw (passed.1, passed.2) (shows_err g.K.Sink.written g.K.Sink.faults _ _ _ _ _ c.in_err-write_entry.ensures.ends)
