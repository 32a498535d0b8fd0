use Rattle.std.proofs.Common.{Err, Ok, arith}
use Rattle.std.proofs.lemmas.Result.{err_from_is_err_and}
use Rattle.report_lines.proofs.FrameLemmas.{bench_on, shows_err, shows_ok, shows_on}
use Rattle.report_lines.proofs.TraceLemmas.{entries_end, entries_stop, entry_comes}
use Rattle.report_lines.proofs.trace.write_entries.Goals as goal

pub returns-in-None-clause-text : goal.returns-in-None-clause-text
returns-in-None-clause-text g c =
    entries_end _ _ c.loop-index.index c.loop-index.kept _ _ _ c.loop-index.invariant.keeps.same.state c.loop-index.invariant.come
    (rw c.in-None.is at c.in_ok-next.ensures.text)

pub returns-in-None-clause-ends : goal.returns-in-None-clause-ends
returns-in-None-clause-ends g c =
    shows_on g.K.Sink.written g.K.Sink.faults tt (Ok (c.loop-index.kept, c.loop-index.index)) _ _ _ _ _ _ c.loop-index.invariant.ends (shows_ok g.K.Sink.written g.K.Sink.faults _ (c.loop-index.kept, c.loop-index.index) _ _ _ _ c.in_ok-next.ensures.ends)

pub returns-in_err-next-clause-ends : goal.returns-in_err-next-clause-ends
returns-in_err-next-clause-ends g c =
    let passed = err_from_is_err_and c.from_residual.result c.from_residual.ensures.1 in
    rw (passed.1, passed.2) (shows_on g.K.Sink.written g.K.Sink.faults tt (Err _) _ _ _ _ _ _ c.loop-index.invariant.ends (shows_err g.K.Sink.written g.K.Sink.faults _ _ _ _ _ c.in_err-next.ensures.ends))

pub returns-in_err-next-clause-text : goal.returns-in_err-next-clause-text
returns-in_err-next-clause-text g c =
    let passed = err_from_is_err_and c.from_residual.result c.from_residual.ensures.1 in
    rw passed.1 (entries_stop _ _ c.loop-index.index c.loop-index.kept _ _ _ _ c.loop-index.invariant.keeps.same.state c.loop-index.invariant.come c.in_err-next.ensures.text)

pub loop-index-preserved : goal.loop-index-preserved
loop-index-preserved g c = record {
  come = entry_comes _ _ c.loop-index.index c.loop-index.kept c.in-Some.next _ _ _ c.loop-index.invariant.keeps.same.state c.loop-index.invariant.come
      (rw c.in-Some.is at c.in_ok-next.ensures.text);
  few = let more = rw c.in-Some.is at c.in_ok-next.ensures.few in let few = c.loop-index.invariant.few in omega (arith, more, few);
  keeps = bench_on g.B.Bench.reported g.B.Bench.state g.B.Bench.identity _ _ _ c.loop-index.invariant.keeps c.in_ok-next.ensures.keeps;
  ends = shows_on g.K.Sink.written g.K.Sink.faults tt (Ok tt) _ _ _ _ _ _ c.loop-index.invariant.ends (shows_ok g.K.Sink.written g.K.Sink.faults _ tt _ _ _ _ c.in_ok-next.ensures.ends);
}
