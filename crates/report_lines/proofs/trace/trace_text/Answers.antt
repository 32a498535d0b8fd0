use Rattle.report_lines.proofs.TraceLemmas.{trace_cut, trace_put}
use Rattle.std.proofs.Common.{refl}
use Rattle.std.proofs.lemmas.Result.{err_from_is_err_and}
use Rattle.report_lines.proofs.FrameLemmas.{shows_err, shows_on, shows_puts}
use Rattle.report_lines.proofs.trace.trace_text.Goals as goal

pub returns : goal.returns
returns g c =
    let bench = g.B.Bench.reported c.write_entries.new.bench in
    let last = c.put_line.ensures.puts _ c.kept_text.ensures in
    record {
      puts = record {
        text = trace_put _ c.in_ok-kept.kept c.in_ok-kept.count _ _ _ _ (g.met.B.Bench.counts c.args.bench.now) c.in_ok-kept.ensures.text last.text;
        keeps = c.in_ok-kept.ensures.keeps;
        ends = shows_on g.K.Sink.written g.K.Sink.faults (c.in_ok-kept.kept, c.in_ok-kept.count) c.put_line.result _ bench bench _ _ _ c.in_ok-kept.ensures.ends
            (shows_puts g.K.Sink.written g.K.Sink.faults c.put_line.result bench bench _ _ refl last.ends);
      };
    }

pub returns-in_err-kept : goal.returns-in_err-kept
returns-in_err-kept g c =
    let passed = err_from_is_err_and c.from_residual.result c.from_residual.ensures.1 in
    rw (passed.1, passed.2) (record {
      puts = record {
        text = trace_cut _ _ _ c.in_err-kept.field-0.0 (g.met.B.Bench.counts c.args.bench.now) c.in_err-kept.ensures.text;
        keeps = c.in_err-kept.ensures.keeps;
        ends = shows_err g.K.Sink.written g.K.Sink.faults _ _ _ _ _ c.in_err-kept.ensures.ends;
      };
    })
