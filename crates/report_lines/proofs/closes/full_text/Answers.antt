use Rattle.std.proofs.Common.{Ok, Err, refl}
use Rattle.std.proofs.lemmas.Result.{err_from_is_err_and}
use Rattle.report_lines.specs.Closes.{full_line}
use Rattle.report_lines.specs.Target.{target_lines}
use Rattle.report_lines.proofs.FrameLemmas.{bench_none, first_cut, first_on, shows_on, shows_puts}
use Rattle.report_lines.proofs.RowLemmas.{piece_after, piece_first}
use Rattle.report_lines.proofs.closes.full_text.Goals as goal

pub returns-clause-front : goal.returns-clause-front
returns-clause-front g c = first_on _ _ _ c.target_lines.result (full_line) c.in_ok-put.ensures.puts.text c.target_lines.ensures.puts.ends.some

pub returns-in_err-put-clause-front : goal.returns-in_err-put-clause-front
returns-in_err-put-clause-front g c =
    let passed = err_from_is_err_and c.from_residual.result c.from_residual.ensures.1 in
    rw (passed.1, passed.2) (first_cut _ _ c.in_err-put.field-0.0 (full_line) c.in_err-put.ensures.puts.text)

pub returns-clause-puts : goal.returns-clause-puts
returns-clause-puts g c =
    let bench = g.B.Bench.reported c.args.bench.now in
    record {
      text = piece_after _ _ _ _ _ (full_line) (λ t. target_lines t c.args.job.now.bench.target.aps c.args.job.now.watch) c.in_ok-put.ensures.puts.text c.target_lines.ensures.puts.text;
      keeps = c.target_lines.ensures.puts.keeps;
      ends = shows_on g.K.Sink.written g.K.Sink.faults tt c.target_lines.result bench bench _ _ _ _ (shows_puts g.K.Sink.written g.K.Sink.faults (Ok tt) bench bench _ _ refl c.in_ok-put.ensures.puts.ends) c.target_lines.ensures.puts.ends;
    }

pub returns-in_err-put-clause-puts : goal.returns-in_err-put-clause-puts
returns-in_err-put-clause-puts g c =
    let bench = g.B.Bench.reported c.args.bench.now in
    let passed = err_from_is_err_and c.from_residual.result c.from_residual.ensures.1 in
    rw (passed.1, passed.2) (record {
      text = piece_first _ _ _ (full_line) (λ t. target_lines t c.args.job.now.bench.target.aps c.args.job.now.watch) c.in_err-put.ensures.puts.text;
      keeps = bench_none g.B.Bench.reported g.B.Bench.state g.B.Bench.identity _;
      ends = shows_puts g.K.Sink.written g.K.Sink.faults (Err c.in_err-put.field-0.0) bench bench _ _ refl c.in_err-put.ensures.puts.ends;
    })
