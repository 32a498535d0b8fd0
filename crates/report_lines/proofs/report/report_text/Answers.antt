use Rattle.std.proofs.Common.{Ok, Err, refl}
use Rattle.std.proofs.lemmas.Result.{err_from_is_err_and}
use Rattle.report_lines.specs.Endings.{ending_lines, shows_target}
use Rattle.report_lines.specs.Report.{target_part}
use Rattle.report_lines.proofs.FrameLemmas.{bench_none, first_cut, first_on, shows_on, shows_puts}
use Rattle.report_lines.proofs.RowLemmas.{piece_after, piece_first}
use Rattle.report_lines.proofs.WatchLemmas.{watch_low}
use Rattle.report_lines.proofs.report.report_text.Goals as goal

pub write_shown-requires : goal.write_shown-requires
write_shown-requires g c = watch_low c.args.job.now.bench.target.memory c.args.job.now.watch c.requires.shown.bench.target.regions c.requires.shown.watch.each

pub returns-clause-front : goal.returns-clause-front
returns-clause-front g c = first_on _ _ _ _ (ending_lines c.args.ended.now.ending c.args.ended.now c.args.sent.now c.args.got.now) c.in_ok-write_ending.ensures.puts.text c.write_shown.ensures.puts.ends.some

pub returns-in_err-write_ending-clause-front : goal.returns-in_err-write_ending-clause-front
returns-in_err-write_ending-clause-front g c =
    let passed = err_from_is_err_and c.from_residual.result c.from_residual.ensures.1 in
    rw (passed.1, passed.2) (first_cut _ _ c.in_err-write_ending.field-0.0 (ending_lines c.args.ended.now.ending c.args.ended.now c.args.sent.now c.args.got.now) c.in_err-write_ending.ensures.puts.text)

pub returns-clause-puts : goal.returns-clause-puts
returns-clause-puts g c =
    let bench = g.B.Bench.reported c.args.bench.now in
    record {
      text = piece_after _ _ _ _ _ (ending_lines c.args.ended.now.ending c.args.ended.now c.args.sent.now c.args.got.now)
          (λ t. target_part (shows_target c.args.ended.now.ending) c.args.job.now t) c.in_ok-write_ending.ensures.puts.text (rw c.shows_target.ensures at c.write_shown.ensures.puts.text);
      keeps = c.write_shown.ensures.puts.keeps;
      ends = shows_on g.K.Sink.written g.K.Sink.faults tt c.write_shown.result bench bench _ _ _ _ (shows_puts g.K.Sink.written g.K.Sink.faults (Ok tt) bench bench _ _ refl c.in_ok-write_ending.ensures.puts.ends) c.write_shown.ensures.puts.ends;
    }

pub returns-in_err-write_ending-clause-puts : goal.returns-in_err-write_ending-clause-puts
returns-in_err-write_ending-clause-puts g c =
    let bench = g.B.Bench.reported c.args.bench.now in
    let passed = err_from_is_err_and c.from_residual.result c.from_residual.ensures.1 in
    rw (passed.1, passed.2) (record {
      text = piece_first _ _ _ (ending_lines c.args.ended.now.ending c.args.ended.now c.args.sent.now c.args.got.now)
          (λ t. target_part (shows_target c.args.ended.now.ending) c.args.job.now t) c.in_err-write_ending.ensures.puts.text;
      keeps = bench_none g.B.Bench.reported g.B.Bench.state g.B.Bench.identity _;
      ends = shows_puts g.K.Sink.written g.K.Sink.faults (Err c.in_err-write_ending.field-0.0) bench bench _ _ refl c.in_err-write_ending.ensures.puts.ends;
    })
