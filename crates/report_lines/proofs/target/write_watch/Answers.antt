use Rattle.std.proofs.Common.{Err, Ok, get_or}
use Rattle.std.proofs.lemmas.Result.{err_from_is_err_and}
use Rattle.job_text.specs.declared.job.WatchItem.{WatchItem}
use Rattle.report_lines.specs.Target.{word_lines}
use Rattle.report_lines.proofs.FrameLemmas.{views_on}
use Rattle.report_lines.proofs.RowLemmas.{began_same, rows_cut, rows_more, wrote_same}
use Rattle.text_lines.proofs.RowLemmas.{slice_get-in}
use Rattle.report_lines.proofs.target.write_watch.Goals as goal

pub loop-item-preserved : goal.loop-item-preserved
loop-item-preserved g c =
    let item : WatchItem = get_or c.args.watch.now c.loop-item.item-index (record { address = 0; words = 0 }) in record {
      text = rows_more (g.S.ShowsTarget.known c.args.shower.now).target _ _ _ (λ t item. word_lines t item.address item.words) c.args.watch.now c.loop-item.item-index item (slice_get-in c.args.watch.now c.loop-item.item-index _ c.loop-item-test.true) c.loop-item.invariant.text
          (wrote_same _ _ (λ t. word_lines t item.address item.words) _ _ c.loop-item.invariant.shows.keeps.target c.in_ok-write_words.ensures.puts.text);
      shows = views_on g.S.ShowsTarget.known g.K.Sink.written g.K.Sink.faults tt (Ok tt) _ _ _ _ _ _ c.loop-item.invariant.shows c.in_ok-write_words.ensures.puts.shows;
    }

pub returns-in_err-write_words : goal.returns-in_err-write_words
returns-in_err-write_words g c =
    let item : WatchItem = get_or c.args.watch.now c.loop-item.item-index (record { address = 0; words = 0 }) in
    let passed = err_from_is_err_and c.from_residual.result c.from_residual.ensures.1 in
    rw (passed.1, passed.2) (record {
      puts = record {
        text = rows_cut (g.S.ShowsTarget.known c.args.shower.now).target _ _ _ (λ t item. word_lines t item.address item.words) c.args.watch.now c.loop-item.item-index item (slice_get-in c.args.watch.now c.loop-item.item-index _ c.loop-item-test.true) c.loop-item.invariant.text
            (began_same _ _ (λ t. word_lines t item.address item.words) _ _ c.loop-item.invariant.shows.keeps.target c.in_err-write_words.ensures.puts.text);
        shows = views_on g.S.ShowsTarget.known g.K.Sink.written g.K.Sink.faults tt (Err _) _ _ _ _ _ _ c.loop-item.invariant.shows c.in_err-write_words.ensures.puts.shows;
      };
    })
