use Rattle.std.proofs.lemmas.Result.{err_from_is_err_and}
use Rattle.target_machine.specs.declared.image.ImageAsk.TheVariants as ask
use Rattle.report_lines.specs.Target.{ports_on, shown_line}
use Rattle.report_lines.proofs.RowLemmas.{part_first, parts_after, put_same}
use Rattle.report_lines.proofs.FrameLemmas.{views_on}
use Rattle.report_lines.proofs.target.write_target.Goals as goal

pub returns : goal.returns
returns g c = record {
  puts = record {
    text = parts_after _ _ _ _ _ (λ t. shown_line t ask.Dp) (λ t. ports_on t c.args.aps.now c.args.watch.now) c.in_ok-write_part.ensures.puts.text
        (put_same _ _ _ _ _ (λ t. ports_on t c.args.aps.now c.args.watch.now) c.in_ok-write_part.ensures.puts.shows.keeps.target c.write_ports_on.ensures.puts.text);
    shows = views_on g.S.ShowsTarget.known g.K.Sink.written g.K.Sink.faults tt c.write_ports_on.result _ _ _ _ _ _ c.in_ok-write_part.ensures.puts.shows c.write_ports_on.ensures.puts.shows;
  };
}

pub returns-in_err-write_part : goal.returns-in_err-write_part
returns-in_err-write_part g c =
    let passed = err_from_is_err_and c.from_residual.result c.from_residual.ensures.1 in
    rw (passed.1, passed.2) (record { puts = record { text = part_first _ _ _ (λ t. shown_line t ask.Dp) (λ t. ports_on t c.args.aps.now c.args.watch.now) c.in_err-write_part.ensures.puts.text; shows = c.in_err-write_part.ensures.puts.shows } })
