use Rattle.std.proofs.lemmas.Result.{err_from_is_err_and}
use Rattle.report_lines.specs.Target.{outside_lines, port_lines}
use Rattle.report_lines.proofs.RowLemmas.{part_first, parts_after, put_same}
use Rattle.report_lines.proofs.FrameLemmas.{views_on}
use Rattle.report_lines.proofs.target.write_ports_on.Goals as goal

pub returns : goal.returns
returns g c = record {
  puts = record {
    text = parts_after _ _ _ _ _ (λ t. port_lines t c.args.aps.now) (λ t. outside_lines t c.args.watch.now) c.in_ok-write_ports.ensures.puts.text
        (put_same _ _ _ _ _ (λ t. outside_lines t c.args.watch.now) c.in_ok-write_ports.ensures.puts.shows.keeps.target c.write_outside.ensures.puts.text);
    shows = views_on g.S.ShowsTarget.known g.K.Sink.written g.K.Sink.faults tt c.write_outside.result _ _ _ _ _ _ c.in_ok-write_ports.ensures.puts.shows c.write_outside.ensures.puts.shows;
  };
}

pub returns-in_err-write_ports : goal.returns-in_err-write_ports
returns-in_err-write_ports g c =
    let passed = err_from_is_err_and c.from_residual.result c.from_residual.ensures.1 in
    rw (passed.1, passed.2) (record { puts = record { text = part_first _ _ _ (λ t. port_lines t c.args.aps.now) (λ t. outside_lines t c.args.watch.now) c.in_err-write_ports.ensures.puts.text; shows = c.in_err-write_ports.ensures.puts.shows } })
