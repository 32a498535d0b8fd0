use Rattle.std.proofs.Common.{Err, Ok, arith}
use Rattle.std.proofs.lemmas.Result.{err_from_is_err_and}
use Rattle.report_lines.specs.Target.{listed_port_line}
use Rattle.report_lines.proofs.FrameLemmas.{views_on}
use Rattle.report_lines.proofs.RowLemmas.{began_same, below_cut, below_more, wrote_same}
use Rattle.report_lines.proofs.target.write_ports.Goals as goal

pub loop-number-preserved : goal.loop-number-preserved
loop-number-preserved g c = record {
  text = below_more (g.S.ShowsTarget.known c.args.shower.now).target _ _ _ (λ t. listed_port_line t c.args.aps.now) c.loop-number.number c.loop-number.invariant.text
      (wrote_same _ _ (λ t. listed_port_line t c.args.aps.now c.loop-number.number) _ _ c.loop-number.invariant.shows.keeps.target c.in_ok-write_port.ensures.puts.text);
  shows = views_on g.S.ShowsTarget.known g.K.Sink.written g.K.Sink.faults tt (Ok tt) _ _ _ _ _ _ c.loop-number.invariant.shows c.in_ok-write_port.ensures.puts.shows;
}

pub returns-in_err-write_port : goal.returns-in_err-write_port
returns-in_err-write_port g c =
    let passed = err_from_is_err_and c.from_residual.result c.from_residual.ensures.1 in
    rw (passed.1, passed.2) (record {
      puts = record {
        text = below_cut (g.S.ShowsTarget.known c.args.shower.now).target _ _ _ (λ t. listed_port_line t c.args.aps.now) c.loop-number.number 256 (omega arith) c.loop-number.invariant.text
            (began_same _ _ (λ t. listed_port_line t c.args.aps.now c.loop-number.number) _ _ c.loop-number.invariant.shows.keeps.target c.in_err-write_port.ensures.puts.text);
        shows = views_on g.S.ShowsTarget.known g.K.Sink.written g.K.Sink.faults tt (Err _) _ _ _ _ _ _ c.loop-number.invariant.shows c.in_err-write_port.ensures.puts.shows;
      };
    })
