use Rattle.std.proofs.Common.{◌-◌, refl, arith}
use Rattle.set_lines.proofs.LineLemmas.{rest_later}
use Rattle.set_lines.proofs.lines.start_after.Goals as goal

pub returns : goal.returns
returns c = λ set is. record {
  place = refl;
  rest =
      rest_later set c.args.last.spot.now c.args.spot.now (c.feeds_before.result - c.feeds_before-2.result) c.args.last.rest.now c.rest_after.result.now c.requires is.rest
      (omega (arith, c.feeds_before.ensures, c.feeds_before-2.ensures)) c.rest_after.ensures;
  sequences = is.sequences;
}
