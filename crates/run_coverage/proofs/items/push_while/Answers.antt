use Rattle.std.proofs.lemmas.Result.{on_ok_weaker}
use Rattle.run_coverage.proofs.ItemLemmas.{with_while}
use Rattle.run_coverage.proofs.items.push_while.Goals as goal

pub returns : goal.returns
returns c =
    on_ok_weaker c.push_ways.result
    (λ h. with_while c.args.sequence.now c.args.path.now c.args.repeat.now c.is_none.result c.args.items.now c.push_ways.new.items c.in_ok-left.left c.in_ok-timed_out.timed_out
    c.is_none.ensures c.if-is_none.false c.in_ok-left.ensures c.in_ok-timed_out.ensures h)
    c.push_ways.ensures
