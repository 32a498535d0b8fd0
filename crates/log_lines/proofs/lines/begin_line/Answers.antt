use Rattle.log_lines.proofs.LineLemmas.{margin_all, margin_more, margin_none}
use Rattle.log_lines.proofs.lines.begin_line.Goals as goal

pub loop-init : goal.loop-init
loop-init c = margin_none c.in_ok-line.line c.in_ok-line.ensures

pub loop-preserved : goal.loop-preserved
loop-preserved c = margin_more c.loop.line c.in_ok-line-2.line c.loop.counter c.loop.invariant c.in_ok-line-2.ensures

pub returns : goal.returns
returns c = margin_all c.loop.line c.loop.counter c.args.depth c.loop.invariant c.loop.auto.counter-end c.loop-test.false
