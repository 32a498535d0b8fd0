use Rattle.std.proofs.Common.{◌∙◌, Bool, Result, Err, sym}
use Rattle.trace_compare.specs.declared.compare.CompareEnd.{CompareEnd}
use Rattle.trace_compare.specs.declared.compare.CompareEnd.TheVariants as end
use Rattle.trace_compare.proofs.PairLemmas.{alike_on, difference_part, difference_put, nothing_put}
use Rattle.trace_compare.proofs.compare.put_difference.Goals as goal

pub returns-in_err-two-clause-part : goal.returns-in_err-two-clause-part
returns-in_err-two-clause-part g c = λ a b is other. nothing_put _ _ _ _ c.loop.invariant.unwritten

pub returns-in-None-clause-text : goal.returns-in-None-clause-text
returns-in-None-clause-text g c =
    difference_put _ _ _ _ _ _ _ _ _ _ _ _ _ c.in_ok-two.two c.put_two.result c.loop.invariant.ahead c.in_ok-two.ensures.next (sym c.in-None.ensures) c.loop.invariant.unwritten c.put_two.ensures.text c.put_two.ensures.end

pub returns-in-None-clause-part : goal.returns-in-None-clause-part
returns-in-None-clause-part g c = λ a b is other.
    difference_part _ _ _ _ _ _ _ _ _ _ _ _ _ c.in_ok-two.two c.put_two.result c.loop.invariant.ahead c.in_ok-two.ensures.next (sym c.in-None.ensures) c.loop.invariant.unwritten c.put_two.ensures.part a b is other

pub loop-preserved : goal.loop-preserved
loop-preserved g c = record {
  ahead = alike_on _ _ _ _ _ _ _ _ _ _ _ c.in_ok-two.two c.loop.invariant.ahead c.in_ok-two.ensures.next (sym c.in-Some.ensures);
  unwritten = c.loop.invariant.unwritten;
  sink_quiet = c.loop.invariant.sink_quiet;
  source_quiet = c.in_ok-two.ensures.faults.source.else ∙ c.loop.invariant.source_quiet;
  against_quiet = c.in_ok-two.ensures.faults.against.else ∙ c.loop.invariant.against_quiet;
}

abbrev failed : Result Bool CompareEnd
failed = Err end.OutOfMemory

pub returns-clause-part : goal.returns-clause-part
returns-clause-part g c = λ a b is other. nothing_put failed _ _ _ c.loop.invariant.unwritten
