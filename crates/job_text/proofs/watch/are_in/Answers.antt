use Rattle.std.proofs.Common.{rules, ◌≡◌, ◌+◌, ◌-◌, ◌*◌, ◌≤◌, ◌∙◌, sym, arith}
use Rattle.job_text.proofs.WatchLemmas.{passed, all_words}
use Rattle.job_text.proofs.watch.are_in.Goals as goal

pub returns-then-left-count : goal.returns-then-left-count
returns-then-left-count c =
    let few : c.loop-left.left ≤ c.in-Some.count = search rules in
    sym (all_words c.args.regions.now c.in-Some.count c.loop-left.at c.loop-left.left c.in-Some.ensures.held few) ∙ c.loop-left.invariant.0

pub loop-left-preserved : goal.loop-left-preserved
loop-left-preserved c =
    let same : c.from.result ≡ c.in-Some.count = search rules in
    let there : c.loop-left.at + 4 * c.from.result ≡ c.loop-left.at + 4 * c.in-Some.count = omega (arith, same) in
    let sum : c.loop-left.left ≡ c.in-Some.count + (c.loop-left.left - c.in-Some.count) = omega arith in (
      sym (passed c.args.regions.now c.in-Some.count c.loop-left.at c.loop-left.left _ _ c.in-Some.ensures.held there sum) ∙ c.loop-left.invariant.0,
      omega (arith, same, c.loop-left.invariant.1),
    )
