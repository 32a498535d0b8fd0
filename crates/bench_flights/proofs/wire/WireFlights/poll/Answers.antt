use Rattle.std.proofs.Common.{rules, ◌+◌, ◌-◌, ◌≤◌, true, false, arith}
use Rattle.std.proofs.lemmas.Result.{err_from_is_err_and}
use Rattle.bench_flights.proofs.DelayLemmas.{goes_self, goes_then}
use Rattle.bench_flights.proofs.LookLemmas.{poll_begins, poll_left, poll_matches, poll_next, poll_used, word_for}
use Rattle.access_regs.specs.Costs.{portions}
use Rattle.bench_flights.proofs.PacketLemmas.{portions_begin, portions_most, portions_next}
use Rattle.bench_flights.proofs.wire.WireFlights.poll.Goals as goal

pub loop-left-init : goal.loop-left-init
loop-left-init g c = record {
  made = 0;
  is = omega arith;
  usable = c.requires.usable;
  empty = c.requires.empty;
  on = poll_begins _ c.args.config.idle c.args.config.retry _ _;
  count = 0;
  count_is = omega arith;
  full = λ some. omega arith;
  packets = portions_begin c.args.config.idle c.args.config.retry _;
  limits = search rules;
  goes = goes_self _ _;
  faults = search rules;
  identity = search rules;
}

pub loop-left-preserved : goal.loop-left-preserved
loop-left-preserved g c =
    let i = c.loop-left.invariant in
    let few : c.min-now.result ≤ c.loop-left.left = (let m = c.min-now.ensures in omega (arith, m)) in
    record {
      made = i.made + c.min-now.result;
      is = (let e = i.is in omega (arith, e, few));
      usable = c.in_ok-poll_portion.ensures.keeps.on.ended;
      empty = c.poll_portion.ensures.keeps.on.empty;
      on = poll_next _ _ _ c.args.config.idle c.args.config.retry c.args.mask c.args.requested i.made c.min-now.result 0 i.on (word_for _ _ c.args.config.idle c.args.config.retry c.args.mask c.args.requested c.min-now.result c.in_ok-poll_portion.field-0 false c.if-branch.false c.in_ok-poll_portion.ensures.done);
      count = i.count + 1;
      count_is = (let f = i.full c.loop-left-test.true in let n = c.min-now.ensures in let t = c.loop-left-test.true in omega (arith, f, n, t));
      full = λ some. (let f = i.full c.loop-left-test.true in let n = c.min-now.ensures in omega (arith, f, n, some));
      packets = portions_next _ _ _ c.args.config.idle c.args.config.retry c.args.mask c.args.requested i.made i.count i.on i.packets c.in_ok-poll_portion.ensures.packets;
      limits = search rules;
      goes = goes_then _ _ _ _ _ _ i.goes c.poll_portion.ensures.keeps.on.goes;
      faults = search rules;
      identity = search rules;
    }

pub returns-then-branch-clause-done : goal.returns-then-branch-clause-done
returns-then-branch-clause-done g c =
    let i = c.loop-left.invariant in
    let few : c.min-now.result ≤ c.loop-left.left = (let m = c.min-now.ensures in omega (arith, m)) in
    poll_matches _ _ c.args.config.idle c.args.config.retry c.args.mask c.args.requested (i.made + c.min-now.result) (c.loop-left.left - c.min-now.result) c.args.turns (let e = i.is in omega (arith, e, few))
    (poll_next _ _ _ c.args.config.idle c.args.config.retry c.args.mask c.args.requested i.made c.min-now.result 1 i.on (word_for _ _ c.args.config.idle c.args.config.retry c.args.mask c.args.requested c.min-now.result c.in_ok-poll_portion.field-0 true c.if-branch.true c.in_ok-poll_portion.ensures.done))

pub returns-in_err-poll_portion-clause-left : goal.returns-in_err-poll_portion-clause-left
returns-in_err-poll_portion-clause-left g c =
    let i = c.loop-left.invariant in
    let p = err_from_is_err_and c.from_residual.result c.from_residual.ensures.1 in
    rw (p.1, p.2) (poll_left _ _ _ c.args.config.idle c.args.config.retry c.args.mask c.args.requested i.made c.min-now.result c.args.turns c.in_err-poll_portion.field-0.0
    (let m = c.min-now.ensures in let t = c.loop-left-test.true in omega (arith, m, t)) (let m = c.min-now.ensures in let e = i.is in omega (arith, m, e)) i.on c.in_err-poll_portion.ensures.left)

pub returns-clause-done : goal.returns-clause-done
returns-clause-done g c =
    let i = c.loop-left.invariant in
    poll_used _ _ c.args.config.idle c.args.config.retry c.args.mask c.args.requested i.made c.args.turns (let e = i.is in let t = c.loop-left-test.false in omega (arith, e, t)) i.on

pub returns-then-branch-clause-packets : goal.returns-then-branch-clause-packets
returns-then-branch-clause-packets g c =
    let i = c.loop-left.invariant in
    portions_most c.args.config.idle c.args.config.retry _ _ (i.count + 1) (portions c.args.turns) (let f = i.full c.loop-left-test.true in let n = c.min-now.ensures in let t = c.loop-left-test.true in let e = i.is in omega (arith, f, n, t, e))
    (portions_next _ _ _ c.args.config.idle c.args.config.retry c.args.mask c.args.requested i.made i.count i.on i.packets c.in_ok-poll_portion.ensures.packets)

pub returns-clause-packets : goal.returns-clause-packets
returns-clause-packets g c =
    let i = c.loop-left.invariant in
    portions_most c.args.config.idle c.args.config.retry _ _ i.count (portions c.args.turns) (let k = i.count_is in let e = i.is in omega (arith, k, e)) i.packets
