use Rattle.std.proofs.Common.{rules, inr, ◌+◌, refl, arith}
use Rattle.std.proofs.lemmas.Result.{err_from_is_err_and}
use Rattle.bench_flights.proofs.DelayLemmas.{delay_begins, delay_left, delay_lefts, delay_mades, delay_next, goes_self, goes_then}
use Rattle.target_machine.specs.InRange.{IsInRange}
use Rattle.probe_core.specs.Probe.{target_of}
use Rattle.bench_flights.proofs.PacketLemmas.{delay_few, delays_few, few_begins}
use Rattle.bench_flights.proofs.wire.Wire.delay.Goals as goal

pub loop-left-init : goal.loop-left-init
loop-left-init g c = record {
  count = 0;
  is = omega arith;
  some = λ no. absurd (omega (arith, no));
  usable = c.requires.free.usable;
  empty = c.requires.free.empty;
  on = delay_begins _;
  packets = few_begins (λ m. IsInRange (target_of m.probe)) _;
  limits = search rules;
  goes = goes_self _ _;
  faults = search rules;
  identity = search rules;
}

pub loop-left-preserved : goal.loop-left-preserved
loop-left-preserved g c =
    let i = c.loop-left.invariant in
    record {
      count = i.count + 1;
      is = (let e = i.is in let b = c.loop-left-test.true in omega (arith, e, b));
      some = λ no. (let b = c.loop-left-test.true in omega (arith, b));
      usable = c.in_ok-command_once.ensures.keeps.on.ended;
      empty = c.command_once.ensures.keeps.on.empty;
      on = delay_next _ _ _ i.count c.in_ok-command_once.field-0 i.on c.in_ok-command_once.ensures.done;
      packets = delay_few _ _ _ i.count i.on i.packets c.in_ok-command_once.ensures.packets;
      limits = search rules;
      goes = goes_then _ _ _ _ _ _ i.goes c.command_once.ensures.keeps.on.goes;
      faults = search rules;
      identity = search rules;
    }

pub returns-in_err-command_once-clause-left : goal.returns-in_err-command_once-clause-left
returns-in_err-command_once-clause-left g c =
    let i = c.loop-left.invariant in
    let p = err_from_is_err_and c.from_residual.result c.from_residual.ensures.1 in
    rw (p.1, p.2) (delay_left _ _ _ i.count 65535 c.args.micros c.in_err-command_once.field-0.0 (omega arith) (λ no. omega arith) (inr (refl, (let e = i.is in let b = c.loop-left-test.true in omega (arith, e, b)))) i.on c.in_err-command_once.ensures.left)

pub returns-clause-done : goal.returns-clause-done
returns-clause-done g c =
    let i = c.loop-left.invariant in
    delay_mades _ _ _ i.count c.loop-left.left c.args.micros c.command_once-2.result (let b = c.loop-left-test.false in omega (arith, b)) i.some i.is i.on c.command_once-2.ensures.done

pub returns-clause-left : goal.returns-clause-left
returns-clause-left g c =
    let i = c.loop-left.invariant in
    delay_lefts _ _ _ i.count c.loop-left.left c.args.micros c.command_once-2.result (let b = c.loop-left-test.false in omega (arith, b)) i.some i.is i.on c.command_once-2.ensures.left

pub returns-clause-packets : goal.returns-clause-packets
returns-clause-packets g c =
    let i = c.loop-left.invariant in
    delays_few _ _ _ i.count c.loop-left.left c.args.micros c.command_once-2.result (let b = c.loop-left-test.false in omega (arith, b)) i.is i.on i.packets c.command_once-2.ensures.packets
