use Rattle.std.proofs.Common.{rules, ◌≡◌, ℕ, ◌+◌, subst, arith}
use Rattle.std.proofs.lemmas.Result.{err_from_is_err_and}
use Rattle.probe_core.specs.Bench.{StepsTo}
use Rattle.batch_packer.specs.Flying.{CanFly}
use Rattle.bench_flights.specs.Wires.{HasLooked}
use Rattle.bench_flights.proofs.DelayLemmas.{goes_self, goes_then}
use Rattle.bench_flights.proofs.TurnLemmas.{test_met, test_unmet, turn_left, turn_met, turn_next, turns_begin, turns_met, turns_used}
use Rattle.bench_flights.specs.Flown.{SendsFew}
use Rattle.bench_flights.proofs.PacketLemmas.{few_begins, reads_next}
use Rattle.bench_flights.proofs.wire.WireFlights.poll_by_reads.Goals as goal

pub loop-turn-init : goal.loop-turn-init
loop-turn-init g c = record {
  usable = c.requires.usable;
  empty = c.requires.empty;
  on = turns_begin _ _ _;
  packets = few_begins (λ m. CanFly m) _;
  limits = search rules;
  goes = goes_self _ _;
  faults = search rules;
  identity = search rules;
}

pub loop-turn-preserved : goal.loop-turn-preserved
loop-turn-preserved g c =
    let i = c.loop-turn.invariant in
    record {
      usable = c.in_ok-value.ensures.keeps.on.ended;
      empty = c.read_once.ensures.keeps.on.empty;
      on = turn_next _ _ _ c.args.mask c.args.requested c.loop-turn.turn c.in_ok-value.value (test_unmet _ _ c.if-value-mask.false) i.on c.in_ok-value.ensures.done;
      packets = reads_next _ _ _ c.args.mask c.args.requested c.loop-turn.turn i.on i.packets c.in_ok-value.ensures.packets;
      limits = search rules;
      goes = goes_then _ _ _ _ _ _ i.goes c.read_once.ensures.keeps.on.goes;
      faults = search rules;
      identity = search rules;
    }

pub returns-then-value-mask-clause-done : goal.returns-then-value-mask-clause-done
returns-then-value-mask-clause-done g c =
    (turns_met _ _ c.args.mask c.args.requested (c.loop-turn.turn + 1) c.args.turns (let t = c.loop-turn-test.true in omega (arith, t))
    (turn_met _ _ _ c.args.mask c.args.requested c.loop-turn.turn c.in_ok-value.value (test_met _ _ c.if-value-mask.true) c.loop-turn.invariant.on c.in_ok-value.ensures.done)).0

pub returns-then-value-mask-clause-reads : goal.returns-then-value-mask-clause-reads
returns-then-value-mask-clause-reads g c =
    (turns_met _ _ c.args.mask c.args.requested (c.loop-turn.turn + 1) c.args.turns (let t = c.loop-turn-test.true in omega (arith, t))
    (turn_met _ _ _ c.args.mask c.args.requested c.loop-turn.turn c.in_ok-value.value (test_met _ _ c.if-value-mask.true) c.loop-turn.invariant.on c.in_ok-value.ensures.done)).1

pub returns-in_err-value-clause-left : goal.returns-in_err-value-clause-left
returns-in_err-value-clause-left g c =
    let p = err_from_is_err_and c.from_residual.result c.from_residual.ensures.1 in
    rw (p.1, p.2) (turn_left _ _ _ c.args.mask c.args.requested c.loop-turn.turn c.args.turns c.in_err-value.field-0.0 c.loop-turn-test.true c.loop-turn.invariant.on c.in_err-value.ensures.left)

pub returns-clause-done : goal.returns-clause-done
returns-clause-done g c =
    let all : c.loop-turn.turn ≡ c.args.turns = (let a = c.loop-turn.auto.turn-end in let t = c.loop-turn-test.false in omega (arith, a, t)) in
    (turns_used _ _ c.args.mask c.args.requested c.args.turns
    (subst (λ (n : ℕ). StepsTo (λ m o. CanFly m → HasLooked c.args.mask c.args.requested n 0 m o) (g.B.Bench.state c.args.self.now.bench) (g.B.Bench.state c.loop-turn.self.bench)) all c.loop-turn.invariant.on)).0

pub returns-clause-reads : goal.returns-clause-reads
returns-clause-reads g c =
    let all : c.loop-turn.turn ≡ c.args.turns = (let a = c.loop-turn.auto.turn-end in let t = c.loop-turn-test.false in omega (arith, a, t)) in
    (turns_used _ _ c.args.mask c.args.requested c.args.turns
    (subst (λ (n : ℕ). StepsTo (λ m o. CanFly m → HasLooked c.args.mask c.args.requested n 0 m o) (g.B.Bench.state c.args.self.now.bench) (g.B.Bench.state c.loop-turn.self.bench)) all c.loop-turn.invariant.on)).1

pub returns-then-value-mask-clause-packets : goal.returns-then-value-mask-clause-packets
returns-then-value-mask-clause-packets g c = reads_next _ _ _ c.args.mask c.args.requested c.loop-turn.turn c.loop-turn.invariant.on c.loop-turn.invariant.packets c.in_ok-value.ensures.packets

pub returns-clause-packets : goal.returns-clause-packets
returns-clause-packets g c =
    let all : c.loop-turn.turn ≡ c.args.turns = (let a = c.loop-turn.auto.turn-end in let t = c.loop-turn-test.false in omega (arith, a, t)) in
    subst (λ (n : ℕ). StepsTo (λ m o. CanFly m → SendsFew n m o) (g.B.Bench.state c.args.self.now.bench) (g.B.Bench.state c.loop-turn.self.bench)) all c.loop-turn.invariant.packets
