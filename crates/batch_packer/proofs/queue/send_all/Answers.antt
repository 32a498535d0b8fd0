use Rattle.std.proofs.Common.{◌≡◌, ◌+◌, ◌<◌, length, ap, ◌∙◌, true, cond, arith, rules}
use Rattle.std.proofs.lemmas.Result.{err_from_is_err_and}
use Rattle.probe_core.specs.Bench.{Reported}
use Rattle.probe_core.specs.Probe.{is_queued}
use Rattle.batch_packer.proofs.GoingOn.{goes_broken, goes_counted, sent_count}
use Rattle.probe_core.proofs.StateSteps.{runs_then}
use Rattle.batch_packer.proofs.QueueLemmas.{sent_next, served_next, served_some}
use Rattle.batch_packer.proofs.queue.send_all.Goals as goal

pub returns-in_err-send-clause-failed : goal.returns-in_err-send-clause-failed
returns-in_err-send-clause-failed g c =
    let p = err_from_is_err_and c.from_residual.result c.from_residual.ensures.1 in
    rw p.1 (served_some c.loop-i.i c.args.packets.now.items c.get.result.now (g.B.Bench.state c.args.bench.now) (g.B.Bench.reported c.loop-i.bench) (g.B.Bench.reported c.send.new.self)
    (g.B.Bench.state c.loop-i.bench) (g.B.Bench.state c.send.new.self) c.get.ensures.value c.loop-i.invariant.state c.in_err-send.ensures.failed)

pub returns-in_err-send-clause-keeps : goal.returns-in_err-send-clause-keeps
returns-in_err-send-clause-keeps g c =
    let inv = c.loop-i.invariant in
    let within : c.loop-i.i < length c.args.packets.now.items = omega (arith, c.loop-i-test.true, c.len-i-end.ensures) in
    record {
      on = record {
        goes = goes_broken c.loop-i.i c.get.result.now (g.B.Bench.reported c.args.bench.now) (g.B.Bench.reported c.loop-i.bench) (g.B.Bench.reported c.send.new.self) (g.B.Bench.state c.loop-i.bench) (g.B.Bench.state c.send.new.self)
            inv.limits (inv.held within) inv.exchanges c.in_err-send.ensures.failed;
        runs = runs_then (g.B.Bench.state c.args.bench.now) (g.B.Bench.state c.loop-i.bench) (g.B.Bench.state c.send.new.self) inv.runs c.send.ensures.runs;
        same_bench = c.send.ensures.identity ∙ inv.identity;
      };
      cause = search rules;
    }

pub returns-clause-keeps : goal.returns-clause-keeps
returns-clause-keeps g c =
    let inv = c.loop-i.invariant in
    record {
      on = record {
        goes = goes_counted c.loop-i.i (g.B.Bench.reported c.args.bench.now) (g.B.Bench.reported c.loop-i.bench) inv.limits inv.exchanges;
        runs = inv.runs;
        same_bench = inv.identity;
      };
      cause = search rules;
    }

pub loop-i-preserved : goal.loop-i-preserved
loop-i-preserved g c =
    let inv = c.loop-i.invariant in
    let reported = c.in_ok-send.ensures.reported in
    let packet = c.get.result.now in
    let within : c.loop-i.i < length c.args.packets.now.items = omega (arith, c.loop-i-test.true, c.len-i-end.ensures) in
    record {
      reported = sent_next c.loop-i.i c.args.packets.now.items packet (g.B.Bench.reported c.args.bench.now) (g.B.Bench.reported c.loop-i.bench) (g.B.Bench.reported c.send.new.self) c.get.ensures.value inv.reported reported;
      state = served_next c.loop-i.i c.args.packets.now.items packet (g.B.Bench.state c.args.bench.now) (g.B.Bench.state c.loop-i.bench) (g.B.Bench.state c.send.new.self) c.get.ensures.value inv.state c.in_ok-send.ensures.state;
      runs = runs_then (g.B.Bench.state c.args.bench.now) (g.B.Bench.state c.loop-i.bench) (g.B.Bench.state c.send.new.self) inv.runs c.send.ensures.runs;
      identity = c.in_ok-send.ensures.identity ∙ inv.identity;
      faults = ap (λ (t : Reported). t.faults) reported ∙ inv.faults;
      limits = ap (λ (t : Reported). t.limits) reported ∙ inv.limits;
      exchanges = sent_count c.loop-i.i (g.B.Bench.reported c.args.bench.now).exchanges packet (g.B.Bench.reported c.loop-i.bench) (g.B.Bench.reported c.send.new.self) reported (inv.held within) inv.exchanges;
      held = λ h. (let q : is_queued packet ≡ true = c.requires.chain.held c.loop-i.i packet c.get.ensures.value h in
          ap (λ (t : Reported). t.held) reported ∙ ap (λ b. cond b ((g.B.Bench.reported c.loop-i.bench).held + 1) 0) q ∙ ap (λ n. n + 1) (inv.held within));
      waiting = λ h. (let q : is_queued packet ≡ true = c.requires.chain.held c.loop-i.i packet c.get.ensures.value h in
          ap (λ (t : Reported). t.waiting) reported ∙ ap (λ b. cond b (g.B.Bench.reported c.loop-i.bench).waiting ((g.B.Bench.reported c.loop-i.bench).held + 1)) q ∙ inv.waiting within);
    }
