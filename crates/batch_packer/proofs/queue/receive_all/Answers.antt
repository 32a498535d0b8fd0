use Rattle.std.proofs.Common.{◌≡◌, ◌<◌, ◌++◌, ◌∷◌, [], List, ℕ, take, ap, ◌∙◌, arith}
use Rattle.probe_core.specs.Bench.{Reported}
use Rattle.probe_core.specs.Packets.{Packets}
use Rattle.batch_packer.proofs.GoingOn.{stays_failed, stays_received, stays_then}
use Rattle.probe_core.proofs.StateSteps.{runs_then}
use Rattle.batch_packer.proofs.QueueLemmas.{handed_next, one_fewer, one_longer, received_next}
use Rattle.batch_packer.proofs.queue.receive_all.Goals as goal

pub returns-in_err-len-clause-keeps : goal.returns-in_err-len-clause-keeps
returns-in_err-len-clause-keeps g c =
    let inv = c.loop.invariant in
    stays_then (g.B.Bench.reported c.args.bench.now) (g.B.Bench.reported c.loop.bench) (g.B.Bench.reported c.receive.new.self) inv.stays
    (stays_failed (g.B.Bench.reported c.loop.bench) (g.B.Bench.reported c.receive.new.self) (g.B.Bench.state c.loop.bench) (g.B.Bench.state c.receive.new.self) c.in_err-len.ensures.failed)

pub loop-preserved : goal.loop-preserved
loop-preserved g c =
    let inv = c.loop.invariant in
    let t : Reported = g.B.Bench.reported c.args.bench.now in
    let u : Reported = g.B.Bench.reported c.loop.bench in
    let v : Reported = g.B.Bench.reported c.receive.new.self in
    let reply : List ℕ = take c.in_ok-len.len c.receive.new.out in
    let old : List (List ℕ) = c.loop.replies.items in
    let new : List (List ℕ) = c.push.new.self.items in
    let is : new ≡ old ++ reply ∷ [] = ap (λ (p : Packets). p.items) c.push.ensures in
    let reported = c.in_ok-len.ensures.reported in
    let below : c.loop.counter < t.waiting = omega (arith, c.loop-test.true, c.requires.waits) in
    record {
      reported = received_next old new reply t u v is inv.reported reported;
      state = handed_next old new reply (g.B.Bench.state c.args.bench.now) (g.B.Bench.state c.loop.bench) (g.B.Bench.state c.receive.new.self) is inv.state c.in_ok-len.ensures.state;
      runs = runs_then (g.B.Bench.state c.args.bench.now) (g.B.Bench.state c.loop.bench) (g.B.Bench.state c.receive.new.self) inv.runs c.receive.ensures.runs;
      identity = c.in_ok-len.ensures.identity ∙ inv.identity;
      faults = ap (λ (x : Reported). x.faults) reported ∙ inv.faults;
      limits = ap (λ (x : Reported). x.limits) reported ∙ inv.limits;
      stays = stays_then t u v inv.stays (stays_received reply u v reported);
      waiting = one_fewer t u v reply c.loop.counter t.waiting reported inv.waiting below;
      count = one_longer old new reply c.loop.counter is inv.count;
      room = ap (λ (p : Packets). p.room) c.push.ensures ∙ inv.room;
    }
