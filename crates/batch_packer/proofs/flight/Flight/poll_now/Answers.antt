use Rattle.std.proofs.Common.{◌≡◌}
use Rattle.target_machine.specs.Attempt.{bank}
use Rattle.probe_core.specs.Probe.{target_of}
use Rattle.batch_packer.proofs.FlightLemmas.{when_ready}
use Rattle.batch_packer.specs.Polling.{PolledBy}
use Rattle.batch_packer.proofs.flight.Flight.poll_now.Goals as goal

pub returns-clause-polled : goal.returns-clause-polled
returns-clause-polled g c =
    when_ready (λ m n. bank (target_of m.probe) ≡ 0 → PolledBy c.args.config c.args.ask c.send_poll-result.result m n) (g.B.Bench.reported c.args.bench.now) (g.B.Bench.state c.args.bench.now)
    (g.B.Bench.state c.send_poll-result.new.bench) c.requires.free.is_open (g.met.B.Bench.agrees c.args.bench.now) c.send_poll-result.ensures.polled
