use Rattle.std.proofs.Common.{arith, rules}
use Rattle.batch_packer.proofs.PollLemmas.{IsPoll}
use Rattle.bench_flights.proofs.LookLemmas.{portion_lefts, portion_made}
use Rattle.bench_flights.proofs.PollCause.{poll_cause, poll_unnamed}
use Rattle.bench_flights.proofs.PacketLemmas.{portion_few}
use Rattle.bench_flights.proofs.wire.Wire.poll_portion.Goals as goal

pub returns-clause-done : goal.returns-clause-done
returns-clause-done g c = portion_made _ _ c.args.config c.args.ask c.poll.result (c.poll.ensures.polled c.requires.may.free.usable)

pub returns-clause-left : goal.returns-clause-left
returns-clause-left g c = portion_lefts _ _ c.args.config c.args.ask c.poll.result (c.poll.ensures.polled c.requires.may.free.usable)

pub returns-clause-unnamed : goal.returns-clause-unnamed
returns-clause-unnamed g c =
    poll_unnamed c.args.config c.args.ask c.poll.result (g.B.Bench.reported c.poll.new.bench).last.replies c.poll.new.self.end c.poll.ensures.answer (c.poll.ensures.read c.requires.may.free.usable)

pub returns-clause-keeps : goal.returns-clause-keeps
returns-clause-keeps g c =
    let u = c.requires.may.free.usable in
    let is : IsPoll c.args.config c.args.ask = record { idle = omega arith; retry = omega arith; mask = omega arith; value = omega arith; low = c.requires.may.turns.low; high = c.requires.may.turns.high } in
    record {
      on = record {
        empty = c.poll.ensures.empty u;
        ended = search rules;
        faults = search rules;
        cause = poll_cause c.args.config c.args.ask c.poll.result (g.B.Bench.reported c.args.self.now.bench) (g.B.Bench.reported c.poll.new.bench) c.poll.new.self is c.poll.ensures.answer
            (record {
              cause = c.poll.ensures.cause u;
              exchanges = λ got. (c.poll.ensures.asked u got).exchanges;
              packets_are = c.poll.ensures.packets u;
              replies_are = c.poll.ensures.replies u;
              at = c.poll.ensures.at u;
            })
            (c.poll.ensures.read u) (λ got. (c.poll.ensures.asked u got).packet_is) (λ got. (c.poll.ensures.asked u got).replied);
        goes = search rules;
        same_bench = c.poll.ensures.keeps.same_bench;
      };
      limits = c.poll.ensures.limits;
    }

pub returns-clause-packets : goal.returns-clause-packets
returns-clause-packets g c = portion_few _ _ c.args.config c.args.ask c.poll.result (c.poll.ensures.polled c.requires.may.free.usable)
