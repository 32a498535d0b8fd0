use Rattle.std.proofs.Common.{rules}
use Rattle.dap_messages.specs.Commands.{command_value}
use Rattle.bench_flights.proofs.CauseLemmas.{single_cause}
use Rattle.bench_flights.proofs.OpeningLemmas.{number_least}
use Rattle.bench_flights.proofs.wire.Wire.exchange.Goals as goal

pub returns-clause-least : goal.returns-clause-least
returns-clause-least g c =
    number_least (command_value c.args.command.now) c.command.result c.command.new.self.end (g.B.Bench.reported c.command.new.bench).last.replies c.command.ensures.answer (c.command.ensures.read c.requires.free.usable)

pub returns-clause-keeps : goal.returns-clause-keeps
returns-clause-keeps g c =
    let u = c.requires.free.usable in
    record {
      uncut = search rules;
      on = record {
        empty = c.command.ensures.empty u;
        ended = search rules;
        faults = search rules;
        cause = single_cause (command_value c.args.command.now) c.command.result (g.B.Bench.reported c.args.self.now.bench) (g.B.Bench.reported c.command.new.bench) c.command.new.self c.requires.command.command c.requires.command.single c.command.ensures.answer
            (record {
              cause = c.command.ensures.cause u;
              exchanges = λ got. (c.command.ensures.asked u got).exchanges;
              packets_are = c.command.ensures.packets u;
              replies_are = c.command.ensures.replies u;
              at = c.command.ensures.at u;
            })
            (c.command.ensures.read u) (λ got. (c.command.ensures.asked u got).packet_is) (λ got. (c.command.ensures.asked u got).replied);
        goes = search rules;
        same_bench = c.command.ensures.keeps.same_bench;
      };
      limits = c.command.ensures.limits;
    }
