use Rattle.std.proofs.Common.{rules}
use Rattle.bench_flights.proofs.FlightCause.{send_cause}
use Rattle.bench_flights.proofs.FormLemmas.{clears_after, resumes}
use Rattle.bench_flights.proofs.SendLemmas.{room_after, send_broke, send_came, small_words}
use Rattle.bench_flights.proofs.RoomLemmas.{cuts_few}
use Rattle.bench_flights.proofs.HeldLemmas.{accesses_held}
use Rattle.bench_flights.proofs.wire.WireFlights.send.Goals as goal

pub returns-clause-came : goal.returns-clause-came
returns-clause-came g c =
    send_came _ _ c.args.self.now.flight.limits c.args.self.now.flight.accesses c.send.new.slots.values c.send.new.self.end c.send.result c.args.self.now.held c.send.ensures.answer (c.send.ensures.flown c.requires.usable)

pub returns-clause-broke : goal.returns-clause-broke
returns-clause-broke g c =
    send_broke _ _ _ c.args.self.now.flight.accesses c.send.new.slots.values c.send.new.self.end c.send.result c.send.ensures.answer (c.send.ensures.flown c.requires.usable)

pub returns-clause-room : goal.returns-clause-room
returns-clause-room g c = room_after c.send.result c.args.self.now.flight.limits c.send.new.self.limits c.send.new.self.accesses c.args.self.now.limits c.send.ensures.limits (c.send.ensures.empty c.requires.usable)

pub returns-clause-keeps : goal.returns-clause-keeps
returns-clause-keeps g c =
    let u = c.requires.usable in
    let e = c.send.ensures in
    record {
      empty = e.empty u;
      usable = search rules;
      faults = search rules;
      response = search rules;
      cause = send_cause c.args.self.now.flight.limits c.args.self.now.flight.accesses c.send.result (g.B.Bench.reported c.args.self.now.bench) (g.B.Bench.reported c.send.new.bench) c.send.new.self c.send.new.slots.values
          c.args.self.now.limits (small_words c.args.self.now.flight.accesses c.args.self.now.small) e.answer
          (record {
            cause = e.cause u;
            read = e.read u;
            sent = λ got. (e.sent u got).packets;
            replied = λ got. (e.sent u got).replied;
            counted_are = λ got. (e.sent u got).exchanges;
            packets_are = e.packets u;
            replies_are = e.replies u;
            at = λ got. (e.sent u got).at;
          });
      goes = search rules;
      same_limits = e.limits;
      same_bench = e.keeps.same_bench;
    }

pub returns-clause-resumable : goal.returns-clause-resumable
returns-clause-resumable g c =
    resumes c.args.self.now.flight.limits c.args.self.now.flight.accesses c.send.new.self.resumable c.send.new.self.end c.send.result c.args.self.now.limits (c.send.ensures.resumable c.requires.usable) c.send.ensures.answer

pub returns-clause-clear : goal.returns-clause-clear
returns-clause-clear g c =
    clears_after _ _ c.args.self.now.flight.limits c.args.self.now.flight.accesses c.send.new.slots.values c.send.new.self.end c.send.result c.args.self.now.limits c.send.ensures.answer (c.send.ensures.flown c.requires.usable)

pub returns-clause-packets : goal.returns-clause-packets
returns-clause-packets g c = cuts_few _ _ c.args.self.now.flight.limits c.args.self.now.flight.accesses c.send.new.slots.values c.send.new.self.end c.send.result c.send.ensures.answer (c.send.ensures.flown c.requires.usable)

pub returns-clause-held : goal.returns-clause-held
returns-clause-held g c =
    accesses_held c.args.self.now.flight.limits _ _ c.args.self.now.flight.accesses c.args.self.now.limits c.args.self.now.held c.args.self.now.within c.send.ensures.keeps.goes.limits
