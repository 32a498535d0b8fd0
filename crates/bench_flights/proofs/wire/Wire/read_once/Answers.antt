use Rattle.std.proofs.Common.{rules, ◌≡◌, ◌∙◌, ◌++◌, List, None, Some, Err, ap, sym, subst, arith}
use Rattle.std.specs.Option.{unwrap_or}
use Rattle.target_machine.specs.declared.access.RegAccess.{RegAccess}
use Rattle.flight_forms.specs.Packing.{AreWords}
use Rattle.probe_core.specs.Ranges.{AreLimits}
use Rattle.batch_packer.specs.FlightStates.{FlightState}
use Rattle.batch_packer.specs.declared.ends.FlightEnd.{FlightEnd}
use Rattle.bench_flights.proofs.FlightCause.{send_cause}
use Rattle.bench_flights.proofs.OnceLemmas.{cut_stopped, look, look_left, look_made, unnamed_cause, unnamed_left, unnamed_none, unnamed_response}
use Rattle.bench_flights.proofs.PacketLemmas.{look_few}
use Rattle.bench_flights.proofs.wire.Wire.read_once.Goals as goal

pub returns-in-Ok-clause-done : goal.returns-in-Ok-clause-done
returns-in-Ok-clause-done g c =
    let f : FlightState = c.push.new.self in
    let usable : c.push.new.self.end ≡ None = ap (λ (s : FlightState). s.end) c.push.ensures.pushed ∙ c.requires.free.usable in
    let fits : AreLimits c.push.new.self.limits = subst AreLimits (sym (ap (λ (s : FlightState). s.limits) c.push.ensures.pushed)) c.args.self.now.limits in
    let pushed : c.push.new.self.accesses ≡ look = ap (λ (s : FlightState). s.accesses) c.push.ensures.pushed ∙ ap (λ (l : List RegAccess). l ++ look) c.requires.free.empty in
    look_made _ _ c.push.new.self.limits c.push.new.self.accesses c.send.new.self.end c.send.new.slots.values c.unwrap_or.result fits pushed c.in-Ok.ensures.answer (c.unwrap_or.ensures ∙ ap (λ o. unwrap_or o 0) c.get.ensures) (c.send.ensures.flown usable)

pub returns-in-Err : goal.returns-in-Err
returns-in-Err g c =
    let usable : c.push.new.self.end ≡ None = ap (λ (s : FlightState). s.end) c.push.ensures.pushed ∙ c.requires.free.usable in
    let fits : AreLimits c.push.new.self.limits = subst AreLimits (sym (ap (λ (s : FlightState). s.limits) c.push.ensures.pushed)) c.args.self.now.limits in
    let pushed : c.push.new.self.accesses ≡ look = ap (λ (s : FlightState). s.accesses) c.push.ensures.pushed ∙ ap (λ (l : List RegAccess). l ++ look) c.requires.free.empty in
    let words : AreWords c.push.new.self.accesses = subst AreWords (sym pushed) (omega arith, tt) in
    let e = c.send.ensures in
    let end : FlightEnd = c.in-Err.end in
    let broke : c.send.new.self.end ≡ Some c.in-Err.end = c.in-Err.ensures.answer in
    record {
      done = tt;
      packets = tt;
      left = unnamed_left _ _ c.in-Err.end c.name_no_access.result c.name_no_access.ensures (look_left _ _ c.push.new.self.limits c.push.new.self.accesses c.send.new.self.end c.send.new.slots.values c.in-Err.end fits pushed broke (c.send.ensures.flown usable));
      unnamed = record { none = unnamed_none c.in-Err.end c.name_no_access.result c.name_no_access.ensures; response = unnamed_response c.in-Err.end c.name_no_access.result c.name_no_access.ensures (cut_stopped _ c.push.new.self.limits.packet_size c.push.new.self.accesses (g.B.Bench.reported c.send.new.bench).last.replies c.send.new.self.end c.in-Err.end c.send.new.slots.values broke (e.read usable)) };
      keeps = record {
        on = record {
          empty = e.empty usable;
          ended = tt;
          faults = tt;
          cause = unnamed_cause c.in-Err.end c.name_no_access.result (g.B.Bench.reported c.args.self.now.bench) (g.B.Bench.reported c.send.new.bench) _ _ c.name_no_access.ensures
              (send_cause {A = Unit {0}} c.push.new.self.limits c.push.new.self.accesses (Err c.in-Err.end) (g.B.Bench.reported c.args.self.now.bench) (g.B.Bench.reported c.send.new.bench) c.send.new.self c.send.new.slots.values fits words broke
              (record {
                cause = e.cause usable;
                read = e.read usable;
                sent = λ got. (e.sent usable got).packets;
                replied = λ got. (e.sent usable got).replied;
                counted_are = λ got. (e.sent usable got).exchanges;
                packets_are = e.packets usable;
                replies_are = e.replies usable;
                at = λ got. (e.sent usable got).at;
              }));
          goes = search rules;
          same_bench = e.keeps.same_bench;
        };
        limits = e.limits ∙ ap (λ (s : FlightState). s.limits) c.push.ensures.pushed;
      };
    }

pub returns-in-Ok-clause-packets : goal.returns-in-Ok-clause-packets
returns-in-Ok-clause-packets g c =
    let usable : c.push.new.self.end ≡ None = ap (λ (s : FlightState). s.end) c.push.ensures.pushed ∙ c.requires.free.usable in
    look_few _ _ c.push.new.self.limits c.push.new.self.accesses c.send.new.self.end c.send.new.slots.values c.in-Ok.ensures.answer (c.send.ensures.flown usable)
