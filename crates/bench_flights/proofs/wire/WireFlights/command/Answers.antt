use Rattle.std.proofs.Common.{◌≡◌, true}
use Rattle.batch_packer.specs.Actions.{is_one}
use Rattle.bench_flights.proofs.DelayLemmas.{call_dones, call_lefts, delay_call_left, delay_dones, one_unless, uncut_none, uncut_response}
use Rattle.bench_flights.proofs.ClearLemmas.{clear_dones, clear_lefts}
use Rattle.bench_flights.proofs.PacketLemmas.{call_delay_few, call_few}
use Rattle.bench_flights.proofs.wire.WireFlights.command.Goals as goal

pub returns-in-Delay : goal.returns-in-Delay
returns-in-Delay g c = record {
  done = delay_dones _ _ c.args.call c.in-Delay.micros c.delay.result c.in-Delay.is c.delay.ensures.done;
  packets = call_delay_few _ _ c.args.call c.in-Delay.micros c.delay.result c.in-Delay.is c.delay.ensures.packets;
  left = delay_call_left _ _ c.args.call c.in-Delay.micros c.delay.result c.in-Delay.is c.delay.ensures.left;
  cleared = λ same. absurd (let other = c.in-Delay.is in cc);
  uncleared = λ same. absurd (let other = c.in-Delay.is in cc);
  none = uncut_none c.delay.result c.delay.ensures.keeps.uncut;
  keeps = record {
    empty = c.delay.ensures.keeps.on.empty;
    usable = c.delay.ensures.keeps.on.ended;
    faults = c.delay.ensures.keeps.on.faults;
    response = uncut_response c.delay.result c.delay.ensures.keeps.uncut;
    cause = c.delay.ensures.keeps.on.cause;
    goes = c.delay.ensures.keeps.on.goes;
    same_limits = c.delay.ensures.keeps.limits;
    same_bench = c.delay.ensures.keeps.on.same_bench;
  };
}

pub returns-in_default : goal.returns-in_default
returns-in_default g c =
    let one : is_one c.args.call ≡ true = one_unless c.args.call c.in_default.not-Delay in
    record {
      done = call_dones _ _ c.args.call c.command_once.result c.command_once.ensures.done;
      packets = call_few _ _ c.args.call c.command_once.result c.command_once.ensures.packets;
      left = call_lefts _ _ c.args.call c.command_once.result one c.command_once.ensures.left;
      cleared = clear_dones _ _ c.args.call c.command_once.result (call_dones _ _ c.args.call c.command_once.result c.command_once.ensures.done);
      uncleared = clear_lefts _ _ c.args.call c.command_once.result (call_lefts _ _ c.args.call c.command_once.result one c.command_once.ensures.left) c.command_once.ensures.keeps.uncut;
      none = uncut_none c.command_once.result c.command_once.ensures.keeps.uncut;
      keeps = record {
        empty = c.command_once.ensures.keeps.on.empty;
        usable = c.command_once.ensures.keeps.on.ended;
        faults = c.command_once.ensures.keeps.on.faults;
        response = uncut_response c.command_once.result c.command_once.ensures.keeps.uncut;
        cause = c.command_once.ensures.keeps.on.cause;
        goes = c.command_once.ensures.keeps.on.goes;
        same_limits = c.command_once.ensures.keeps.limits;
        same_bench = c.command_once.ensures.keeps.on.same_bench;
      };
    }
