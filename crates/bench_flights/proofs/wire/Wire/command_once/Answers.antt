use Rattle.std.proofs.Common.{◌≡◌, true, sym, subst}
use Rattle.dap_messages.specs.Commands.{IsCommand}
use Rattle.dap_messages.specs.declared.command_value.CommandValue.{CommandValue}
use Rattle.batch_packer.specs.Commands.{is_single}
use Rattle.bench_flights.proofs.WireLemmas.{one_single, single_left, single_made}
use Rattle.bench_flights.proofs.PacketLemmas.{single_few}
use Rattle.bench_flights.proofs.wire.Wire.command_once.Goals as goal

pub exchange-requires-clause-command : goal.exchange-requires-clause-command
exchange-requires-clause-command g c = record {
  command = subst IsCommand (sym c.command_of.ensures.value) c.command_of.ensures.command;
  single = subst (λ (k : CommandValue). is_single k ≡ true) (sym c.command_of.ensures.value) (one_single c.args.call);
}

pub returns-clause-done : goal.returns-clause-done
returns-clause-done g c = single_made _ _ c.args.call _ c.exchange.result c.command_of.ensures.value c.requires.may.command.one c.command_of.ensures.command c.exchange.ensures.done

pub returns-clause-left : goal.returns-clause-left
returns-clause-left g c = single_left _ _ c.args.call _ c.exchange.result c.command_of.ensures.value c.requires.may.command.one c.command_of.ensures.command c.exchange.ensures.done

pub returns-clause-packets : goal.returns-clause-packets
returns-clause-packets g c = single_few _ _ _ c.exchange.result c.exchange.ensures.done
