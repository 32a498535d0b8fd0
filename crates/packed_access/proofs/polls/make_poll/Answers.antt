use Rattle.std.proofs.Common.{◌+◌, ◌/◌, refl}
use Rattle.packed_access.proofs.SparingLemmas.{polled_by_matches, polled_few}
use Rattle.packed_access.proofs.polls.make_poll.Goals as goal

pub returns-in_ok-matched-clause-packets : goal.returns-in_ok-matched-clause-packets
returns-in_ok-matched-clause-packets g c = polled_few _ _ c.args.config.idle c.args.config.retry c.args.zero c.args.turns (1 + (c.args.turns + 65535) / 65536) c.if-zero.true refl c.in_ok-matched.ensures.packets

pub returns-in_ok-matched-clause-done : goal.returns-in_ok-matched-clause-done
returns-in_ok-matched-clause-done g c = polled_by_matches _ _ _ c.args.config.idle c.args.config.retry c.args.zero c.if-zero.true c.in_ok-matched.ensures.done
