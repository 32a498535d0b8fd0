use Rattle.std.proofs.Common.{ap}
use Rattle.target_machine.specs.Plain.{Polled}
use Rattle.direct_calls.proofs.AtOnceLemmas.{poll_made}
use Rattle.direct_calls.proofs.plain.make_plain_poll.Goals as goal

pub returns : goal.returns
returns c =
    poll_made c.args.target.now c.args.mask c.args.value c.args.turns _ _ _ (ap (λ (p : Polled). p.outcome) c.poll-end.ensures) (ap (λ (p : Polled). p.next) c.poll-end.ensures)
    c.made_of.ensures
