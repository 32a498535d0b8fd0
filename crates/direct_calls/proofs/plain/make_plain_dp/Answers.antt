use Rattle.direct_calls.proofs.AtOnceLemmas.{dp_made}
use Rattle.direct_calls.proofs.plain.make_plain_dp.Goals as goal

pub returns : goal.returns
returns c = dp_made c.args.target.now c.args.read c.args.addr c.args.value _ _ _ _ c.access_dp.ensures c.attempt.ensures.access c.made_of.ensures
