use Rattle.direct_calls.proofs.AtOnceLemmas.{ap_made}
use Rattle.direct_calls.proofs.plain.make_plain_ap.Goals as goal

pub returns : goal.returns
returns c = ap_made c.args.target.now c.args.read c.args.ap c.args.addr c.args.value _ _ _ _ _ c.select.ensures c.access_ap.ensures c.make_all.ensures c.made_of.ensures
