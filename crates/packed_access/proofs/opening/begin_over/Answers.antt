use Rattle.packed_access.proofs.OpeningLemmas.{has_begun}
use Rattle.packed_access.proofs.PaidLemmas.{sparing_begins}
use Rattle.packed_access.proofs.SparingLemmas.{has_paid_none}
use Rattle.std.proofs.Common.{◌∙◌, sym}
use Rattle.packed_access.proofs.opening.begin_over.Goals as goal

pub returns-in-Ok-begin-clause-begun : goal.returns-in-Ok-begin-clause-begun
returns-in-Ok-begin-clause-begun g c =
    let e = c.in-Ok-begin.ensures in
    sparing_begins g.F.Flights.planner c.args.config _ _ _ _ _ _ _ _ _ c.new-in-Ok-begin.ensures.answer
    (has_begun g.F.Flights.planner _ _ _ c.args.config _ _ _ _ _ c.new-in-Ok-begin.ensures.answer c.in-Ok.ensures e.empty e.on)
    (has_paid_none g.F.Flights.planner _ _ c.args.config (g.B.Bench.reported c.args.bench) _ _ c.args.limits _ e.fits c.new-in-Ok-begin.ensures.answer (e.goes.limits ∙ sym c.requires.limits) (sym c.requires.limits) (g.met.B.Bench.agrees c.args.bench) e.on e.same)
