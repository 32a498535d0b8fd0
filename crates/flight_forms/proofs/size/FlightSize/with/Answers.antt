use Rattle.std.proofs.Common.{◌++◌, ◌∷◌, [], subst, sym}
use Rattle.flight_forms.specs.Sizes.{IsSizeOf}
use Rattle.flight_forms.proofs.SizeLemmas.{size_grows}
use Rattle.flight_forms.proofs.size.FlightSize.with.Goals as goal

pub returns-clause-grows : goal.returns-clause-grows
returns-clause-grows c accesses few h =
    subst (IsSizeOf (accesses ++ c.args.next ∷ [])) (sym c.with_access.ensures) (size_grows accesses c.args.self c.args.next few h)
