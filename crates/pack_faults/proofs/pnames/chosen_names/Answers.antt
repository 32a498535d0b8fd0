use Rattle.std.proofs.Common.{◌≡◌, ℕ, List, Option, subst}
use Rattle.std.specs.Prelude.{IfOk}
use Rattle.pack_faults.specs.Views.{names_view, options_view}
use Rattle.pack_faults.proofs.SetLemmas.{processors_some}
use Rattle.pack_faults.proofs.pnames.chosen_names.Goals as goal

pub returns-in-Some : goal.returns-in-Some
returns-in-Some c =
    subst (λ (ns : List (Option (List ℕ))). IfOk c.requested_names.result (λ pnames. options_view pnames ≡ ns))
    (processors_some c.args.requested _ (names_view c.args.names.now) c.in-Some.is) c.requested_names.ensures.ok
