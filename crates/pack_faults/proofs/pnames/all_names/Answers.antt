use Rattle.std.proofs.Common.{◌≡◌, ◌<◌, ℕ, List, Option, length, subst, arith}
use Rattle.std.specs.Prelude.{IfOk}
use Rattle.pack_faults.specs.Views.{options_view}
use Rattle.pack_faults.proofs.SetLemmas.{processors_all}
use Rattle.pack_faults.proofs.pnames.all_names.Goals as goal

pub returns : goal.returns
returns c =
    let some : 0 < length c.args.names.now = grind (arith, c.is_empty.ensures, c.if-is_empty.false) in
    subst (λ (ns : List (Option (List ℕ))). IfOk c.requested_names.result (λ pnames. options_view pnames ≡ ns)) (processors_all c.args.names.now some) c.requested_names.ensures.ok
