use Rattle.std.proofs.Common.{◌≡◌, ◌++◌, map, sym}
use Rattle.pack_faults.specs.Shared.{set_ref}
use Rattle.pack_faults.proofs.AddedLemmas.{on_ok, added_shared}
use Rattle.pack_faults.proofs.sets.push_sets.Goals as goal

pub returns-in-Some : goal.returns-in-Some
returns-in-Some c =
    on_ok c.push_each.result (c.push_each.new.sets ≡ c.args.found.now.sets ++ map (set_ref c.args.place c.args.variant) c.in-Some.each.now) _ c.push_each.ensures
    (λ e. added_shared c.args.pack.now c.args.request.now c.args.place c.args.variant c.args.shared.now c.in-Some.each.now c.args.found.now c.push_each.new.sets c.requires
    (sym c.in-Some.ensures) e)

pub push_new-requires : goal.push_new-requires
push_new-requires c = c.requires.fine
