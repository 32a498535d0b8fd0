use Rattle.std.proofs.Common.{◌∙◌, ◌++◌, map, ap}
use Rattle.pack_faults.specs.Shared.{set_ref}
use Rattle.pack_faults.proofs.AddedLemmas.{added_new}
use Rattle.pack_faults.proofs.sets.push_new.Goals as goal

pub returns : goal.returns
returns c =
    added_new c.args.pack.now c.args.request.now c.args.place c.args.variant c.in_ok-each.each c.args.found.now c.sets_along.new.known c.push_each.new.sets c.requires
    c.in_ok-each.ensures.known c.in_ok-each.ensures.grown c.in_ok-each.ensures.sets
    (c.in_ok-push_each.ensures ∙ ap (λ xs. c.args.found.now.sets ++ map (set_ref c.args.place c.args.variant) xs) c.as_slice.ensures)
