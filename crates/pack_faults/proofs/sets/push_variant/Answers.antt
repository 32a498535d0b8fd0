use Rattle.std.proofs.Common.{◌≡◌, ◌∙◌, Some, None, true, sym}
use Rattle.sequence_resolve.specs.Levels.{path_of}
use Rattle.sequence_resolve.specs.Views.{place_view}
use Rattle.pack_faults.specs.Sets.{sets_at}
use Rattle.pack_faults.specs.Shared.{is_bare, AreAdded}
use Rattle.pack_faults.proofs.SharedLemmas.{variant_trimmed}
use Rattle.pack_faults.proofs.AddedLemmas.{on_ok, ready_along, added_along, added_apart}
use Rattle.pack_faults.proofs.sets.push_variant.Goals as goal

pub push_sets-requires : goal.push_sets-requires
push_sets-requires c =
    let pack = c.args.pack.now in
    let place = place_view c.args.place in
    let v = c.args.variant.now in
    let bare : is_bare v.level ≡ true = sym c.is_bare.ensures ∙ c.if-is_bare.true in
    ready_along pack c.args.request.now (path_of pack place None) (path_of pack place (Some v)) c.args.shared.now c.args.found.now (sym (variant_trimmed pack place v bare)) c.requires

pub returns-then-is_bare : goal.returns-then-is_bare
returns-then-is_bare c =
    let pack = c.args.pack.now in
    let r = c.args.request.now in
    let place = place_view c.args.place in
    let v = c.args.variant.now in
    let added = sets_at pack r place (Some v) in
    let bare : is_bare v.level ≡ true = sym c.is_bare.ensures ∙ c.if-is_bare.true in
    on_ok c.push_sets.result (AreAdded pack r (path_of pack place (Some v)) added c.args.found.now c.push_sets.new.shared c.push_sets.new.found) _ c.push_sets.ensures
    (λ e. added_along pack r (path_of pack place (Some v)) (path_of pack place None) added c.args.found.now c.push_sets.new.shared c.push_sets.new.found (variant_trimmed pack place v bare) e)

pub push_new-requires : goal.push_new-requires
push_new-requires c = c.requires.fine

pub returns : goal.returns
returns c =
    let pack = c.args.pack.now in
    let r = c.args.request.now in
    let place = place_view c.args.place in
    let v = c.args.variant.now in
    added_apart pack r (path_of pack place (Some v)) (path_of pack place None) (sets_at pack r place (Some v)) c.args.found.now (Some c.in_ok-push_new.field-0) c.args.shared.now c.push_new.new.found
    c.requires c.in_ok-push_new.ensures
