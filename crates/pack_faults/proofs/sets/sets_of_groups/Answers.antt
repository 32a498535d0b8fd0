use Rattle.std.proofs.Common.{◌∙◌, ◌+◌, ◌++◌, filter, take, ap, sym}
use Rattle.std.specs.List.{flat_map}
use Rattle.std.specs.Prelude.{count_by}
use Rattle.pack_faults.specs.Sets.{is_device, devices_sets, has_set}
use Rattle.pack_faults.specs.Shared.{places_in_group}
use Rattle.pack_faults.proofs.AddedLemmas.{devices_sets-append, count_append, groups_more}
use Rattle.pack_faults.proofs.sets.sets_of_groups.Goals as goal

pub loop-group-preserved : goal.loop-group-preserved
loop-group-preserved c =
    let pack = c.args.pack.now in
    let r = c.args.request.now in
    let is = is_device r.device in
    let i = c.loop-group.group-index in
    let gs = c.args.groups.now in
    let before = filter is (flat_map places_in_group (take i gs)) in
    let here = filter is (places_in_group c.group-item.result) in
    let same = groups_more is gs i c.group-item.result c.loop-group-test.true c.group-item.is in
    let e = c.in_ok-push_group.ensures in
    record {
      sets =
          e.sets ∙ ap (λ ss. ss ++ devices_sets pack r here) c.loop-group.invariant.sets ∙ sym (devices_sets-append pack r before here) ∙ ap (devices_sets pack r) same;
      devices =
          e.devices ∙ ap (λ n. n + count_by (has_set pack r) here) c.loop-group.invariant.devices ∙ sym (count_append (has_set pack r) before here) ∙ ap (count_by (has_set pack r)) same;
      fine = e.fine;
    }
