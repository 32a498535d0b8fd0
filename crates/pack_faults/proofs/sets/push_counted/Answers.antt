use Rattle.std.proofs.Common.{◌<◌, ltb-true, arith}
use Rattle.sequence_resolve.specs.Views.{place_view}
use Rattle.pack_faults.specs.Shared.{levels_above}
use Rattle.pack_faults.proofs.AddedLemmas.{counted_one}
use Rattle.pack_faults.proofs.sets.push_counted.Goals as goal

pub add_if-found-requires : goal.add_if-found-requires
add_if-found-requires c = λ is. (
    let less : c.len-before.result < c.len.result = ltb-true c.len-before.result c.len.result is in
    let few = c.requires.fine.few in
    let same = c.in_ok-push_in_group.ensures.devices in
    let size = c.len-before.ensures in
    omega arith)

pub returns-clause-counted : goal.returns-clause-counted
returns-clause-counted c =
    let pack = c.args.pack.now in
    let place = place_view c.args.place in
    counted_one pack c.args.request.now (levels_above pack place.family place.sub_family) place c.args.found.now c.push_in_group.new.found c.push_in_group.new.shared c.add_if-found.result
    c.len-before.result c.len.result c.requires.fine c.in_ok-push_in_group.ensures c.len-before.ensures c.len.ensures c.add_if-found.ensures

pub returns-clause-ready : goal.returns-clause-ready
returns-clause-ready c = record { fine = (returns-clause-counted c).fine; along = c.in_ok-push_in_group.ensures.ready.along }
