use Rattle.std.proofs.Common.{◌∙◌, ◌+◌, drop, map, ap, sym}
use Rattle.pack_faults.specs.Lined.{lined_view}
use Rattle.pack_faults.specs.Steps.{with_each}
use Rattle.pack_faults.proofs.KeyLemmas.{each_next}
use Rattle.pack_faults.proofs.merging.add_faults.Goals as goal

pub loop-one-preserved : goal.loop-one-preserved
loop-one-preserved c =
    let n = c.args.number in
    let i = c.loop-one.one-index in
    let one = c.one-item.result in
    record {
      list =
          ap (with_each n (map lined_view (drop (i + 1) c.args.found.now))) c.in_ok-add_found.ensures.list
          ∙ sym (each_next n c.args.found.now i one c.loop-one.faults.list.items c.loop-one-test.true c.one-item.is) ∙ c.loop-one.invariant.list;
      knows = c.in_ok-add_found.ensures.knows;
    }
