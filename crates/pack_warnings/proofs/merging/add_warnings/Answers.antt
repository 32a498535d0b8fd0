use Rattle.std.proofs.Common.{◌∙◌, ◌+◌, drop, map, ap, sym}
use Rattle.pack_warnings.specs.Lined.{lined_warning_view}
use Rattle.pack_warnings.specs.Merged.{with_each_warning}
use Rattle.pack_warnings.proofs.KeyLemmas.{each_next}
use Rattle.pack_warnings.proofs.merging.add_warnings.Goals as goal

pub loop-one-preserved : goal.loop-one-preserved
loop-one-preserved c =
    let n = c.args.number in
    let i = c.loop-one.one-index in
    let one = c.one-item.result in
    record {
      list =
          ap (with_each_warning n (map lined_warning_view (drop (i + 1) c.args.found.now))) c.in_ok-add_found.ensures.list
          ∙ sym (each_next n c.args.found.now i one c.loop-one.warnings.list.items c.loop-one-test.true c.one-item.is) ∙ c.loop-one.invariant.list;
      knows = c.in_ok-add_found.ensures.knows;
    }
