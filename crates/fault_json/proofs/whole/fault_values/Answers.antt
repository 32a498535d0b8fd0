use Rattle.std.proofs.Common.{◌++◌, ◌+◌, drop, map, ap, ◌∙◌}
use Rattle.serde_json.specs.View.{view}
use Rattle.fault_json.specs.FaultsJson.{fault_data}
use Rattle.fault_json.proofs.Rows.{row_more}
use Rattle.fault_json.proofs.whole.fault_values.Goals as goal

pub loop-fault-preserved : goal.loop-fault-preserved
loop-fault-preserved c =
    let one = fault_data c.args.sets.now in
    let faults = c.args.faults.now in
    let i = c.loop-fault.fault-index in
    ap (λ items. map view items ++ map one (drop (i + 1) faults)) c.in_ok-push.ensures.items
    ∙ row_more one c.loop-fault.values.items c.in_ok-fault_value.field-0 faults i c.fault-item.result c.loop-fault-test.true c.fault-item.is c.loop-fault.invariant c.in_ok-fault_value.ensures
