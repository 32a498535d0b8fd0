use Rattle.std.proofs.Common.{◌++◌, ◌+◌, drop, map, ap, ◌∙◌}
use Rattle.serde_json.specs.View.{view}
use Rattle.fault_json.specs.WarningsJson.{warning_data}
use Rattle.fault_json.proofs.Rows.{row_more}
use Rattle.fault_json.proofs.warning.warning_values.Goals as goal

pub loop-warning-preserved : goal.loop-warning-preserved
loop-warning-preserved c =
    let one = warning_data c.args.sets.now in
    let warnings = c.args.warnings.now in
    let i = c.loop-warning.warning-index in
    ap (λ items. map view items ++ map one (drop (i + 1) warnings)) c.in_ok-push.ensures.items
    ∙ row_more one c.loop-warning.values.items c.in_ok-warning_value.field-0 warnings i c.warning-item.result c.loop-warning-test.true c.warning-item.is c.loop-warning.invariant c.in_ok-warning_value.ensures
