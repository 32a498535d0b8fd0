use Rattle.std.proofs.lemmas.Result.{err_from_is_err_and}
use Rattle.std.specs.List.{flat_map}
use Rattle.fault_lines.specs.FaultText.{fault_text}
use Rattle.fault_lines.specs.WarningText.{warnings_text}
use Rattle.text_lines.proofs.PutLemmas.{puts_after, puts_first}
use Rattle.fault_lines.proofs.warned.write_warned.Goals as goal

pub returns : goal.returns
returns g c =
    let all = c.args.faults.now in
    record {
      puts = puts_after _ _ _ _ _ _ _ _ (flat_map (fault_text all.sets) all.faults) (warnings_text all c.args.warnings.now)
          (rw (c.as_slice.ensures, c.as_slice-2.ensures) at c.in_ok-write_each.ensures.puts) c.write_rest.ensures.puts;
    }

pub returns-in_err-write_each : goal.returns-in_err-write_each
returns-in_err-write_each g c =
    let all = c.args.faults.now in
    let passed = err_from_is_err_and c.from_residual.result c.from_residual.ensures.1 in
    rw (passed.1, passed.2) (record { puts = puts_first _ _ _ _ _ _ (flat_map (fault_text all.sets) all.faults) (warnings_text all c.args.warnings.now) (rw (c.as_slice.ensures, c.as_slice-2.ensures) at c.in_err-write_each.ensures.puts) })
