use Rattle.std.proofs.lemmas.Result.{err_from_is_err_and}
use Rattle.std.specs.List.{flat_map}
use Rattle.fault_lines.specs.WarningText.{warning_text, warned_line}
use Rattle.text_lines.proofs.PutLemmas.{puts_after, puts_first}
use Rattle.fault_lines.proofs.warned.write_rest.Goals as goal

pub returns : goal.returns
returns g c =
    let all = c.args.faults.now in
    let warnings = c.args.warnings.now in
    record {
      puts = puts_after _ _ _ _ _ _ _ _ (flat_map (warning_text all.sets) warnings) (warned_line all warnings)
          (rw c.as_slice.ensures at c.in_ok-write_warnings.ensures.puts) (c.put_line.ensures.puts (warned_line all warnings) c.counts_of.ensures);
    }

pub returns-in_err-write_warnings : goal.returns-in_err-write_warnings
returns-in_err-write_warnings g c =
    let all = c.args.faults.now in
    let warnings = c.args.warnings.now in
    let passed = err_from_is_err_and c.from_residual.result c.from_residual.ensures.1 in
    rw (passed.1, passed.2) (record { puts = puts_first _ _ _ _ _ _ (flat_map (warning_text all.sets) warnings) (warned_line all warnings) (rw c.as_slice.ensures at c.in_err-write_warnings.ensures.puts) })
