use Rattle.std.proofs.Common.{◌∙◌}
use Rattle.std.proofs.lemmas.Result.{err_from_is_err_and}
use Rattle.fault_lines.specs.WarningText.{warning_text}
use Rattle.text_lines.proofs.PutLemmas.{names_on}
use Rattle.text_lines.proofs.RowLemmas.{item_at, row_more, row_cut}
use Rattle.fault_lines.proofs.warned.write_warnings.Goals as goal

pub returns-in_err-put_made : goal.returns-in_err-put_made
returns-in_err-put_made g c =
    let x = c.warning-item.result in
    let puts = c.in_err-put_made.ensures.puts (warning_text c.args.sets.now x) c.text_of.ensures in
    let passed = err_from_is_err_and c.from_residual.result c.from_residual.ensures.1 in
    rw (passed.1, passed.2) (record {
      puts = record {
        text = row_cut _ _ _ (warning_text c.args.sets.now) c.args.warnings.now c.loop-warning.warning-index x (item_at c.args.warnings.now c.loop-warning.warning-index x c.loop-warning-test.true c.warning-item.is) c.loop-warning.invariant.text
            puts.text;
        sink = names_on _ _ _ _ _ c.loop-warning.invariant.sink puts.sink;
      };
    })

pub loop-warning-preserved : goal.loop-warning-preserved
loop-warning-preserved g c =
    let x = c.warning-item.result in
    let puts = c.in_ok-put_made.ensures.puts (warning_text c.args.sets.now x) c.text_of.ensures in
    record {
      text = row_more _ _ _ (warning_text c.args.sets.now) c.args.warnings.now c.loop-warning.warning-index x (item_at c.args.warnings.now c.loop-warning.warning-index x c.loop-warning-test.true c.warning-item.is) c.loop-warning.invariant.text
          puts.text;
      sink = puts.sink.else ∙ c.loop-warning.invariant.sink;
    }
