use Rattle.std.proofs.Common.{◌∙◌}
use Rattle.std.proofs.lemmas.Result.{err_from_is_err_and}
use Rattle.fault_lines.specs.FaultText.{fault_text}
use Rattle.text_lines.proofs.PutLemmas.{names_on}
use Rattle.text_lines.proofs.RowLemmas.{item_at, row_more, row_cut}
use Rattle.fault_lines.proofs.writing.write_each.Goals as goal

pub returns-in_err-put_made : goal.returns-in_err-put_made
returns-in_err-put_made g c =
    let x = c.fault-item.result in
    let puts = c.in_err-put_made.ensures.puts (fault_text c.args.sets.now x) c.text_of.ensures in
    let passed = err_from_is_err_and c.from_residual.result c.from_residual.ensures.1 in
    rw (passed.1, passed.2) (record {
      puts = record {
        text = row_cut _ _ _ (fault_text c.args.sets.now) c.args.faults.now c.loop-fault.fault-index x (item_at c.args.faults.now c.loop-fault.fault-index x c.loop-fault-test.true c.fault-item.is) c.loop-fault.invariant.text
            puts.text;
        sink = names_on _ _ _ _ _ c.loop-fault.invariant.sink puts.sink;
      };
    })

pub loop-fault-preserved : goal.loop-fault-preserved
loop-fault-preserved g c =
    let x = c.fault-item.result in
    let puts = c.in_ok-put_made.ensures.puts (fault_text c.args.sets.now x) c.text_of.ensures in
    record {
      text = row_more _ _ _ (fault_text c.args.sets.now) c.args.faults.now c.loop-fault.fault-index x (item_at c.args.faults.now c.loop-fault.fault-index x c.loop-fault-test.true c.fault-item.is) c.loop-fault.invariant.text
          puts.text;
      sink = puts.sink.else ∙ c.loop-fault.invariant.sink;
    }
