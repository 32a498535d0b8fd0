use Rattle.std.proofs.Common.{Err, Ok}
use Rattle.std.proofs.lemmas.Result.{err_from_is_err_and}
use Rattle.target_machine.specs.declared.unit.Variable.{Variable}
use Rattle.report_lines.specs.Lines.{variable_line}
use Rattle.text_lines.proofs.RowLemmas.{item_at, row_cut, row_more}
use Rattle.report_lines.proofs.FrameLemmas.{puts_on}
use Rattle.report_lines.proofs.head.write_variables.Goals as goal

pub loop-variable-preserved : goal.loop-variable-preserved
loop-variable-preserved g c = record {
  text = row_more _ _ _ (λ (v : Variable). variable_line v.name v.value) c.args.variables.now c.loop-variable.variable-index c.variable-item.result (item_at c.args.variables.now c.loop-variable.variable-index c.variable-item.result c.loop-variable-test.true c.variable-item.is) c.loop-variable.invariant.text c.in_ok-write_variable.ensures.puts.text;
  ends = puts_on g.K.Sink.written g.K.Sink.faults tt (Ok tt) _ _ _ c.loop-variable.invariant.ends c.in_ok-write_variable.ensures.puts.ends;
}

pub returns-in_err-write_variable : goal.returns-in_err-write_variable
returns-in_err-write_variable g c =
    let passed = err_from_is_err_and c.from_residual.result c.from_residual.ensures.1 in
    rw (passed.1, passed.2) (record {
      puts = record {
        text = row_cut _ _ _ (λ (v : Variable). variable_line v.name v.value) c.args.variables.now c.loop-variable.variable-index c.variable-item.result (item_at c.args.variables.now c.loop-variable.variable-index c.variable-item.result c.loop-variable-test.true c.variable-item.is) c.loop-variable.invariant.text c.in_err-write_variable.ensures.puts.text;
        ends = puts_on g.K.Sink.written g.K.Sink.faults tt (Err c.in_err-write_variable.field-0.0) _ _ _ c.loop-variable.invariant.ends c.in_err-write_variable.ensures.puts.ends;
      };
    })
