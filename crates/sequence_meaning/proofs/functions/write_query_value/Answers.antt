use Rattle.std.proofs.Common.{false, subst}
use Rattle.sequence_rules.specs.Calls.{line_result}
use Rattle.sequence_rules.specs.Direct.{direct}
use Rattle.sequence_rules.specs.Lines.{value_line}
use Rattle.sequence_meaning.specs.Frame.{RunsDirect}
use Rattle.sequence_meaning.proofs.functions.write_query_value.Goals as goal

pub returns : goal.returns
returns g c = λ target.
    subst (λ n. RunsDirect (line_result (direct false) (value_line c.args.text.now n) n) g.K.Sink.written g.K.Sink.faults c.args.held.now target c.args.sink.now c.write_line.new.held target c.write_line.new.sink c.write_line.result) c.number_at-default.ensures
    (c.write_line.ensures target (value_line c.args.text.now c.number_at-default.result) c.value_line.ensures)
