use Rattle.std.proofs.Common.{false, slice_index, subst}
use Rattle.sequence_rules.specs.Calls.{line_result}
use Rattle.sequence_rules.specs.Direct.{direct}
use Rattle.sequence_rules.specs.Lines.{query_line}
use Rattle.sequence_meaning.specs.Frame.{RunsDirect}
use Rattle.sequence_meaning.proofs.functions.write_query.Goals as goal

pub returns : goal.returns
returns g c = λ target.
    subst (λ n. RunsDirect (line_result (direct false) (query_line n c.args.text.now (slice_index c.args.numbers.now 1)) (slice_index c.args.numbers.now 1)) g.K.Sink.written g.K.Sink.faults c.args.held.now target c.args.sink.now c.write_line.new.held target c.write_line.new.sink c.write_line.result) c.number_at.ensures
    (subst (λ n. RunsDirect (line_result (direct false) (query_line c.number_at.result c.args.text.now n) n) g.K.Sink.written g.K.Sink.faults c.args.held.now target c.args.sink.now c.write_line.new.held target c.write_line.new.sink c.write_line.result) c.number_at-default.ensures
    (c.write_line.ensures target (query_line c.number_at.result c.args.text.now c.number_at-default.result) c.query_line.ensures))
