use Rattle.std.proofs.Common.{◌≡◌, arith, drop, false, subst}
use Rattle.std.proofs.lemmas.Grind.{common_steps}
use Rattle.sequence_rules.specs.Calls.{line_result}
use Rattle.sequence_rules.specs.Direct.{direct}
use Rattle.sequence_rules.specs.Lines.{message_line}
use Rattle.sequence_meaning.specs.Frame.{RunsDirect}
use Rattle.sequence_meaning.proofs.functions.write_message.Goals.{else-is_empty, then-is_empty}
use Rattle.sequence_meaning.proofs.functions.write_message.Goals as goal

pub returns : goal.returns
returns g c = λ target.
    let more : c.if-is_empty.more.now ≡ drop 1 c.args.numbers.now = elim c.if-is_empty.branch [ then-is_empty w ↦ grind (arith, common_steps) | else-is_empty w ↦ grind (arith, common_steps) ] in
    subst (λ n. RunsDirect (line_result (direct false) (message_line n c.args.text.now (drop 1 c.args.numbers.now)) 0) g.K.Sink.written g.K.Sink.faults c.args.held.now target c.args.sink.now c.write_line.new.held target c.write_line.new.sink c.write_line.result) c.number_at.ensures
    (subst (λ ns. RunsDirect (line_result (direct false) (message_line c.number_at.result c.args.text.now ns) 0) g.K.Sink.written g.K.Sink.faults c.args.held.now target c.args.sink.now c.write_line.new.held target c.write_line.new.sink c.write_line.result) more
    (c.write_line.ensures target (message_line c.number_at.result c.args.text.now c.if-is_empty.more.now) c.message_line.ensures))
