use Rattle.std.proofs.Common.{ℕ, List, Err, ap, subst}
use Rattle.log_tool.specs.Asked.{AsksOfJobBytes}
use Rattle.log_tool.proofs.AskLemmas.{with_bytes, with_too_long}
use Rattle.log_tool.proofs.asking.ask_of_source.Goals as goal

pub returns-in-Ok-ask_of_bytes-clause-asked : goal.returns-in-Ok-ask_of_bytes-clause-asked
returns-in-Ok-ask_of_bytes-clause-asked g c = λ given asks.
    with_bytes given (g.S.Source.left c.args.source.now) c.args.asked.now c.in-Ok.bytes.items c.in-Ok-ask_of_bytes.answer asks c.in-Ok.ensures.whole c.in-Ok.ensures.short
    (subst (λ (bs : List ℕ). AsksOfJobBytes bs c.args.asked.now c.in-Ok-ask_of_bytes.answer) c.deref.ensures.value c.in-Ok-ask_of_bytes.ensures)

pub returns-in-Err-TooLong-clause-asked : goal.returns-in-Err-TooLong-clause-asked
returns-in-Err-TooLong-clause-asked g c = λ given asks. with_too_long given (g.S.Source.left c.args.source.now) c.args.asked.now asks (c.in-Err-TooLong.ensures.too_long (ap Err c.in-Err-TooLong.field-0-is))
