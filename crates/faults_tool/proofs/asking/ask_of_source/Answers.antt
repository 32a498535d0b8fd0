use Rattle.std.proofs.Common.{ℕ, List, subst}
use Rattle.faults_tool.specs.Asked.{AsksOfPackBytes}
use Rattle.faults_tool.proofs.AskLemmas.{with_bytes}
use Rattle.faults_tool.proofs.asking.ask_of_source.Goals as goal

pub returns-in-Ok-ask_of_bytes-clause-asked : goal.returns-in-Ok-ask_of_bytes-clause-asked
returns-in-Ok-ask_of_bytes-clause-asked g c = λ given asks.
    with_bytes given (g.S.Source.left c.args.source.now) c.args.asked c.in-Ok.bytes.items c.in-Ok-ask_of_bytes.answer asks c.in-Ok.ensures.whole c.in-Ok.ensures.short
    (subst (λ (bs : List ℕ). AsksOfPackBytes bs c.args.asked c.in-Ok-ask_of_bytes.answer) c.deref.ensures.value c.in-Ok-ask_of_bytes.ensures)
