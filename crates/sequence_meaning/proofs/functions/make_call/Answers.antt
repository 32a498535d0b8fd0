use Rattle.sequence_rules.specs.Calls.{function_result}
use Rattle.sequence_meaning.proofs.functions.make_call.Goals as goal

pub returns-in-Message : goal.returns-in-Message
unfolding function_result
returns-in-Message g c = rw c.in-Message.is (c.write_message.ensures c.args.target.now)

pub returns-in-Query : goal.returns-in-Query
unfolding function_result
returns-in-Query g c = rw c.in-Query.is (c.write_query.ensures c.args.target.now)

pub returns-in-QueryValue : goal.returns-in-QueryValue
unfolding function_result
returns-in-QueryValue g c = rw c.in-QueryValue.is (c.write_query_value.ensures c.args.target.now)

pub returns-in-LoadDebugInfo : goal.returns-in-LoadDebugInfo
unfolding function_result
returns-in-LoadDebugInfo g c = rw c.in-LoadDebugInfo.is (c.write_load.ensures c.args.target.now)
