use Rattle.flight_laws.proofs.SendLemmas.{flying_sends, call_sends, finish_sends, push_sends, whole_sends, action_sends, forgiven_sends}
use Rattle.flight_laws.proofs.laws.a_flight_is_sent.Goals as goal

pub returns-clause-flying : goal.returns-clause-flying
returns-clause-flying c = flying_sends

pub returns-clause-call : goal.returns-clause-call
returns-clause-call c = call_sends

pub returns-clause-finish : goal.returns-clause-finish
returns-clause-finish c = finish_sends

pub returns-clause-push : goal.returns-clause-push
returns-clause-push c = push_sends

pub returns-clause-whole : goal.returns-clause-whole
returns-clause-whole c = whole_sends

pub returns-clause-action : goal.returns-clause-action
returns-clause-action c = action_sends

pub returns-clause-forgiven : goal.returns-clause-forgiven
returns-clause-forgiven c = forgiven_sends
